-- A token that nearly allows does so where what its word tells of is mended.
use Rattle.std.proofs.Common.{◌≡◌, ℕ, zero, suc, ◌+◌, Bool, true, false, not, ◌&&◌, ◌||◌, cond, List, [], ◌∷◌, ◌++◌, map, codes, Option, Some, None, All, is_none, refl, sym, ap, ◌∙◌, subst, inl, inr, ◌⊎◌, arith}
use Rattle.std.specs.Prelude.{slice_get, unwrap_or}
use Rattle.std.specs.List.{list_all, list_any, filter, cons_option}
use Rattle.std.specs.Option.{option_map}
use Rattle.std.proofs.lemmas.Bool.{cases_Bool, cond-true, cond-false, and_from, or_left, or_right, or_from, or_parts, not-true, not_from_false, false≢true}
use Rattle.std.proofs.lemmas.Bool.Decides.{nat_tests}
use Rattle.std.proofs.lemmas.List.Elements.{All-nil, All-cons}
use Rattle.csp_model.specs.DecideFetch.{sources_allow}
use Rattle.csp_model.specs.DecideInline.{allows_all_inline, hash_counts, sources_allow_inline}
use Rattle.csp_model.specs.DecideMatching.{matches, list_matches}
use Rattle.csp_model.specs.DecideTokens.{is_hash, is_keyword, has_keyword, nonce_matches, integrity_matches, is_hash_of, digests_match}
use Rattle.csp_model.proofs.EqualityDecided.{same_hash_decides}
use Rattle.csp_model.specs.Ascii.{is_nonempty}
use Rattle.csp_model.specs.DecideNavigation.{grants}
use Rattle.csp_model.specs.DecideVerdict.{allows}
use Rattle.csp_model.specs.Fetch.{fetch_rule, is_redirected}
use Rattle.csp_model.specs.Governing.{Governor}
use Rattle.csp_model.specs.Inline.{is_element_kind, is_script_kind, is_nonce_or_hash}
use Rattle.csp_model.specs.Reading.{first_of}
use Rattle.csp_model.specs.declared.check.Capability.TheVariants as capability
use Rattle.csp_model.specs.declared.check.Check.{Check}
use Rattle.csp_model.specs.declared.check.Check.TheVariants as check
use Rattle.csp_model.specs.declared.check.Digests.{Digests}
use Rattle.csp_model.specs.declared.check.FetchRule.{FetchRule}
use Rattle.csp_model.specs.declared.check.FetchRule.TheVariants as fetch
use Rattle.csp_model.specs.declared.check.InlineKind.{InlineKind}
use Rattle.csp_model.specs.declared.name.Name.{Name}
use Rattle.csp_model.specs.declared.policy.Policy.{Policy}
use Rattle.csp_model.specs.declared.source.Hash.{Hash}
use Rattle.csp_model.specs.declared.source.Keyword.TheVariants as keyword
use Rattle.csp_model.specs.declared.source.Source.{Source}
use Rattle.csp_model.specs.declared.source.Source.TheVariants as source
use Rattle.csp_model.specs.declared.url.Origin.{Origin}
use Rattle.csp_model.specs.declared.url.Url.{Url}
use Rattle.csp_why.specs.Allowances.{allowances, is_some_hash, token_grants}
use Rattle.csp_why.specs.Displacement.{is_nonce_source, is_hash_source, displaces_sources, displaces_unsafe_inline, displacement}
use Rattle.csp_why.specs.Laws.{change_at, fitted, granted, is_dynamic, mended, mended_directive, with_changed}
use Rattle.csp_why.specs.Near.{changed, is_part_of_metadata, near_from, near_grant, near_inline, near_of, near_source, near_word, parts, some_matches, wrong_part}
use Rattle.csp_why.specs.Reasons.{acting, governed_reason, reason_by, reason}
use Rattle.csp_why.specs.declared.reason.Allowance.{Allowance}
use Rattle.csp_why.specs.declared.reason.Near.{Near}
use Rattle.csp_why.specs.declared.reason.Reason.TheVariants.{Ungoverned, Allows, Blocks}
use Rattle.csp_why.specs.declared.reason.Obstacle.{Obstacle}
use Rattle.csp_why.specs.declared.reason.Obstacle.TheVariants as word
use Rattle.csp_model.proofs.TokensDecided.{is_keyword_decides}
use Rattle.csp_why.proofs.Alone.{matches_no_keyword}
use Rattle.csp_why.proofs.Decided.{nonces_and_hashes}
use Rattle.csp_why.proofs.Finding.{find_passes, any_at, any_kept, none_kept}
use Rattle.csp_why.proofs.Governed.{test, allows_changed}

-- Lists with one item changed

module _ {X : Type 0} (p : X → Bool) (f : X → X) where
  any_changed : (xs : List X) (i : ℕ) (x : X) → slice_get xs i ≡ Some x → p (f x) ≡ true → list_any p (change_at f i xs) ≡ true
  any_changed [] i x here passes = absurd (let h : None ≡ Some x = here in let no : ⊥ = cc in no)
  any_changed (y ∷ xs) zero x here passes =
      let h : Some y ≡ Some x = here in let e : x ≡ y = cc in
      or_left (p (f y)) (list_any p xs) (subst (λ z. p (f z) ≡ true) e passes)
  any_changed (y ∷ xs) (suc i) x here passes = or_right (p y) (list_any p (change_at f i xs)) (any_changed xs i x here passes)

  none_changed : (xs : List X) (i : ℕ) (x : X) → slice_get xs i ≡ Some x → p (f x) ≡ false → list_any p xs ≡ false
      → list_any p (change_at f i xs) ≡ false
  none_changed [] i x here fails none = none
  none_changed (y ∷ xs) zero x here fails none =
      let h : Some y ≡ Some x = here in let e : x ≡ y = cc in
      or_from (p (f y)) (list_any p xs) (subst (λ z. p (f z) ≡ false) e fails) (or_parts (p y) (list_any p xs) none).1
  none_changed (y ∷ xs) (suc i) x here fails none =
      let rest = or_parts (p y) (list_any p xs) none in
      or_from (p y) (list_any p (change_at f i xs)) rest.0 (none_changed xs i x here fails rest.1)

module _ {X : Type 0} (p keep : X → Bool) where
  -- where nothing passes, nothing does of what is kept
  none_fewer : (xs : List X) → list_any p xs ≡ false → list_any p (filter keep xs) ≡ false
  none_fewer [] none = none
  none_fewer (x ∷ xs) none =
      let rest = or_parts (p x) (list_any p xs) none in
      elim (keep x) as (λ b. list_any p (cond b (x ∷ filter keep xs) (filter keep xs)) ≡ false) [
        | true ↦ or_from (p x) (list_any p (filter keep xs)) rest.0 (none_fewer xs rest.1)
        | false ↦ none_fewer xs rest.1
      ]

some_is : {A : Type 0} (b : Bool) (a : A) (o : Option A) (x : A) → cond b (Some a) o ≡ Some x → ((b ≡ true) × (a ≡ x)) ⊎ ((b ≡ false) × (o ≡ Some x))
some_is true a o x found = let h : Some a ≡ Some x = found in let e : a ≡ x = cc in inl (refl, e)
some_is false a o x found = inr (refl, found)

none_is : {A : Type 0} {P : Type 0} (x : A) → ◌≡◌ {A = Option A} None (Some x) → P
none_is x found = absurd (let no : ⊥ = cc in no)

-- One part changed

fitted_matches : (o : Option Source) (s : Source) (self : Origin) (there : Url) (redirected : Bool)
    → some_matches o self there redirected ≡ true → matches (unwrap_or o s) self there redirected ≡ true
fitted_matches (Some t) s self there redirected match = match
fitted_matches None s self there redirected match = absurd (false≢true match)

abbrev IsPart : Obstacle → Type 0
IsPart word.Scheme = Unit {0}
IsPart word.Port = Unit {0}
IsPart word.Path = Unit {0}
IsPart word.Suffix = Unit {0}
IsPart word.StrictDynamic = ⊥
IsPart word.Nonce = ⊥
IsPart word.Hash = ⊥
IsPart word.UnsafeHashes = ⊥
IsPart word.Integrity = ⊥
IsPart word.AllowScripts = ⊥
IsPart word.AllowSameOrigin = ⊥

is_part : (w : Obstacle) (there : Url) (s : Source) (self : Origin) (redirected : Bool)
    → some_matches (changed w self there s) self there redirected ≡ true → IsPart w
is_part word.Scheme there s self redirected match = tt
is_part word.Port there s self redirected match = tt
is_part word.Path there s self redirected match = tt
is_part word.Suffix there s self redirected match = tt
is_part word.StrictDynamic there s self redirected match = false≢true match
is_part word.Nonce there s self redirected match = false≢true match
is_part word.Hash there s self redirected match = false≢true match
is_part word.UnsafeHashes there s self redirected match = false≢true match
is_part word.Integrity there s self redirected match = false≢true match
is_part word.AllowScripts there s self redirected match = false≢true match
is_part word.AllowSameOrigin there s self redirected match = false≢true match

-- where a part is told, the list is the one with it changed
part_mended : (self : Origin) (integrity : List Hash) (w : Obstacle) (there : Option Url) (i : ℕ) (sources : List Source) → IsPart w
    → mended self integrity w there i sources ≡ change_at (fitted self w there) i sources
part_mended self integrity word.Scheme there i sources part = refl
part_mended self integrity word.Port there i sources part = refl
part_mended self integrity word.Path there i sources part = refl
part_mended self integrity word.Suffix there i sources part = refl
part_mended self integrity word.StrictDynamic there i sources part = absurd part
part_mended self integrity word.Nonce there i sources part = absurd part
part_mended self integrity word.Hash there i sources part = absurd part
part_mended self integrity word.UnsafeHashes there i sources part = absurd part
part_mended self integrity word.Integrity there i sources part = absurd part
part_mended self integrity word.AllowScripts there i sources part = absurd part
part_mended self integrity word.AllowSameOrigin there i sources part = absurd part

module _ (self : Origin) (integrity : List Hash) (there : Url) (redirected : Bool) (sources : List Source) (i : ℕ) (s : Source) (w : Obstacle) where
  abbrev now_matches : Source → Bool
  now_matches x = matches x self there redirected

  wrong_part_matches : wrong_part self there redirected s ≡ Some w → some_matches (changed w self there s) self there redirected ≡ true
  wrong_part_matches found = find_passes (λ (part : Obstacle). some_matches (changed part self there s) self there redirected) parts w found

  -- the list with the part changed matches
  part_matches : slice_get sources i ≡ Some s → wrong_part self there redirected s ≡ Some w
      → list_matches (mended self integrity w (Some there) i sources) self there redirected ≡ true
  part_matches here found =
      let match = wrong_part_matches found in
      subst (λ (xs : List Source). list_matches xs self there redirected ≡ true)
      (sym (part_mended self integrity w (Some there) i sources (is_part w there s self redirected match)))
      (any_changed now_matches (fitted self w (Some there)) sources i s here (fitted_matches (changed w self there s) s self there redirected match))

  -- and has no 'strict-dynamic' where there was none
  part_counts : slice_get sources i ≡ Some s → wrong_part self there redirected s ≡ Some w → has_keyword keyword.StrictDynamic sources ≡ false
      → has_keyword keyword.StrictDynamic (mended self integrity w (Some there) i sources) ≡ false
  part_counts here found none =
      let match = wrong_part_matches found in
      let fits = fitted_matches (changed w self there s) s self there redirected match in
      subst (λ (xs : List Source). has_keyword keyword.StrictDynamic xs ≡ false)
      (sym (part_mended self integrity w (Some there) i sources (is_part w there s self redirected match)))
      (none_changed (is_keyword keyword.StrictDynamic) (fitted self w (Some there)) sources i s here
      (matches_no_keyword (fitted self w (Some there) s) self there redirected fits) none)

-- Fetches

not_dynamic : (s : Source) → not (is_dynamic s) ≡ true → is_dynamic s ≡ false
not_dynamic s kept = not-true (is_dynamic s) kept

pub script_allows : (sources : List Source) (nonce : List ℕ) (integrity : List Hash) (parser_inserted listed : Bool)
    → has_keyword keyword.StrictDynamic sources ≡ false → listed ≡ true
    → sources_allow fetch.Script sources nonce integrity parser_inserted listed ≡ true
script_allows sources nonce integrity parser_inserted listed none match =
    let dynamic = has_keyword keyword.StrictDynamic sources in
    or_right (nonce_matches nonce sources) _ (or_right (integrity_matches integrity sources) _
    (or_right (dynamic && not parser_inserted) _ (and_from (not dynamic) listed (not_from_false dynamic none) match)))

-- Metadata that is there as a whole

not_empty : (integrity : List Hash) (s : Source) → is_some_hash integrity s ≡ true → is_nonempty integrity ≡ true
not_empty [] s some = absurd (false≢true some)
not_empty (hash ∷ hashes) s some = grind (arith, nat_tests)

both_true : (x y : Bool) → (x && y) ≡ true → (x ≡ true) × (y ≡ true)
both_true true y both = (refl, both)
both_true false y both = absurd (false≢true both)

abbrev digest : Hash → Source
digest hash = source.Digest hash

all_weaker : (p q : Hash → Bool) → ((h : Hash) → p h ≡ true → q h ≡ true) → (hs : List Hash) → list_all p hs ≡ true
    → list_all q hs ≡ true
all_weaker p q weaker [] all = refl
all_weaker p q weaker (h ∷ hs) all =
    let both = both_true (p h) (list_all p hs) all in
    and_from (q h) (list_all q hs) (weaker h both.0) (all_weaker p q weaker hs both.1)

all_there : (integrity : List Hash) (sources : List Source)
    → list_all (λ h. list_any (is_hash h) (map digest integrity ++ sources)) integrity ≡ true
all_there [] sources = refl
all_there (hash ∷ hashes) sources =
    let rest = map digest hashes ++ sources in
    and_from (is_hash hash (digest hash) || list_any (is_hash hash) rest) _
    (or_left (is_hash hash (digest hash)) (list_any (is_hash hash) rest) ((same_hash_decides hash hash).1 refl))
    (all_weaker (λ h. list_any (is_hash h) rest) (λ h. is_hash h (digest hash) || list_any (is_hash h) rest)
    (λ h is. or_right (is_hash h (digest hash)) (list_any (is_hash h) rest) is) hashes (all_there hashes sources))

module _ (nonce : List ℕ) (integrity : List Hash) (parser_inserted : Bool) (self : Origin) (there : Url) (redirected : Bool)
    (sources : List Source) (i : ℕ) (s : Source) (w : Obstacle) (here : slice_get sources i ≡ Some s) where
  abbrev Mends : FetchRule → Obstacle → Type 0
  Mends which x =
      sources_allow which (mended self integrity x (Some there) i sources) nonce integrity parser_inserted
      (list_matches (mended self integrity x (Some there) i sources) self there redirected) ≡ true

  script_part : has_keyword keyword.StrictDynamic sources ≡ false → wrong_part self there redirected s ≡ Some w → Mends fetch.Script w
  script_part none found =
      script_allows (mended self integrity w (Some there) i sources) nonce integrity parser_inserted _
      (part_counts self integrity there redirected sources i s w here found none) (part_matches self integrity there redirected sources i s w here found)

  script_dynamic : matches s self there redirected ≡ true → Mends fetch.Script word.StrictDynamic
  script_dynamic match =
      let p = λ (x : Source). matches x self there redirected in
      let keep = λ (x : Source). not (is_dynamic x) in
      script_allows (filter keep sources) nonce integrity parser_inserted _
      (none_kept (is_keyword keyword.StrictDynamic) keep sources (λ x kept. not_dynamic x kept))
      (any_kept p keep sources (λ x is. not_from_false (is_dynamic x) (matches_no_keyword x self there redirected is))
      (any_at p sources i s here match))

  script_mends : (dynamic : Bool) → has_keyword keyword.StrictDynamic sources ≡ dynamic
      → near_source (cond dynamic (Some word.StrictDynamic) None) self there redirected s ≡ Some w → Mends fetch.Script w
  script_mends true has found =
      elim (some_is (matches s self there redirected) word.StrictDynamic None w found) [
        | inl (match, same) ↦ subst (Mends fetch.Script) same (script_dynamic match)
        | inr (fails, none) ↦ none_is w none
      ]
  script_mends false has found = script_part has found

  -- with all of the metadata there, the script's hashes count
  metadata_mends : is_some_hash integrity s ≡ true → Mends fetch.Script word.Integrity
  metadata_mends some =
      or_right (nonce_matches nonce (mended self integrity word.Integrity (Some there) i sources)) _
      (or_left (integrity_matches integrity (mended self integrity word.Integrity (Some there) i sources)) _
      (and_from (is_nonempty integrity) _ (not_empty integrity s some) (all_there integrity sources)))

  source_mends : (which : FetchRule) → near_source (displaces_sources which sources) self there redirected s ≡ Some w → Mends which w
  source_mends fetch.Script found = script_mends (has_keyword keyword.StrictDynamic sources) refl found
  source_mends fetch.Style found =
      or_right (nonce_matches nonce (mended self integrity w (Some there) i sources)) _ (part_matches self integrity there redirected sources i s w here found)
  source_mends fetch.List found = part_matches self integrity there redirected sources i s w here found

  fetch_mends : (which : FetchRule) → cond (is_part_of_metadata which integrity s) (Some word.Integrity)
      (near_source (displaces_sources which sources) self there redirected s) ≡ Some w → Mends which w
  fetch_mends fetch.Script found =
      elim (some_is (is_some_hash integrity s) word.Integrity _ w found) [
        | inl (some, same) ↦ subst (Mends fetch.Script) same (metadata_mends some)
        | inr (none, source) ↦ source_mends fetch.Script source
      ]
  fetch_mends fetch.Style found = source_mends fetch.Style found
  fetch_mends fetch.List found = source_mends fetch.List found

-- Inline code and style

-- 'unsafe-inline' is no nonce and no hash, and isn't 'strict-dynamic'
stays : (s : Source) → is_keyword keyword.UnsafeInline s ≡ true → (is_nonce_or_hash s || is_dynamic s) ≡ false
stays s is = ap (λ t. is_nonce_or_hash t || is_dynamic t) ((is_keyword_decides keyword.UnsafeInline s).0 is)

acts_in : (kind : InlineKind) (sources : List Source) → has_keyword keyword.UnsafeInline sources ≡ true
    → list_any is_nonce_or_hash sources ≡ false → has_keyword keyword.StrictDynamic sources ≡ false → allows_all_inline kind sources ≡ true
acts_in kind sources has alone dynamic =
    and_from (has_keyword keyword.UnsafeInline sources) _ has
    (and_from (not (list_any is_nonce_or_hash sources)) _ (not_from_false (list_any is_nonce_or_hash sources) alone)
    (or_right (not (is_script_kind kind)) (not (has_keyword keyword.StrictDynamic sources))
    (not_from_false (has_keyword keyword.StrictDynamic sources) dynamic)))

abbrev displaced_by : Bool → Bool → Bool → Option Obstacle
displaced_by nonces hashes dynamic =
    cond nonces (Some word.Nonce) (cond hashes (Some word.Hash) (cond dynamic (Some word.StrictDynamic) None))

module _ (self : Origin) (kind : InlineKind) (nonce : List ℕ) (digests : Digests) (there : Option Url) (sources : List Source) (i : ℕ) (s : Source)
    (here : slice_get sources i ≡ Some s) where
  abbrev InlineMends : Obstacle → Type 0
  InlineMends w = sources_allow_inline kind nonce digests (mended self [] w there i sources) ≡ true

  abbrev kept : Source → Bool
  kept x = not (is_nonce_or_hash x || is_dynamic x)

  -- with all that could take its place gone, 'unsafe-inline' acts
  cleared : is_keyword keyword.UnsafeInline s ≡ true → sources_allow_inline kind nonce digests (filter kept sources) ≡ true
  cleared is =
      or_left (allows_all_inline kind (filter kept sources)) _
      (acts_in kind (filter kept sources)
      (any_kept (is_keyword keyword.UnsafeInline) kept sources (λ x h. not_from_false (is_nonce_or_hash x || is_dynamic x) (stays x h))
      (any_at (is_keyword keyword.UnsafeInline) sources i s here is))
      (none_kept is_nonce_or_hash kept sources (λ x h. (or_parts (is_nonce_or_hash x) (is_dynamic x) (not-true (is_nonce_or_hash x || is_dynamic x) h)).0))
      (none_kept (is_keyword keyword.StrictDynamic) kept sources (λ x h. (or_parts (is_nonce_or_hash x) (is_dynamic x) (not-true (is_nonce_or_hash x || is_dynamic x) h)).1)))

  undone : is_keyword keyword.UnsafeInline s ≡ true → list_any is_nonce_source sources ≡ false → list_any is_hash_source sources ≡ false
      → InlineMends word.StrictDynamic
  undone is nonces hashes =
      let keep = λ (x : Source). not (is_dynamic x) in
      or_left (allows_all_inline kind (filter keep sources)) _
      (acts_in kind (filter keep sources)
      (any_kept (is_keyword keyword.UnsafeInline) keep sources
      (λ x h. not_from_false (is_dynamic x) (or_parts (is_nonce_or_hash x) (is_dynamic x) (stays x h)).1)
      (any_at (is_keyword keyword.UnsafeInline) sources i s here is))
      (none_fewer is_nonce_or_hash keep sources
      (nonces_and_hashes sources ∙ or_from (list_any is_nonce_source sources) (list_any is_hash_source sources) nonces hashes))
      (none_kept (is_keyword keyword.StrictDynamic) keep sources (λ x h. not_dynamic x h)))

  displaced_mends : (w : Obstacle) (nonces hashes dynamic : Bool) → is_keyword keyword.UnsafeInline s ≡ true
      → list_any is_nonce_source sources ≡ nonces → list_any is_hash_source sources ≡ hashes
      → displaced_by nonces hashes dynamic ≡ Some w → InlineMends w
  displaced_mends w true hashes dynamic is n h found =
      let e : Some word.Nonce ≡ Some w = found in let same : word.Nonce ≡ w = cc in subst InlineMends same (cleared is)
  displaced_mends w false true dynamic is n h found =
      let e : Some word.Hash ≡ Some w = found in let same : word.Hash ≡ w = cc in subst InlineMends same (cleared is)
  displaced_mends w false false true is n h found =
      let e : Some word.StrictDynamic ≡ Some w = found in let same : word.StrictDynamic ≡ w = cc in subst InlineMends same (undone is n h)
  displaced_mends w false false false is n h found = none_is w found

  -- a hash of the very text counts with 'unsafe-hashes'
  hash_mends : is_hash_of digests s ≡ true → InlineMends word.UnsafeHashes
  hash_mends is =
      let these = source.Word keyword.UnsafeHashes ∷ sources in
      or_right (allows_all_inline kind these) _ (or_right (is_element_kind kind && nonce_matches nonce these) _
      (and_from (digests_match digests these) (hash_counts kind these) (any_at (is_hash_of digests) sources i s here is)
      (or_right (is_element_kind kind) true refl)))

  inline_mends : (w : Obstacle) → near_inline (displaces_unsafe_inline (is_script_kind kind) sources) digests s ≡ Some w → InlineMends w
  inline_mends w found =
      elim (cases_Bool (is_keyword keyword.UnsafeInline s)) [
        | inl is ↦
            displaced_mends w (list_any is_nonce_source sources) (list_any is_hash_source sources)
            (is_script_kind kind && has_keyword keyword.StrictDynamic sources) is refl refl
            (sym (cond-true (is_keyword keyword.UnsafeInline s) _ _ is) ∙ found)
        | inr other ↦
            elim (some_is (is_hash_of digests s) word.UnsafeHashes None w (sym (cond-false (is_keyword keyword.UnsafeInline s) _ _ other) ∙ found)) [
              | inl (is, same) ↦ subst InlineMends same (hash_mends is)
              | inr (fails, none) ↦ none_is w none
            ]
      ]

-- Each check

abbrev near_at : ℕ → Obstacle → Near
near_at i w = record { token = i; word = w }

abbrev Mended : Origin → Check → Governor → Near → Type 0
Mended self asked g n = test self asked (record { name = g.name; directive = mended_directive self asked n g.directive }) ≡ true

word_mends : (self : Origin) (asked : Check) (g : Governor) (i : ℕ) (s : Source) (w : Obstacle) → slice_get g.directive.sources i ≡ Some s
    → near_word self g.name asked (displacement asked g.name g.directive.sources) s ≡ Some w → Mended self asked g (near_at i w)
word_mends self (check.Fetch group there redirects nonce integrity parser_inserted) g i s w here found =
    fetch_mends nonce integrity parser_inserted self there (is_redirected redirects) g.directive.sources i s w here (fetch_rule group g.name) found
word_mends self (check.Inline kind nonce digests) g i s w here found =
    inline_mends self kind nonce digests None g.directive.sources i s here w found
word_mends self check.Eval g i s w here found = none_is w found
word_mends self check.Wasm g i s w here found = none_is w found
word_mends self (check.Base there) g i s w here found = part_matches self [] there false g.directive.sources i s w here found
word_mends self (check.Form there redirects) g i s w here found =
    part_matches self [] there (is_redirected redirects) g.directive.sources i s w here found
word_mends self (check.Ancestor there) g i s w here found = part_matches self [] there false g.directive.sources i s w here found
word_mends self check.OpaqueAncestor g i s w here found = none_is w found
word_mends self (check.Capability capability) g i s w here found = none_is w found
word_mends self check.WorkerStart g i s w here found = none_is w found

-- A worker's sandbox

grant_mends : (tokens : List (List ℕ)) (i : ℕ) (token : List ℕ) (w : Obstacle) → slice_get tokens i ≡ Some token
    → near_grant token ≡ Some w
    → (grants (granted w tokens) capability.Scripts && grants (granted w tokens) capability.SameOrigin) ≡ true
grant_mends tokens i token w here found =
    elim (some_is (token_grants capability.Scripts token) word.AllowSameOrigin _ w found) [
      | inl (scripts, same) ↦
          subst (λ (x : Obstacle). (grants (granted x tokens) capability.Scripts && grants (granted x tokens) capability.SameOrigin) ≡ true) same
          (and_from _ _
          (or_right (token_grants capability.Scripts (codes "allow-same-origin")) _ (any_at (token_grants capability.Scripts) tokens i token here scripts))
          (or_left (token_grants capability.SameOrigin (codes "allow-same-origin")) (grants tokens capability.SameOrigin) refl))
      | inr (fails, rest) ↦ elim (some_is (token_grants capability.SameOrigin token) word.AllowScripts None w rest) [
        | inl (same_origin, same) ↦
            subst (λ (x : Obstacle). (grants (granted x tokens) capability.Scripts && grants (granted x tokens) capability.SameOrigin) ≡ true) same
            (and_from _ _ (or_left (token_grants capability.Scripts (codes "allow-scripts")) (grants tokens capability.Scripts) refl)
            (or_right (token_grants capability.SameOrigin (codes "allow-scripts")) _ (any_at (token_grants capability.SameOrigin) tokens i token here same_origin)))
        | inr (other, none) ↦ none_is w none
      ]
    ]

-- All that are told

next_place : (n k : ℕ) → n + 1 + k ≡ n + suc k
next_place n k = omega arith

first_place : (n : ℕ) → n + 0 ≡ n
first_place n = omega arith

nothing_before : (k : ℕ) → 0 + k ≡ k
nothing_before k = omega arith

head_is : (P : Near → Type 0) (n : ℕ) (o : Option Obstacle) (rest : List Near) → ((w : Obstacle) → o ≡ Some w → P (near_at n w)) → All P rest
    → All P (cons_option (option_map (λ (w : Obstacle). near_at n w) o) rest)
head_is P n None rest each all = all
head_is P n (Some w) rest each all = All-cons P (near_at n w) rest (each w refl) all

near_are : {A : Type 0} (P : Near → Type 0) (word_of : A → Option Obstacle) (n : ℕ) (items : List A)
    → ((k : ℕ) (x : A) (w : Obstacle) → slice_get items k ≡ Some x → word_of x ≡ Some w → P (near_at (n + k) w))
    → All P (near_from word_of n items)
near_are P word_of n [] each = All-nil P
near_are P word_of n (x ∷ items) each =
    head_is P n (word_of x) (near_from word_of (n + 1) items)
    (λ w is. subst (λ (m : ℕ). P (near_at m w)) (first_place n) (each zero x w refl is))
    (near_are P word_of (n + 1) items (λ k y w here is. subst (λ (m : ℕ). P (near_at m w)) (sym (next_place n k)) (each (suc k) y w here is)))

abbrev Allowed : Policy → Check → Name → Near → Type 0
Allowed p asked name n = allows (with_changed name (mended_directive p.origin asked n) p) asked ≡ true

-- the tokens with a word, each of which allows where the directive is mended
all_mended : {A : Type 0} (p : Policy) (asked : Check) (g : Governor) (word_of : A → Option Obstacle) (items : List A)
    → acting p asked ≡ Some g
    → ((k : ℕ) (x : A) (w : Obstacle) → slice_get items k ≡ Some x → word_of x ≡ Some w → Mended p.origin asked g (near_at k w))
    → All (Allowed p asked g.name) (near_from word_of 0 items)
all_mended p asked g word_of items acts each =
    near_are (Allowed p asked g.name) word_of 0 items
    (λ k x w here is. subst (λ (m : ℕ). Allowed p asked g.name (near_at m w)) (sym (nothing_before k))
    (allows_changed p asked g (mended_directive p.origin asked (near_at k w)) (λ d. refl) acts (each k x w here is)))

sources_mended : (p : Policy) (asked : Check) (g : Governor) → acting p asked ≡ Some g
    → All (Allowed p asked g.name) (near_from (near_word p.origin g.name asked (displacement asked g.name g.directive.sources)) 0 g.directive.sources)
sources_mended p asked g acts =
    all_mended p asked g (near_word p.origin g.name asked (displacement asked g.name g.directive.sources)) g.directive.sources acts
    (λ k s w here is. word_mends p.origin asked g k s w here is)

near_mended : (p : Policy) (asked : Check) (g : Governor) → acting p asked ≡ Some g
    → All (Allowed p asked g.name) (near_of p.origin asked (displacement asked g.name g.directive.sources) g)
near_mended p check.WorkerStart g acts =
    all_mended p check.WorkerStart g near_grant g.directive.tokens acts
    (λ k token w here is. grant_mends g.directive.tokens k token w here is)
near_mended p asked g acts = sources_mended p asked g acts

told_by : (p : Policy) (asked : Check) (g : Governor) (o : Option Allowance) (name : Name) (near : List Near) → acting p asked ≡ Some g
    → governed_reason p asked (displacement asked g.name g.directive.sources) g o ≡ Blocks name near → All (Allowed p asked name) near
told_by p asked g (Some a) name near acts is = absurd (let h : Allows g.name a ≡ Blocks name near = is in let no : ⊥ = cc in no)
told_by p asked g None name near acts is =
    let these = near_of p.origin asked (displacement asked g.name g.directive.sources) g in
    let h : Blocks g.name these ≡ Blocks name near = is in
    let same_name : g.name ≡ name = cc in
    let same : these ≡ near = cc in
    subst (λ (n : Name). All (Allowed p asked n) near) same_name
    (subst (All (Allowed p asked g.name)) same (near_mended p asked g acts))

told_where : (p : Policy) (asked : Check) (o : Option Governor) (name : Name) (near : List Near) → acting p asked ≡ o
    → reason_by p asked o ≡ Blocks name near → All (Allowed p asked name) near
told_where p asked None name near acts is = absurd (let h : Ungoverned ≡ Blocks name near = is in let no : ⊥ = cc in no)
told_where p asked (Some g) name near acts is =
    told_by p asked g (first_of (allowances p.origin asked (is_none (displacement asked g.name g.directive.sources)) g)) name near acts is

pub told_mended : (p : Policy) (asked : Check) (name : Name) (near : List Near) → reason p asked ≡ Blocks name near
    → All (Allowed p asked name) near
told_mended p asked name near is = told_where p asked (acting p asked) name near refl is
