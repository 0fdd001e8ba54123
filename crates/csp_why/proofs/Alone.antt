-- The token that is told allows alone, with what its rule needs.
use Rattle.std.proofs.Common.{◌≡◌, ℕ, Bool, true, false, not, ◌&&◌, List, [], ◌∷◌, Option, Some, None, is_none, refl, sym, ap, subst, inl, inr}
use Rattle.std.specs.Prelude.{position, slice_get}
use Rattle.std.specs.List.{list_any, list_all, filter, cons_option}
use Rattle.std.proofs.lemmas.Bool.{and_parts, and_from, or_left, or_right, or_from, or_cases, not_from_false, false≢true}
use Rattle.csp_model.specs.Ascii.{is_nonempty}
use Rattle.csp_model.specs.DecideFetch.{sources_allow}
use Rattle.csp_model.specs.DecideInline.{allows_all_inline, hash_counts, sources_allow_inline}
use Rattle.csp_model.specs.DecideEquality.{same_keyword}
use Rattle.csp_model.specs.DecideMatching.{matches, list_matches, self_matches}
use Rattle.csp_model.specs.DecideNavigation.{grants}
use Rattle.csp_model.specs.DecideTokens.{is_keyword, has_keyword, is_nonce, nonce_matches, is_hash, integrity_matches, is_hash_of, digests_match}
use Rattle.csp_model.specs.DecideVerdict.{allows}
use Rattle.csp_model.specs.Fetch.{fetch_rule, is_redirected}
use Rattle.csp_model.specs.Governing.{Governor}
use Rattle.csp_model.specs.Inline.{is_element_kind, is_script_kind, is_nonce_or_hash}
use Rattle.csp_model.specs.declared.check.Capability.TheVariants as capability
use Rattle.csp_model.specs.declared.check.Check.{Check}
use Rattle.csp_model.specs.declared.check.Check.TheVariants as check
use Rattle.csp_model.specs.declared.check.Digests.{Digests}
use Rattle.csp_model.specs.declared.check.FetchRule.{FetchRule}
use Rattle.csp_model.specs.declared.check.FetchRule.TheVariants as fetch
use Rattle.csp_model.specs.declared.check.Group.{Group}
use Rattle.csp_model.specs.declared.check.InlineKind.{InlineKind}
use Rattle.csp_model.specs.declared.name.Name.{Name}
use Rattle.csp_model.specs.declared.policy.Policy.{Policy}
use Rattle.csp_model.specs.declared.source.Hash.{Hash}
use Rattle.csp_model.specs.declared.source.Keyword.TheVariants as keyword
use Rattle.csp_model.specs.declared.source.Source.{Source}
use Rattle.csp_model.specs.declared.source.Source.TheVariants as source
use Rattle.csp_model.specs.declared.url.Origin.{Origin}
use Rattle.csp_model.specs.declared.url.Url.{Url}
use Rattle.csp_why.specs.Allowances.{only_where, source_token, keyword_token, nonce_token, is_some_hash, integrity_token, digest_token, token_grants, grant_token, is_for_worker, worker_token, by, fetch_allowances, inline_allowances, allowances}
use Rattle.csp_why.specs.Displacement.{displaces_sources, displacement}
use Rattle.csp_why.specs.Laws.{needs, alone, with_changed}
use Rattle.csp_why.specs.Reasons.{acting, governed_reason, reason_by, reason}
use Rattle.csp_why.specs.declared.reason.Allowance.{Allowance}
use Rattle.csp_why.specs.declared.reason.Reason.TheVariants.{Ungoverned, Allows}
use Rattle.csp_why.specs.declared.reason.Rule.{Rule}
use Rattle.csp_why.specs.declared.reason.Rule.TheVariants as rule
use Rattle.csp_model.specs.Reading.{first_of}
use Rattle.csp_model.proofs.EqualityDecided.{same_keyword_decides}
use Rattle.csp_model.proofs.TokensDecided.{is_keyword_decides}
use Rattle.csp_why.proofs.Finding.{Each, any_kept, none_kept, first_holds, position_placed}
use Rattle.csp_why.proofs.Governed.{test, allows_changed}

-- A rule that is told

of_by : (P : Allowance → Type 0) (which : Rule) (o : Option ℕ) → ((i : ℕ) → o ≡ Some i → P (record { rule = which; token = i }))
    → (a : Allowance) → by which o ≡ Some a → P a
of_by P which None each a found = absurd (let h : None ≡ Some a = found in let no : ⊥ = cc in no)
of_by P which (Some i) each a found =
    let h : Some (record { rule = which; token = i }) ≡ Some a = found in
    let e : record { rule = which; token = i } ≡ a = cc in
    subst P e (each i refl)

of_where : (b : Bool) (o : Option ℕ) (i : ℕ) → only_where b o ≡ Some i → (b ≡ true) × (o ≡ Some i)
of_where true o i found = (refl, found)
of_where false o i found = absurd (let h : None ≡ Some i = found in let no : ⊥ = cc in no)

module _ {X : Type 0} (p : X → Bool) where
  -- the token at the place passes, whatever stands beside it
  alone_passes : (xs rest : List X) (i : ℕ) → position p xs ≡ Some i → list_any p (cons_option (slice_get xs i) rest) ≡ true
  alone_passes xs rest i found =
      let placed = position_placed p xs i found in
      subst (λ (o : Option X). list_any p (cons_option o rest) ≡ true) (sym placed.here) (or_left (p placed.item) (list_any p rest) placed.passes)

  pub any_beside : (o : Option X) (xs : List X) → list_any p xs ≡ true → list_any p (cons_option o xs) ≡ true
  any_beside None xs some = some
  any_beside (Some x) xs some = or_right (p x) (list_any p xs) some

  -- a test that fails at the token, with nothing beside it
  alone_fails : (xs : List X) (i : ℕ) (x : X) → slice_get xs i ≡ Some x → p x ≡ false
      → list_any p (cons_option (slice_get xs i) (filter (λ _. false) xs)) ≡ false
  alone_fails xs i x here fails =
      subst (λ (o : Option X). list_any p (cons_option o (filter (λ _. false) xs)) ≡ false) (sym here)
      (or_from (p x) (list_any p (filter (λ _. false) xs)) fails (none_kept p (λ _. false) xs (λ y no. absurd (false≢true no))))

-- Sources that match are no 'strict-dynamic'

pub matches_no_keyword : (s : Source) (self : Origin) (there : Url) (redirected : Bool)
    → matches s self there redirected ≡ true → is_keyword keyword.StrictDynamic s ≡ false
matches_no_keyword source.Star self there redirected match = refl
matches_no_keyword (source.SchemeOnly scheme) self there redirected match = refl
matches_no_keyword (source.Hosted scheme host port path) self there redirected match = refl
matches_no_keyword (source.Word word) self there redirected match =
    let here = (same_keyword_decides word keyword.SelfOrigin).0 (and_parts (same_keyword word keyword.SelfOrigin) (self_matches self there) match).0 in
    ap (λ w. same_keyword w keyword.StrictDynamic) here
matches_no_keyword (source.Nonce value) self there redirected match = refl
matches_no_keyword (source.Digest hash) self there redirected match = refl
matches_no_keyword (source.Other token) self there redirected match = refl

-- Fetches

all_kept : (keep : Source → Bool) (o : Option Source) (sources : List Source) (hashes : List Hash)
    → ((s : Source) → is_some_hash hashes s ≡ true → keep s ≡ true)
    → list_all (λ (h : Hash). list_any (is_hash h) sources) hashes ≡ true
    → list_all (λ (h : Hash). list_any (is_hash h) (cons_option o (filter keep sources))) hashes ≡ true
all_kept keep o sources [] kept all = refl
all_kept keep o sources (h ∷ hashes) kept all =
    let parts = and_parts (list_any (is_hash h) sources) (list_all (λ (x : Hash). list_any (is_hash x) sources) hashes) all in
    and_from (list_any (is_hash h) (cons_option o (filter keep sources)))
    (list_all (λ (x : Hash). list_any (is_hash x) (cons_option o (filter keep sources))) hashes)
    (any_beside (is_hash h) o (filter keep sources) (any_kept (is_hash h) keep sources
    (λ s is. kept s (or_left (is_hash h s) (is_some_hash hashes s) is)) parts.0))
    (all_kept keep o sources hashes (λ s is. kept s (or_right (is_hash h s) (is_some_hash hashes s) is)) parts.1)

integrity_alone : (integrity : List Hash) (o : Option Source) (sources : List Source) → integrity_matches integrity sources ≡ true
    → integrity_matches integrity (cons_option o (filter (is_some_hash integrity) sources)) ≡ true
integrity_alone integrity o sources match =
    let parts = and_parts (is_nonempty integrity) (list_all (λ (h : Hash). list_any (is_hash h) sources) integrity) match in
    and_from (is_nonempty integrity) _ parts.0 (all_kept (is_some_hash integrity) o sources integrity (λ s is. is) parts.1)

module _ (group : Group) (there : Url) (redirects : ℕ) (nonce : List ℕ) (integrity : List Hash) (parser_inserted : Bool)
    (self : Origin) (sources : List Source) where
  abbrev beside : Allowance → List Source
  beside a = cons_option (slice_get sources a.token)
      (filter (needs a.rule (check.Fetch group there redirects nonce integrity parser_inserted)) sources)

  abbrev Allowed : FetchRule → Allowance → Type 0
  Allowed which a =
      sources_allow which (beside a) nonce integrity parser_inserted (list_matches (beside a) self there (is_redirected redirects)) ≡ true

  abbrev at : Rule → ℕ → Allowance
  at which i = record { rule = which; token = i }

  nonce_alone : (i : ℕ) → nonce_token nonce sources ≡ Some i → nonce_matches nonce (beside (at rule.Nonce i)) ≡ true
  nonce_alone i found =
      let parts = of_where (is_nonempty nonce) (position (is_nonce nonce) sources) i found in
      and_from (is_nonempty nonce) _ parts.0 (alone_passes (is_nonce nonce) sources _ i parts.1)

  source_alone : (i : ℕ) → source_token self there (is_redirected redirects) sources ≡ Some i
      → list_matches (beside (at rule.Source i)) self there (is_redirected redirects) ≡ true
  source_alone i found = alone_passes (λ (s : Source). matches s self there (is_redirected redirects)) sources _ i found

  -- a source that matches is no 'strict-dynamic'
  source_counts : (i : ℕ) → source_token self there (is_redirected redirects) sources ≡ Some i
      → has_keyword keyword.StrictDynamic (beside (at rule.Source i)) ≡ false
  source_counts i found =
      let placed = position_placed (λ (s : Source). matches s self there (is_redirected redirects)) sources i found in
      alone_fails (is_keyword keyword.StrictDynamic) sources i placed.item placed.here
      (matches_no_keyword placed.item self there (is_redirected redirects) placed.passes)

  dynamic_alone : (i : ℕ) → only_where (not parser_inserted) (keyword_token keyword.StrictDynamic sources) ≡ Some i
      → Allowed fetch.Script (at rule.StrictDynamic i)
  dynamic_alone i found =
      let parts = of_where (not parser_inserted) (keyword_token keyword.StrictDynamic sources) i found in
      or_right (nonce_matches nonce (beside (at rule.StrictDynamic i))) _
      (or_right (integrity_matches integrity (beside (at rule.StrictDynamic i))) _
      (or_left (has_keyword keyword.StrictDynamic (beside (at rule.StrictDynamic i)) && not parser_inserted) _
      (and_from _ _ (alone_passes (is_keyword keyword.StrictDynamic) sources _ i parts.1) parts.0)))

  script_source_alone : (i : ℕ) → source_token self there (is_redirected redirects) sources ≡ Some i
      → Allowed fetch.Script (at rule.Source i)
  script_source_alone i found =
      let dynamic = has_keyword keyword.StrictDynamic (beside (at rule.Source i)) in
      or_right (nonce_matches nonce (beside (at rule.Source i))) _
      (or_right (integrity_matches integrity (beside (at rule.Source i))) _
      (or_right (dynamic && not parser_inserted) _
      (and_from (not dynamic) _ (not_from_false dynamic (source_counts i found)) (source_alone i found))))

  fetch_alone : (which : FetchRule) → Each (Allowed which) (fetch_allowances which sources nonce integrity parser_inserted
      (only_where (is_none (displaces_sources which sources)) (source_token self there (is_redirected redirects) sources)))
  fetch_alone fetch.Script = (
    of_by (Allowed fetch.Script) rule.Nonce (nonce_token nonce sources) (λ i found.
        or_left (nonce_matches nonce (beside (at rule.Nonce i))) _ (nonce_alone i found)),
    (
      of_by (Allowed fetch.Script) rule.Integrity (integrity_token integrity sources) (λ i found.
          or_right (nonce_matches nonce (beside (at rule.Integrity i))) _
          (or_left (integrity_matches integrity (beside (at rule.Integrity i))) _
          (integrity_alone integrity (slice_get sources i) sources
          (of_where (integrity_matches integrity sources) (position (is_some_hash integrity) sources) i found).0))),
      (
        of_by (Allowed fetch.Script) rule.StrictDynamic (only_where (not parser_inserted) (keyword_token keyword.StrictDynamic sources)) dynamic_alone,
        (
          of_by (Allowed fetch.Script) rule.Source (only_where (is_none (displaces_sources fetch.Script sources))
              (source_token self there (is_redirected redirects) sources)) (λ i found.
              script_source_alone i (of_where (is_none (displaces_sources fetch.Script sources))
              (source_token self there (is_redirected redirects) sources) i found).1),
          tt,
        ),
      ),
    ),
  )
  fetch_alone fetch.Style = (
    of_by (Allowed fetch.Style) rule.Nonce (nonce_token nonce sources) (λ i found.
        or_left (nonce_matches nonce (beside (at rule.Nonce i))) _ (nonce_alone i found)),
    (
      of_by (Allowed fetch.Style) rule.Source (source_token self there (is_redirected redirects) sources) (λ i found.
          or_right (nonce_matches nonce (beside (at rule.Source i))) _ (source_alone i found)),
      tt,
    ),
  )
  fetch_alone fetch.List =
      (of_by (Allowed fetch.List) rule.Source (source_token self there (is_redirected redirects) sources) source_alone, tt)

-- Inline code and style

unsafe_inline_only : (s : Source) → is_keyword keyword.UnsafeInline s ≡ true
    → (is_nonce_or_hash s ≡ false) × (is_keyword keyword.StrictDynamic s ≡ false)
unsafe_inline_only s is =
    subst (λ t. (is_nonce_or_hash t ≡ false) × (is_keyword keyword.StrictDynamic t ≡ false))
    (sym ((is_keyword_decides keyword.UnsafeInline s).0 is)) (refl, refl)

module _ (kind : InlineKind) (nonce : List ℕ) (digests : Digests) (sources : List Source) where
  abbrev near_by : Allowance → List Source
  near_by a = cons_option (slice_get sources a.token) (filter (needs a.rule (check.Inline kind nonce digests)) sources)

  abbrev InlineAllowed : Allowance → Type 0
  InlineAllowed a = sources_allow_inline kind nonce digests (near_by a) ≡ true

  abbrev inline_at : Rule → ℕ → Allowance
  inline_at which i = record { rule = which; token = i }

  unsafe_inline_alone : (i : ℕ) → keyword_token keyword.UnsafeInline sources ≡ Some i → InlineAllowed (inline_at rule.UnsafeInline i)
  unsafe_inline_alone i found =
      let placed = position_placed (is_keyword keyword.UnsafeInline) sources i found in
      let only = unsafe_inline_only placed.item placed.passes in
      let these = near_by (inline_at rule.UnsafeInline i) in
      let dynamic = has_keyword keyword.StrictDynamic these in
      or_left (allows_all_inline kind these) _
      (and_from (has_keyword keyword.UnsafeInline these) _
      (alone_passes (is_keyword keyword.UnsafeInline) sources _ i found)
      (and_from (not (list_any is_nonce_or_hash these)) _
      (not_from_false (list_any is_nonce_or_hash these) (alone_fails is_nonce_or_hash sources i placed.item placed.here only.0))
      (or_right (not (is_script_kind kind)) (not dynamic)
      (not_from_false dynamic (alone_fails (is_keyword keyword.StrictDynamic) sources i placed.item placed.here only.1)))))

  inline_nonce_alone : (i : ℕ) → only_where (is_element_kind kind) (nonce_token nonce sources) ≡ Some i → InlineAllowed (inline_at rule.Nonce i)
  inline_nonce_alone i found =
      let these = near_by (inline_at rule.Nonce i) in
      let parts = of_where (is_element_kind kind) (nonce_token nonce sources) i found in
      let inner = of_where (is_nonempty nonce) (position (is_nonce nonce) sources) i parts.1 in
      or_right (allows_all_inline kind these) _ (or_left (is_element_kind kind && nonce_matches nonce these) _
      (and_from (is_element_kind kind) (nonce_matches nonce these) parts.0
      (and_from (is_nonempty nonce) _ inner.0 (alone_passes (is_nonce nonce) sources _ i inner.1))))

  hash_alone : (i : ℕ) → only_where (hash_counts kind sources) (digest_token digests sources) ≡ Some i → InlineAllowed (inline_at rule.Hash i)
  hash_alone i found =
      let these = near_by (inline_at rule.Hash i) in
      let parts = of_where (hash_counts kind sources) (digest_token digests sources) i found in
      let counts : hash_counts kind these ≡ true = elim (or_cases (is_element_kind kind) (has_keyword keyword.UnsafeHashes sources) parts.0) [
        | inl element ↦ or_left (is_element_kind kind) (has_keyword keyword.UnsafeHashes these) element
        | inr has ↦ or_right (is_element_kind kind) (has_keyword keyword.UnsafeHashes these)
            (any_beside (is_keyword keyword.UnsafeHashes) (slice_get sources i) (filter (is_keyword keyword.UnsafeHashes) sources)
            (any_kept (is_keyword keyword.UnsafeHashes) (is_keyword keyword.UnsafeHashes) sources (λ s is. is) has))
      ] in
      or_right (allows_all_inline kind these) _ (or_right (is_element_kind kind && nonce_matches nonce these) _
      (and_from (digests_match digests these) (hash_counts kind these) (alone_passes (is_hash_of digests) sources _ i parts.1) counts))

  inline_alone : (counts : Bool) → Each InlineAllowed (inline_allowances counts kind nonce digests sources)
  inline_alone counts = (
    of_by InlineAllowed rule.UnsafeInline (only_where counts (keyword_token keyword.UnsafeInline sources)) (λ i found.
        unsafe_inline_alone i (of_where counts (keyword_token keyword.UnsafeInline sources) i found).1),
    (
      of_by InlineAllowed rule.Nonce (only_where (is_element_kind kind) (nonce_token nonce sources)) inline_nonce_alone,
      (
        of_by InlineAllowed rule.Hash (only_where (hash_counts kind sources) (digest_token digests sources)) hash_alone,
        tt,
      ),
    ),
  )

-- Each check

abbrev solo : Check → Allowance → Governor → Governor
solo asked a g = record { name = g.name; directive = alone asked a g.directive }

abbrev Passes : Origin → Check → Governor → Allowance → Type 0
Passes self asked g a = test self asked (solo asked a g) ≡ true

-- a directive that decides by its sources alone
listed_alone : (self : Origin) (there : Url) (redirected : Bool) (sources : List Source) (rest : List Source)
    (i : ℕ) → source_token self there redirected sources ≡ Some i → list_matches (cons_option (slice_get sources i) rest) self there redirected ≡ true
listed_alone self there redirected sources rest i found =
    alone_passes (λ (s : Source). matches s self there redirected) sources rest i found

worker_alone : (tokens : List (List ℕ)) (i : ℕ) → worker_token tokens ≡ Some i
    → (grants (cons_option (slice_get tokens i) (filter is_for_worker tokens)) capability.Scripts
    && grants (cons_option (slice_get tokens i) (filter is_for_worker tokens)) capability.SameOrigin) ≡ true
worker_alone tokens i found =
    let both = of_where (grants tokens capability.Scripts && grants tokens capability.SameOrigin) (position is_for_worker tokens) i found in
    let parts = and_parts (grants tokens capability.Scripts) (grants tokens capability.SameOrigin) both.0 in
    and_from _ _
    (any_beside (token_grants capability.Scripts) (slice_get tokens i) (filter is_for_worker tokens)
    (any_kept (token_grants capability.Scripts) is_for_worker tokens
    (λ t is. or_left (token_grants capability.Scripts t) (token_grants capability.SameOrigin t) is) parts.0))
    (any_beside (token_grants capability.SameOrigin) (slice_get tokens i) (filter is_for_worker tokens)
    (any_kept (token_grants capability.SameOrigin) is_for_worker tokens
    (λ t is. or_right (token_grants capability.Scripts t) (token_grants capability.SameOrigin t) is) parts.1))

each_alone : (self : Origin) (asked : Check) (g : Governor)
    → Each (Passes self asked g) (allowances self asked (is_none (displacement asked g.name g.directive.sources)) g)
each_alone self (check.Fetch group there redirects nonce integrity parser_inserted) g =
    fetch_alone group there redirects nonce integrity parser_inserted self g.directive.sources (fetch_rule group g.name)
each_alone self (check.Inline kind nonce digests) g =
    inline_alone kind nonce digests g.directive.sources (is_none (displacement (check.Inline kind nonce digests) g.name g.directive.sources))
each_alone self check.Eval g = (
  of_by (Passes self check.Eval g) rule.UnsafeEval (keyword_token keyword.UnsafeEval g.directive.sources) (λ i found.
      alone_passes (is_keyword keyword.UnsafeEval) g.directive.sources _ i found),
  tt,
)
each_alone self check.Wasm g = (
  of_by (Passes self check.Wasm g) rule.UnsafeEval (keyword_token keyword.UnsafeEval g.directive.sources) (λ i found.
      or_left _ _ (alone_passes (is_keyword keyword.UnsafeEval) g.directive.sources _ i found)),
  (
    of_by (Passes self check.Wasm g) rule.WasmUnsafeEval (keyword_token keyword.WasmUnsafeEval g.directive.sources) (λ i found.
        or_right _ _ (alone_passes (is_keyword keyword.WasmUnsafeEval) g.directive.sources _ i found)),
    tt,
  ),
)
each_alone self (check.Base there) g = (
  of_by (Passes self (check.Base there) g) rule.Source (source_token self there false g.directive.sources)
      (listed_alone self there false g.directive.sources _),
  tt,
)
each_alone self (check.Form there redirects) g = (
  of_by (Passes self (check.Form there redirects) g) rule.Source (source_token self there (is_redirected redirects) g.directive.sources)
      (listed_alone self there (is_redirected redirects) g.directive.sources _),
  tt,
)
each_alone self (check.Ancestor there) g = (
  of_by (Passes self (check.Ancestor there) g) rule.Source (source_token self there false g.directive.sources)
      (listed_alone self there false g.directive.sources _),
  tt,
)
each_alone self check.OpaqueAncestor g = tt
each_alone self (check.Capability asked) g = (
  of_by (Passes self (check.Capability asked) g) rule.Capability (grant_token asked g.directive.tokens) (λ i found.
      alone_passes (token_grants asked) g.directive.tokens _ i found),
  tt,
)
each_alone self check.WorkerStart g = (
  of_by (Passes self check.WorkerStart g) rule.Capability (worker_token g.directive.tokens) (worker_alone g.directive.tokens),
  tt,
)

-- The law

told_by : (p : Policy) (asked : Check) (g : Governor) (o : Option Allowance) (name : Name) (a : Allowance)
    → acting p asked ≡ Some g → first_of (allowances p.origin asked (is_none (displacement asked g.name g.directive.sources)) g) ≡ o
    → governed_reason p asked (displacement asked g.name g.directive.sources) g o ≡ Allows name a
    → allows (with_changed name (alone asked a) p) asked ≡ true
told_by p asked g None name a acts first is = absurd (let h : governed_reason p asked (displacement asked g.name g.directive.sources) g None ≡ Allows name a = is in let no : ⊥ = cc in no)
told_by p asked g (Some b) name a acts first is =
    let h : Allows g.name b ≡ Allows name a = is in
    let same_name : g.name ≡ name = cc in
    let same : b ≡ a = cc in
    subst (λ (n : Name). allows (with_changed n (alone asked a) p) asked ≡ true) same_name
    (subst (λ (x : Allowance). allows (with_changed g.name (alone asked x) p) asked ≡ true) same
    (allows_changed p asked g (alone asked b) (λ d. refl) acts
    (first_holds (Passes p.origin asked g) (allowances p.origin asked (is_none (displacement asked g.name g.directive.sources)) g) b
    (each_alone p.origin asked g) first)))

told_where : (p : Policy) (asked : Check) (o : Option Governor) (name : Name) (a : Allowance) → acting p asked ≡ o
    → reason_by p asked o ≡ Allows name a → allows (with_changed name (alone asked a) p) asked ≡ true
told_where p asked None name a acts is = absurd (let h : Ungoverned ≡ Allows name a = is in let no : ⊥ = cc in no)
told_where p asked (Some g) name a acts is =
    told_by p asked g (first_of (allowances p.origin asked (is_none (displacement asked g.name g.directive.sources)) g)) name a acts refl is

pub told_alone : (p : Policy) (asked : Check) (name : Name) (a : Allowance) → reason p asked ≡ Allows name a
    → allows (with_changed name (alone asked a) p) asked ≡ true
told_alone p asked name a is = told_where p asked (acting p asked) name a refl is
