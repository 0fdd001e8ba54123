-- A learnt policy allows exactly what its log needs.
use Rattle.std.proofs.Common.{◌≡◌, ◌∙◌, sym, ap, refl, subst, ℕ, Bool, true, false, ◌&&◌, ◌||◌, List, [], ◌∷◌, cond, Some, None, All, Any, Contains, inl, inr, ◌⊎◌}
use Rattle.std.specs.Prelude.{IsTrue, unwrap_or}
use Rattle.std.specs.Bool.{Decides}
use Rattle.std.specs.List.{list_any, list_all, find}
use Rattle.std.specs.Str.{bytes_eq}
use Rattle.std.proofs.lemmas.Bool.{false≢true}
use Rattle.std.proofs.lemmas.Bool.Decides.{Decides-or, Decides-like}
use Rattle.std.proofs.lemmas.List.Elements.{All-nil, All-head, All-tail, All-cons}
use Rattle.std.proofs.lemmas.Slice.Eq.{bytes_eq-Decides}
use Rattle.csp_model.specs.DecideMatching.{matches}
use Rattle.csp_model.specs.DecideVerdict.{allows}
use Rattle.csp_model.specs.Fetch.{is_redirected}
use Rattle.csp_model.specs.Grammar.{IsSource}
use Rattle.csp_model.specs.Matching.{Matches}
use Rattle.csp_model.specs.Names.{name_text, group_directive}
use Rattle.csp_model.specs.Reading.{source_of}
use Rattle.csp_model.specs.Validity.{IsValidUrl, IsValidCheck}
use Rattle.csp_model.specs.declared.check.Check.{Check}
use Rattle.csp_model.specs.declared.check.Check.TheVariants as check
use Rattle.csp_model.specs.declared.check.Group.{Group}
use Rattle.csp_model.specs.declared.check.Group.TheVariants as group
use Rattle.csp_model.specs.declared.name.Name.{Name}
use Rattle.csp_model.specs.declared.name.Name.TheVariants.{ConnectSrc, BaseUri, FormAction, FrameAncestors, Sandbox}
use Rattle.csp_model.specs.declared.source.Source.{Source}
use Rattle.csp_model.specs.declared.url.Origin.{Origin}
use Rattle.csp_model.specs.declared.url.Url.{Url}
use Rattle.csp_model.specs.declared.url.Url.TheVariants as url
use Rattle.csp_model.proofs.AnyCases.{Any-none, Any-here, Any-later, first_or_later}
use Rattle.csp_model.proofs.Deciding.{no, itself, both3}
use Rattle.csp_model.proofs.MatchingDecided.{matches_decides}
use Rattle.csp_learn.specs.Allowed.{Needs, AllowsWhatIsNeeded, IsNameable, AllowsTheLog}
use Rattle.csp_learn.specs.Needs.{needed_source, needed_token, can_be_named, need_of, needs_of}
use Rattle.csp_learn.specs.Policies.{fetch_directives, is_for, policy_for}
use Rattle.csp_learn.specs.declared.need.Need.{Need}
use Rattle.csp_learn.proofs.Elsewhere.{ArePlain, inline_refused, eval_refused, wasm_refused, ungoverned}
use Rattle.csp_learn.proofs.Governed.{is_plain, fetch_allowed}
use Rattle.csp_learn.proofs.NeededTokens.{token_built, named_host}
use Rattle.csp_learn.proofs.NeedSets.{passes, passes_if, any_needed, all_needed}

-- a name of a fetch's directive is known by its text

name_of : List ℕ → Name
name_of text = unwrap_or (find (λ name. bytes_eq text (name_text name)) fetch_directives) ConnectSrc

name_back : (kind : Group) → name_of (name_text (group_directive kind)) ≡ group_directive kind
unfolding name_of
name_back group.Connect = refl
name_back group.Font = refl
name_back group.Frame = refl
name_back group.Img = refl
name_back group.Manifest = refl
name_back group.Media = refl
name_back group.Object = refl
name_back group.StyleElem = refl
name_back group.ScriptElem = refl
name_back group.Worker = refl

name_decides : (a b : Group) → Decides (bytes_eq (name_text (group_directive a)) (name_text (group_directive b))) (group_directive a ≡ group_directive b)
name_decides a b =
    Decides-like (bytes_eq (name_text (group_directive a)) (name_text (group_directive b)))
    (λ (h : name_text (group_directive a) ≡ name_text (group_directive b)). sym (name_back a) ∙ ap name_of h ∙ name_back b)
    (ap name_text) (bytes_eq-Decides (name_text (group_directive a)) (name_text (group_directive b)))

abbrev pub Reads : Type 0
Reads = (token : List ℕ) (s : Source) → IsSource token s → source_of token ≡ s

-- the token that is needed reads as the source that is needed
pub token_reads : Reads → (there : Url) → IsValidUrl there → can_be_named there ≡ true → source_of (needed_token there) ≡ needed_source there
token_reads built there valid named = built (needed_token there) (needed_source there) (token_built there valid (named_host there named))

needed_plain : (there : Url) → is_plain (needed_source there) ≡ true
needed_plain (url.Plain scheme) = refl
needed_plain (url.Hosted scheme host port path) = refl

-- what passes each token by which a URL can be named passes the token of each need

need_passes : (p : List ℕ → Bool) → ((there : Url) → IsValidUrl there → can_be_named there ≡ true → p (needed_token there) ≡ true)
    → (asked : Check) → IsValidCheck asked → passes_if (λ (need : Need). p need.token) (need_of asked) ≡ true
need_passes p each (check.Fetch group there redirects nonce integrity parser_inserted) valid = go (can_be_named there) refl where
  go : (b : Bool) → can_be_named there ≡ b
      → passes_if (λ (need : Need). p need.token) (cond b (Some (record { directive = name_text (group_directive group); token = needed_token there })) None) ≡ true
  go true named = each there valid.0 named
  go false named = refl
need_passes p each (check.Inline kind nonce digests) valid = refl
need_passes p each check.Eval valid = refl
need_passes p each check.Wasm valid = refl
need_passes p each (check.Base there) valid = refl
need_passes p each (check.Form there redirects) valid = refl
need_passes p each (check.Ancestor there) valid = refl
need_passes p each check.OpaqueAncestor valid = refl
need_passes p each (check.Capability capability) valid = refl
need_passes p each check.WorkerStart valid = refl

valid_all : {X : Type 0} (p : X → Bool) (V : X → Type 0) → ((x : X) → V x → p x ≡ true) → (xs : List X) → All V xs → list_all p xs ≡ true
valid_all p V each [] all = refl
valid_all p V each (x ∷ xs) all =
    ap (λ b. b && list_all p xs) (each x (All-head V x xs all)) ∙ valid_all p V each xs (All-tail V x xs all)

pub needs_pass : (p : List ℕ → Bool) → ((there : Url) → IsValidUrl there → can_be_named there ≡ true → p (needed_token there) ≡ true)
    → (logged : List Check) → All IsValidCheck logged → list_all (λ (need : Need). p need.token) (needs_of logged) ≡ true
needs_pass p each logged valid =
    all_needed (λ (need : Need). p need.token) logged
    (valid_all (λ asked. passes_if (λ (need : Need). p need.token) (need_of asked)) IsValidCheck (need_passes p each) logged valid)

plain_needs : Reads → (logged : List Check) → All IsValidCheck logged → ArePlain (needs_of logged)
plain_needs built = needs_pass (λ token. is_plain (source_of token)) (λ there valid named. ap is_plain (token_reads built there valid named) ∙ needed_plain there)

-- a need that matches
abbrev wanted : Origin → Group → Url → Bool → Need → Bool
wanted origin kind there redirected need = is_for (name_text (group_directive kind)) need && matches (source_of need.token) origin there redirected

both_or_none : (b : Bool) (p : Need → Bool) (need : Need) → passes p (cond b (Some need) None) ≡ (b && p need)
both_or_none true p need = refl
both_or_none false p need = refl

need_decides : Reads → (origin : Origin) (kind : Group) (there : Url) (redirected : Bool) (asked : Check) → IsValidCheck asked
    → Decides (passes (wanted origin kind there redirected) (need_of asked)) (Needs origin kind there redirected asked)
need_decides built origin kind there redirected (check.Fetch group logged redirects nonce integrity parser_inserted) valid =
    let need : Need = record { directive = name_text (group_directive group); token = needed_token logged } in
    let same = bytes_eq (name_text (group_directive group)) (name_text (group_directive kind)) in
    subst (λ b. Decides b (Needs origin kind there redirected (check.Fetch group logged redirects nonce integrity parser_inserted)))
    (by_name (can_be_named logged) refl ∙ sym (both_or_none (can_be_named logged) (wanted origin kind there redirected) need))
    (both3 (can_be_named logged) same (matches (needed_source logged) origin there redirected) (itself (can_be_named logged))
    (name_decides group kind) (matches_decides (needed_source logged) origin there redirected))
  where
    by_name : (b : Bool) → can_be_named logged ≡ b
        → (b && (bytes_eq (name_text (group_directive group)) (name_text (group_directive kind)) && matches (needed_source logged) origin there redirected))
        ≡ (b && (bytes_eq (name_text (group_directive group)) (name_text (group_directive kind)) && matches (source_of (needed_token logged)) origin there redirected))
    by_name true named =
        ap (λ s. bytes_eq (name_text (group_directive group)) (name_text (group_directive kind)) && matches s origin there redirected)
        (sym (token_reads built logged valid.0 named))
    by_name false named = refl
need_decides built origin kind there redirected (check.Inline inline nonce digests) valid = no (λ h. h)
need_decides built origin kind there redirected check.Eval valid = no (λ h. h)
need_decides built origin kind there redirected check.Wasm valid = no (λ h. h)
need_decides built origin kind there redirected (check.Base base) valid = no (λ h. h)
need_decides built origin kind there redirected (check.Form form redirects) valid = no (λ h. h)
need_decides built origin kind there redirected (check.Ancestor ancestor) valid = no (λ h. h)
need_decides built origin kind there redirected check.OpaqueAncestor valid = no (λ h. h)
need_decides built origin kind there redirected (check.Capability capability) valid = no (λ h. h)
need_decides built origin kind there redirected check.WorkerStart valid = no (λ h. h)

-- lists of which each item is valid

valid_any : {X : Type 0} (p : X → Bool) (P V : X → Type 0) → ((x : X) → V x → Decides (p x) (P x)) → (xs : List X) → All V xs → Decides (list_any p xs) (Any P xs)
valid_any p P V each [] all = no (Any-none P)
valid_any p P V each (x ∷ xs) all =
    Decides-like (p x || list_any p xs) (λ (h : P x ⊎ Any P xs). elim h [ inl here ↦ Any-here P x xs here | inr later ↦ Any-later P x xs later ])
    (first_or_later P x xs) (Decides-or (p x) (list_any p xs) (each x (All-head V x xs all)) (valid_any p P V each xs (All-tail V x xs all)))

-- of all fetches exactly those are allowed that a needed source matches
pub allows_needed : Reads → (origin : Origin) (logged : List Check) → All IsValidCheck logged → AllowsWhatIsNeeded logged (policy_for origin (needs_of logged))
allows_needed built origin logged valid kind there redirects nonce integrity parser_inserted =
    let plain = plain_needs built logged valid in
    let redirected = is_redirected redirects in
    let tested = fetch_allowed origin (needs_of logged) kind there redirects nonce integrity parser_inserted plain
    ∙ any_needed (wanted origin kind there redirected) logged in
    let decided = valid_any (λ asked. passes (wanted origin kind there redirected) (need_of asked)) (Needs origin kind there redirected) IsValidCheck
    (need_decides built origin kind there redirected) logged valid in
    (λ h. decided.0 (sym tested ∙ h), λ h. tested ∙ decided.1 h)

-- a URL is matched by the source that it needs
matches_itself : (origin : Origin) (there : Url) (redirected : Bool) → Matches (needed_source there) origin there redirected
matches_itself origin (url.Plain scheme) redirected = inl refl
matches_itself origin (url.Hosted scheme host port path) redirected = (inl refl, refl, refl, inr tt)

each_allowed : (origin : Origin) (logged : List Check) → AllowsWhatIsNeeded logged (policy_for origin (needs_of logged)) → (checks : List Check)
    → ((P : Check → Type 0) → Any P checks → Any P logged) → All (λ asked. IsNameable asked → IsTrue (allows (policy_for origin (needs_of logged)) asked)) checks
each_allowed origin logged exact [] among = All-nil (λ asked. IsNameable asked → IsTrue (allows (policy_for origin (needs_of logged)) asked))
each_allowed origin logged exact (asked ∷ checks) among =
    All-cons (λ asked. IsNameable asked → IsTrue (allows (policy_for origin (needs_of logged)) asked)) asked checks (here asked among)
    (each_allowed origin logged exact checks (λ P some. among P (Any-later P asked checks some)))
  where
    here : (asked : Check) → ((P : Check → Type 0) → Any P (asked ∷ checks) → Any P logged) → IsNameable asked → IsTrue (allows (policy_for origin (needs_of logged)) asked)
    here (check.Fetch kind there redirects nonce integrity parser_inserted) among named =
        let P = Needs origin kind there (is_redirected redirects) in
        (exact kind there redirects nonce integrity parser_inserted).1
        (among P (Any-here P (check.Fetch kind there redirects nonce integrity parser_inserted) checks (named, refl, matches_itself origin there (is_redirected redirects))))
    here asked among named = absurd named

-- each fetch of the log that a source can name is allowed
pub allows_log : (origin : Origin) (logged : List Check) → AllowsWhatIsNeeded logged (policy_for origin (needs_of logged)) → AllowsTheLog logged (policy_for origin (needs_of logged))
allows_log origin logged exact = each_allowed origin logged exact logged (λ P some. some)

among_more : (P : Check → Type 0) (shorter longer : List Check) → ((asked : Check) → Contains shorter asked → Contains longer asked) → Any P shorter → Any P longer
among_more P shorter longer more some =
    let there = more some.1 (some.0, some.2, some.3) in (there.0, some.1, there.1, there.2, some.4)

-- a longer log allows what a shorter one does
pub allows_more : Reads → (origin : Origin) (shorter longer : List Check) → All IsValidCheck shorter → All IsValidCheck longer
    → ((asked : Check) → Contains shorter asked → Contains longer asked)
    → (asked : Check) → IsTrue (allows (policy_for origin (needs_of shorter)) asked) → IsTrue (allows (policy_for origin (needs_of longer)) asked)
allows_more built origin shorter longer first second more (check.Fetch kind there redirects nonce integrity parser_inserted) allowed =
    (allows_needed built origin longer second kind there redirects nonce integrity parser_inserted).1
    (among_more (Needs origin kind there (is_redirected redirects)) shorter longer more
    ((allows_needed built origin shorter first kind there redirects nonce integrity parser_inserted).0 allowed))
allows_more built origin shorter longer first second more (check.Inline kind nonce digests) allowed =
    absurd (false≢true (sym (inline_refused origin (needs_of shorter) (plain_needs built shorter first) kind nonce digests) ∙ allowed))
allows_more built origin shorter longer first second more check.Eval allowed = absurd (false≢true (sym (eval_refused origin (needs_of shorter)) ∙ allowed))
allows_more built origin shorter longer first second more check.Wasm allowed = absurd (false≢true (sym (wasm_refused origin (needs_of shorter)) ∙ allowed))
allows_more built origin shorter longer first second more (check.Base there) allowed = ungoverned origin (needs_of longer) BaseUri _ refl
allows_more built origin shorter longer first second more (check.Form there redirects) allowed = ungoverned origin (needs_of longer) FormAction _ refl
allows_more built origin shorter longer first second more (check.Ancestor there) allowed = ungoverned origin (needs_of longer) FrameAncestors _ refl
allows_more built origin shorter longer first second more check.OpaqueAncestor allowed = ungoverned origin (needs_of longer) FrameAncestors _ refl
allows_more built origin shorter longer first second more (check.Capability capability) allowed = ungoverned origin (needs_of longer) Sandbox _ refl
allows_more built origin shorter longer first second more check.WorkerStart allowed = ungoverned origin (needs_of longer) Sandbox _ refl
