-- A token that goes changes nothing of checks that its directive doesn't govern.
use Rattle.std.proofs.Common.{◌≡◌, ◌∙◌, sym, ap, refl, subst, ℕ, zero, suc, Bool, true, false, not, ◌&&◌, ◌||◌, List, [], ◌∷◌, map, cond, Option, Some, None, inl, inr}
use Rattle.std.specs.Prelude.{slice_get, MatchOption}
use Rattle.std.specs.List.{find, list_all}
use Rattle.std.specs.Option.{option_map}
use Rattle.std.proofs.lemmas.Bool.{cases_Bool, cond-true, cond-false}
use Rattle.csp_model.specs.DecideFetch.{sources_allow}
use Rattle.csp_model.specs.DecideGoverning.{allows_by}
use Rattle.csp_model.specs.DecideInline.{sources_allow_inline}
use Rattle.csp_model.specs.DecideMatching.{list_matches}
use Rattle.csp_model.specs.DecideNavigation.{grants, is_report}
use Rattle.csp_model.specs.DecideTokens.{has_keyword}
use Rattle.csp_model.specs.DecideVerdict.{allows}
use Rattle.csp_model.specs.Fetch.{is_redirected, fetch_rule}
use Rattle.csp_model.specs.Governing.{Governor, governor, governor_named, is_named, fallbacks}
use Rattle.csp_model.specs.Reading.{first_of}
use Rattle.csp_model.specs.Verdict.{effective_name, is_enforce, list_allows}
use Rattle.csp_model.specs.declared.check.Capability.TheVariants.{Scripts, SameOrigin}
use Rattle.csp_model.specs.declared.check.Check.{Check}
use Rattle.csp_model.specs.declared.check.Check.TheVariants as check
use Rattle.csp_model.specs.declared.name.Name.{Name}
use Rattle.csp_model.specs.declared.policy.Directive.{Directive}
use Rattle.csp_model.specs.declared.policy.Policy.{Policy}
use Rattle.csp_model.specs.declared.policy.PolicyList.{PolicyList}
use Rattle.csp_model.specs.declared.source.Keyword.TheVariants as keyword
use Rattle.csp_tidy.specs.Candidates.{change_at, directive_without, policy_without, without}
use Rattle.csp_tidy.specs.Governed.{governs, governs_by}
use Rattle.csp_tidy.specs.declared.place.TokenPlace.{TokenPlace}

-- What governs

found_same : (t n : ℕ) (ds : List Directive) (name : Name) → MatchOption (slice_get ds n) ⊥ (λ (d : Directive). is_named name d ≡ false)
    → find (is_named name) (change_at (directive_without t) n ds) ≡ find (is_named name) ds
found_same t n [] name other = refl
found_same t zero (d ∷ ds) name other = cond-false _ _ _ other ∙ sym (cond-false _ _ _ other)
found_same t (suc n) (d ∷ ds) name other = ap (λ o. cond (is_named name d) (Some d) o) (found_same t n ds name other)

is_found : (n : ℕ) (ds : List Directive) (name : Name) → MatchOption (slice_get ds n) ⊥ (λ (d : Directive). is_named name d ≡ true)
    → (d : Directive) × (find (is_named name) ds ≡ Some d)
is_found n [] name here = absurd here
is_found zero (d ∷ ds) name here = (d, cond-true _ _ _ here)
is_found (suc n) (d ∷ ds) name here =
    let rest = is_found n ds name here in
    elim (cases_Bool (is_named name d)) [
      | inl is ↦ (d, cond-true _ _ _ is)
      | inr is ↦ (rest.0, cond-false _ _ _ is ∙ rest.1)
    ]

named_same : (t n : ℕ) (ds : List Directive) (name : Name) → MatchOption (slice_get ds n) ⊥ (λ (d : Directive). is_named name d ≡ false)
    → governor_named (change_at (directive_without t) n ds) name ≡ governor_named ds name
unfolding governor_named
named_same t n ds name other = ap (option_map (λ d. record { name = name; directive = d })) (found_same t n ds name other)

is_named_there : (n : ℕ) (ds : List Directive) (name : Name) → MatchOption (slice_get ds n) ⊥ (λ (d : Directive). is_named name d ≡ true)
    → (g : Governor) × (governor_named ds name ≡ Some g) × (g.name ≡ name)
unfolding governor_named
is_named_there n ds name here =
    let found = is_found n ds name here in
    (record { name = name; directive = found.0 }, ap (option_map (λ d. record { name = name; directive = d })) found.1, refl)

at_some : (P : Directive → Type 0) (o : Option Directive) (d : Directive) → o ≡ Some d → P d → MatchOption o ⊥ P
at_some P o d is here = subst (λ q. MatchOption q ⊥ P) (sym is) here

later : (d : Directive) (o : Option Governor) (os ps : List (Option Governor)) → (governs_by d (first_of ps) ≡ false → first_of os ≡ first_of ps)
    → governs_by d (first_of (o ∷ ps)) ≡ false → first_of (o ∷ os) ≡ first_of (o ∷ ps)
later d None os ps same other = same other
later d (Some g) os ps same other = refl

first_same : (t n : ℕ) (ds : List Directive) (d : Directive) → slice_get ds n ≡ Some d → (names : List Name)
    → governs_by d (first_of (map (governor_named ds) names)) ≡ false
    → first_of (map (governor_named (change_at (directive_without t) n ds)) names) ≡ first_of (map (governor_named ds) names)
first_same t n ds d is [] other = refl
first_same t n ds d is (name ∷ names) other =
    let changed = change_at (directive_without t) n ds in
    let rest = first_same t n ds d is names in
    elim (cases_Bool (is_named name d)) [
      | inl here ↦
          let there = is_named_there n ds name (at_some (λ e. is_named name e ≡ true) (slice_get ds n) d is here) in
          let first = ap (λ o. governs_by d (first_of (o ∷ map (governor_named ds) names))) there.1 in
          let says : is_named there.0.name d ≡ false = sym first ∙ other in
          let so : is_named name d ≡ false = sym (ap (λ m. is_named m d) there.2) ∙ says in
          absurd (cc (here, so))
      | inr apart ↦
          let same = named_same t n ds name (at_some (λ e. is_named name e ≡ false) (slice_get ds n) d is apart) in
          ap (λ o. first_of (o ∷ map (governor_named changed) names)) same
          ∙ later d (governor_named ds name) (map (governor_named changed) names) (map (governor_named ds) names) rest other
    ]

pub governor_same : (p : Policy) (n t : ℕ) (d : Directive) (effective : Name) → slice_get p.directives n ≡ Some d → governs p d effective ≡ false
    → governor (policy_without n t p) effective ≡ governor p effective
governor_same p n t d effective is other = first_same t n p.directives d is (fallbacks effective) other

-- What is allowed

allows_same : (p : Policy) (n t : ℕ) (asked : Check) → governor (policy_without n t p) (effective_name asked) ≡ governor p (effective_name asked)
    → allows (policy_without n t p) asked ≡ allows p asked
allows_same p n t (check.Fetch group there redirects nonce integrity parser_inserted) is =
    ap (λ (o : Option Governor). allows_by o (λ g. sources_allow (fetch_rule group g.name) g.directive.sources nonce integrity parser_inserted (list_matches g.directive.sources p.origin there (is_redirected redirects)))) is
allows_same p n t (check.Inline kind nonce digests) is = ap (λ (o : Option Governor). allows_by o (λ g. sources_allow_inline kind nonce digests g.directive.sources)) is
allows_same p n t check.Eval is = ap (λ (o : Option Governor). allows_by o (λ g. has_keyword keyword.UnsafeEval g.directive.sources)) is
allows_same p n t check.Wasm is = ap (λ (o : Option Governor). allows_by o (λ g. has_keyword keyword.UnsafeEval g.directive.sources || has_keyword keyword.WasmUnsafeEval g.directive.sources)) is
allows_same p n t (check.Base there) is = ap (λ (o : Option Governor). allows_by o (λ g. list_matches g.directive.sources p.origin there false)) is
allows_same p n t (check.Form there redirects) is = ap (λ (o : Option Governor). allows_by o (λ g. list_matches g.directive.sources p.origin there (is_redirected redirects))) is
allows_same p n t (check.Ancestor there) is = ap (λ (o : Option Governor). allows_by o (λ g. list_matches g.directive.sources p.origin there false)) is
allows_same p n t check.OpaqueAncestor is = ap (λ (o : Option Governor). allows_by o (λ g. false)) is
allows_same p n t (check.Capability capability) is = ap (λ (o : Option Governor). is_report p.disposition || allows_by o (λ g. grants g.directive.tokens capability)) is
allows_same p n t check.WorkerStart is = ap (λ (o : Option Governor). is_report p.disposition || allows_by o (λ g. grants g.directive.tokens Scripts && grants g.directive.tokens SameOrigin)) is

all_same : (test : Policy → Bool) (f : Policy → Policy) (n : ℕ) (ps : List Policy) → MatchOption (slice_get ps n) ⊥ (λ (p : Policy). test (f p) ≡ test p)
    → list_all test (change_at f n ps) ≡ list_all test ps
all_same test f n [] same = absurd same
all_same test f zero (p ∷ ps) same = ap (λ b. b && list_all test ps) same
all_same test f (suc n) (p ∷ ps) same = ap (λ b. test p && b) (all_same test f n ps same)

-- the list says of a check what it says without a token of a directive that doesn't govern the check
pub list_same : (list : PolicyList) (place : TokenPlace) (p : Policy) (d : Directive) (asked : Check) → slice_get list.policies place.policy ≡ Some p → slice_get p.directives place.directive ≡ Some d
    → governs p d (effective_name asked) ≡ false → list_allows (without list place) asked ≡ list_allows list asked
list_same list place p d asked here there other =
    let same = allows_same p place.directive place.token asked (governor_same p place.directive place.token d (effective_name asked) there other) in
    all_same (λ (q : Policy). not (is_enforce q.disposition) || allows q asked) (policy_without place.directive place.token) place.policy list.policies
    (subst (λ o. MatchOption o ⊥ (λ (q : Policy). (not (is_enforce q.disposition) || allows (policy_without place.directive place.token q) asked) ≡ (not (is_enforce q.disposition) || allows q asked)))
    (sym here) (ap (λ b. not (is_enforce p.disposition) || b) same))
