-- What two searches for a difference tell of a token, among the checks that its directive governs.
use Rattle.std.proofs.Common.{arith, ◌≡◌, ◌∙◌, sym, ap, subst, refl, zero, suc, Bool, true, false, not, List, [], ◌∷◌, inl, inr}
use Rattle.std.specs.Prelude.{Option, Some, None, Contains, MatchOption, slice_get, ◌⊎◌}
use Rattle.std.specs.List.{filter}
use Rattle.std.proofs.lemmas.Bool.{cases_Bool, cond-true, cond-false}
use Rattle.csp_compare.specs.Answers.{IsCounterexample}
use Rattle.csp_compare.specs.Differences.{SubsumesAmong, effective_names}
use Rattle.csp_compare.proofs.Differing.{has_effective}
use Rattle.csp_model.specs.Verdict.{effective_name, list_allows}
use Rattle.csp_model.specs.declared.check.Check.{Check}
use Rattle.csp_model.specs.declared.name.Name.{Name}
use Rattle.csp_model.specs.declared.policy.PolicyList.{PolicyList}
use Rattle.csp_tidy.specs.Asking.{GovernsAt}
use Rattle.csp_tidy.specs.Candidates.{without}
use Rattle.csp_tidy.specs.Governed.{governs}
use Rattle.csp_tidy.specs.Thinnings.{AreEquivalent}
use Rattle.csp_tidy.specs.Tidied.{IsNeeded, place_of}
use Rattle.csp_tidy.specs.declared.place.TokenPlace.{TokenPlace}
use Rattle.csp_tidy.specs.declared.tidying.Needed.{Needed}
use Rattle.csp_tidy.proofs.Local.{list_same}

-- Items

pub at_option : {A : Type 0} (P : A → Type 0) (o : Option A) → MatchOption o ⊥ P → (x : A) × (o ≡ Some x) × P x
at_option P None is = absurd is
at_option P (Some x) is = (x, refl, is)

contains_tail : {A : Type 0} (y : A) (ys : List A) (x : A) → Contains (y ∷ ys) x → (y ≡ x) ⊎ Contains ys x
contains_tail y ys x (zero, within, is) = inl is
contains_tail y ys x (suc k, within, is) = inr (k, omega arith, is)

contains_cons : {A : Type 0} (y : A) (ys : List A) (x : A) → Contains ys x → Contains (y ∷ ys) x
contains_cons y ys x (k, within, is) = (suc k, omega arith, is)

contains_filter : {A : Type 0} (p : A → Bool) (ys : List A) (x : A) → p x ≡ true → Contains ys x → Contains (filter p ys) x
contains_filter p [] x passes (k, within, is) = absurd (omega arith)
contains_filter p (y ∷ ys) x passes has = elim (contains_tail y ys x has) [
  | inl same ↦
      let here : p y ≡ true = ap p same ∙ passes in
      subst (λ zs. Contains zs x) (sym (cond-true (p y) (y ∷ filter p ys) (filter p ys) here)) (0, omega arith, same)
  | inr later ↦
      let rest = contains_filter p ys x passes later in
      elim (cases_Bool (p y)) [
        | inl keeps ↦ subst (λ zs. Contains zs x) (sym (cond-true (p y) (y ∷ filter p ys) (filter p ys) keeps)) (contains_cons y (filter p ys) x rest)
        | inr drops ↦ subst (λ zs. Contains zs x) (sym (cond-false (p y) (y ∷ filter p ys) (filter p ys) drops)) rest
      ]
]

-- Entries

pub needed_with : (list thinner : PolicyList) (place : TokenPlace) (needed : Needed) → thinner ≡ without list place → place_of needed ≡ place → needed.allowed_with ≡ true
    → IsCounterexample list thinner needed.check → IsNeeded list needed
needed_with list thinner place needed made at with is = record {
  valid = is.valid;
  with_token = is.allowed ∙ sym with;
  without_token = ap (λ (q : TokenPlace). list_allows (without list q) needed.check) at ∙ ap (λ (l : PolicyList). list_allows l needed.check) (sym made) ∙ is.refused ∙ sym (ap not with);
}

pub needed_without : (list thinner : PolicyList) (place : TokenPlace) (needed : Needed) → thinner ≡ without list place → place_of needed ≡ place → needed.allowed_with ≡ false
    → IsCounterexample thinner list needed.check → IsNeeded list needed
needed_without list thinner place needed made at with is = record {
  valid = is.valid;
  with_token = is.refused ∙ sym with;
  without_token = ap (λ (q : TokenPlace). list_allows (without list q) needed.check) at ∙ ap (λ (l : PolicyList). list_allows l needed.check) (sym made) ∙ is.allowed ∙ sym (ap not with);
}

-- Equivalence

governed_or_same : (list : PolicyList) (place : TokenPlace) (names : List Name) (asked : Check) → GovernsAt list place names
    → Contains names (effective_name asked) ⊎ (list_allows (without list place) asked ≡ list_allows list asked)
governed_or_same list place names asked is =
    let p = at_option _ (slice_get list.policies place.policy) is in
    let d = at_option _ (slice_get p.0.directives place.directive) p.2 in
    elim (cases_Bool (governs p.0 d.0 (effective_name asked))) [
      | inl governed ↦ inl (subst (λ (ns : List Name). Contains ns (effective_name asked)) (sym d.2) (contains_filter (governs p.0 d.0) effective_names (effective_name asked) governed (has_effective asked)))
      | inr other ↦ inr (list_same list place p.0 d.0 asked p.1 d.1 other)
    ]

pub spare : (list thinner : PolicyList) (place : TokenPlace) (names : List Name) → thinner ≡ without list place → GovernsAt list place names
    → SubsumesAmong names list thinner → SubsumesAmong names thinner list → AreEquivalent list thinner
spare list thinner place names made governs one two = (
  λ asked valid allowed. elim (governed_or_same list place names asked governs) [
    | inl among ↦ one asked valid among allowed
    | inr same ↦ ap (λ (l : PolicyList). list_allows l asked) made ∙ same ∙ allowed
  ],
  λ asked valid allowed. elim (governed_or_same list place names asked governs) [
    | inl among ↦ two asked valid among allowed
    | inr same ↦ sym same ∙ sym (ap (λ (l : PolicyList). list_allows l asked) made) ∙ allowed
  ],
)
