-- The answers of a comparison have one status.
use Rattle.std.proofs.Common.{◌≡◌, ◌↔◌, ℕ, List, refl, sym, ◌∙◌}
use Rattle.std.proofs.lemmas.Bool.{false≢true}
use Rattle.csp_model.specs.Inclusion.{Subsumes}
use Rattle.csp_model.specs.declared.policy.PolicyList.{PolicyList}
use Rattle.csp_output.specs.declared.built.Built.{Built}
use Rattle.csp_output.specs.declared.status.Status.{Status}
use Rattle.csp_output.specs.declared.status.Status.TheVariants.{Clean, Found}
use Rattle.csp_output.specs.Comparisons.{IsAnswerWith, IsComparison, IsDifference, IsInclusion}

-- a difference refutes inclusion
refuted : (first second : PolicyList) (text : List ℕ) → IsDifference first second text
    → Subsumes first second → ⊥
refuted first second text is all =
    false≢true (sym is.differs.refused ∙ all is.asked is.differs.valid is.differs.allowed)

with_status : (status : Status) (first second : PolicyList) (text : List ℕ)
    → IsAnswerWith status first second text → (status ≡ Clean) ↔ Subsumes first second
with_status Clean first second text is = (λ _. is.subsumes, λ _. refl)
with_status Found first second text is = (λ same. absurd (cc same), λ all. absurd (refuted first second text is all))
with_status status first second text is = absurd is

with_other : (status : Status) (first second : PolicyList) (text : List ℕ)
    → IsAnswerWith status first second text → (status ≡ Found) ↔ (Subsumes first second → ⊥)
with_other Clean first second text is = (λ same. absurd (cc same), λ no. absurd (no is.subsumes))
with_other Found first second text is = (λ _. refuted first second text is, λ _. refl)
with_other status first second text is = absurd is

pub found_where_not : (first second : PolicyList) (built : Built) → IsComparison first second built
    → (built.status ≡ Found) ↔ (Subsumes first second → ⊥)
found_where_not first second built is = with_other built.status first second built.text is

pub clean_where_subsumed : (first second : PolicyList) (built : Built) → IsComparison first second built
    → (built.status ≡ Clean) ↔ Subsumes first second
clean_where_subsumed first second built is = with_status built.status first second built.text is

pub inclusion : (status : Status) (first second : PolicyList) (text : List ℕ) → status ≡ Clean
    → IsAnswerWith status first second text → IsInclusion first second text
inclusion Clean first second text clean is = is
inclusion Found first second text clean is = absurd (cc clean)
inclusion status first second text clean is = absurd is

both : (one other : Status) (first second : PolicyList) (a b : List ℕ) → IsAnswerWith one first second a
    → IsAnswerWith other first second b → one ≡ other
both Clean Clean first second a b is also = refl
both Found Found first second a b is also = refl
both Clean Found first second a b is also = absurd (refuted first second b also is.subsumes)
both Found Clean first second a b is also = absurd (refuted first second a is also.subsumes)
both Clean other first second a b is also = absurd also
both Found other first second a b is also = absurd also
both one other first second a b is also = absurd is

pub same_status : (first second : PolicyList) (one other : Built) → IsComparison first second one
    → IsComparison first second other → one.status ≡ other.status
same_status first second one other is also =
    both one.status other.status first second one.text other.text is also
