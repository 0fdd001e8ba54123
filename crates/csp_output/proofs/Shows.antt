-- What the texts of `compare` and `check` show.
use Rattle.std.proofs.Common.{◌≡◌, ◌∙◌, sym, ap, refl, ℕ, Bool, true, not, ◌&&◌, List, [], ◌∷◌, Any, Option, Some, None}
use Rattle.std.proofs.lemmas.List.Folds.{Any-from_list_any}
use Rattle.csp_model.specs.Inclusion.{Subsumes}
use Rattle.csp_model.specs.Policies.{IsReadable}
use Rattle.csp_model.specs.Verdict.{allows_all, is_enforce, is_enforced, verdict_of}
use Rattle.csp_model.specs.declared.check.Check.{Check}
use Rattle.csp_model.specs.declared.policy.Disposition.{Disposition}
use Rattle.csp_model.specs.declared.policy.Disposition.TheVariants.{Enforce, Report}
use Rattle.csp_model.specs.declared.policy.PolicyList.{PolicyList}
use Rattle.csp_model.specs.declared.verdict.Item.{Item}
use Rattle.csp_proof.specs.Accepts.{IsAccepted, first_bad_node}
use Rattle.csp_proof.specs.Texts.{IsRefused, IsTextOf}
use Rattle.csp_proof.specs.declared.proof.Proof.{Proof}
use Rattle.csp_output.specs.Checks.{IsChecked, checked}
use Rattle.csp_output.specs.Comparisons.{IsComparison, IsDifference, IsInclusion}
use Rattle.csp_output.specs.declared.built.Built.{Built}
use Rattle.csp_output.specs.declared.status.Status.TheVariants.{Clean}
use Rattle.csp_output.proofs.OneStatus.{inclusion}

-- An enforced policy blocks what a list refuses

enforced_is : (d : Disposition) → is_enforce d ≡ true → d ≡ Enforce
enforced_is Enforce is = refl
enforced_is Report is = absurd (cc is)

enforced_among : (items : List Item) → Any (λ (i : Item). is_enforced i ≡ true) items
    → Any (λ (i : Item). i.disposition ≡ Enforce) items
enforced_among items any = (any.0, any.1, any.2, any.3, enforced_is any.1.disposition any.4)

abbrev pub BlocksWhatIsRefused : Type 0
BlocksWhatIsRefused = (list : PolicyList) (checks : List Check)
    → (verdict_of list checks).blocked ≡ not (allows_all list checks)

pub shows_what_blocks : BlocksWhatIsRefused → (first second : PolicyList) (text : List ℕ)
    (shown : IsDifference first second text)
    → Any (λ (i : Item). i.disposition ≡ Enforce) (verdict_of second (shown.asked ∷ [])).items
shows_what_blocks law first second text shown =
    let items = (verdict_of second (shown.asked ∷ [])).items in
    enforced_among items
    (Any-from_list_any is_enforced items
    (law second (shown.asked ∷ []) ∙ ap (λ (b : Bool). not (b && true)) shown.differs.refused))

-- An accepted text

accepted_where_clean : (bad : Option ℕ) → (checked bad).status ≡ Clean → bad ≡ None
accepted_where_clean None is = refl
accepted_where_clean (Some line) is = absurd (cc is)

abbrev pub AcceptedIsSo : Type 0
AcceptedIsSo = (first second : PolicyList) (proof : Proof) → IsReadable first → IsReadable second
    → IsAccepted first second proof → Subsumes first second

pub accepted_shows : AcceptedIsSo → (first second : PolicyList) (text : List ℕ) (built : Built) → IsReadable first
    → IsReadable second → IsChecked first second text built → built.status ≡ Clean → Subsumes first second
accepted_shows law first second text built readable also is clean =
    law first second is.proof readable also (accepted_where_clean (first_bad_node first second is.proof)
    (sym (ap (λ (b : Built). b.status) is.output) ∙ clean))

-- A printed inclusion

abbrev pub IsOfOneProof : Type 0
IsOfOneProof = (one other : Proof) (text : List ℕ) → IsTextOf one text → IsTextOf other text → one ≡ other

accepted_text : IsOfOneProof → (first second : PolicyList) (text : List ℕ) (built : Built)
    → IsInclusion first second text → IsChecked first second text built → built ≡ checked None
accepted_text law first second text built is also =
    also.output
    ∙ ap (λ (p : Proof). checked (first_bad_node first second p)) (law also.proof is.proof text also.spelled is.spelled)
    ∙ ap checked is.printed.accepted

pub accepts_what_is_printed : IsOfOneProof → (first second : PolicyList) (printed built : Built)
    → IsComparison first second printed → printed.status ≡ Clean → IsChecked first second printed.text built
    → built ≡ checked None
accepts_what_is_printed law first second printed built is clean also =
    accepted_text law first second printed.text built
    (inclusion printed.status first second printed.text clean is) also

pub refuses_nothing_printed : (first second : PolicyList) (printed : Built) (line : ℕ)
    → IsComparison first second printed → printed.status ≡ Clean → IsRefused printed.text line → ⊥
refuses_nothing_printed first second printed line is clean refused =
    let shown = inclusion printed.status first second printed.text clean is in
    refused.none shown.proof shown.spelled
