use Rattle.std.proofs.Common.{◌≡◌, ◌∙◌, sym, ap, subst, not, List, [], ◌∷◌, ◌++◌, filter, All, Contains}
use Rattle.std.specs.List.{list_any}
use Rattle.std.proofs.lemmas.List.Elements.{All-push, All-weaker}
use Rattle.csp_model.specs.Validity.{IsIntegrityValue}
use Rattle.csp_model.specs.declared.check.CheckPart.TheVariants as part
use Rattle.csp_model.specs.declared.source.Hash.{Hash}
use Rattle.csp_facts.specs.Atoms.{IsValidAtom}
use Rattle.csp_facts.specs.declared.atom.Literal.{Literal}
use Rattle.csp_cell.specs.Cells.{IsOf, places}
use Rattle.csp_pick.specs.Pairs.{pairs_in, says_outside}
use Rattle.csp_pick.specs.Parts.{MeetPart, integrity_holds}
use Rattle.csp_pick.proofs.PairsMet.{said_meet, said_and_fresh_meet, said_valid}
use Rattle.csp_pick.proofs.integrity.pick_integrity.Goals.{then-any_outside+in_ok-fresh_pair+in_ok-push, else-any_outside}
use Rattle.csp_pick.proofs.integrity.pick_integrity.Goals as goal

abbrev others : List Literal → List Literal
others ls = filter (λ l. not (places l)) ls

pub returns-clause-valid : goal.returns-clause-valid
returns-clause-valid c =
    let ls = c.args.cell.now.literals in
    let said : c.in_ok-pairs.pairs ≡ pairs_in (others ls) = rw c.others.ensures.others at c.in_ok-pairs.ensures in
    let atoms = All-weaker (IsOf c.args.cell.now.shape) (λ l. IsValidAtom l.atom) (λ l valid. valid.0) ls c.others.ensures.cell.each in
    let valid : All (λ (h : Hash). IsIntegrityValue h.value) c.in_ok-pairs.pairs =
    subst (All (λ (h : Hash). IsIntegrityValue h.value)) (sym said) (said_valid c.args.vocabulary.now.hashes ls atoms) in
    elim c.if-any_outside.branch [
      | then-any_outside+in_ok-fresh_pair+in_ok-push w ↦
          subst (All (λ (h : Hash). IsIntegrityValue h.value)) (sym (w.pairs-is ∙ w.in_ok-push.ensures.ok))
          (All-push (λ (h : Hash). IsIntegrityValue h.value) c.in_ok-pairs.pairs w.in_ok-fresh_pair.field-0 valid w.in_ok-fresh_pair.ensures.valid)
      | else-any_outside w ↦ subst (All (λ (h : Hash). IsIntegrityValue h.value)) (sym w.pairs-is) valid
    ]

pub returns-clause-meets : goal.returns-clause-meets
returns-clause-meets c =
    let ls = c.args.cell.now.literals in
    let hashes = c.args.vocabulary.now.hashes in
    let together = c.others.ensures.cell.pairs in
    let said : c.in_ok-pairs.pairs ≡ pairs_in (others ls) = rw c.others.ensures.others at c.in_ok-pairs.ensures in
    let asked : c.any_outside.result ≡ list_any says_outside (others ls) = rw c.others-2.ensures.others at c.any_outside.ensures in
    elim c.if-any_outside.branch [
      | then-any_outside+in_ok-fresh_pair+in_ok-push w ↦
          let fresh = w.in_ok-fresh_pair.field-0 in
          let new : ¬ Contains hashes fresh = rw w.as_slice.ensures at w.in_ok-fresh_pair.ensures.fresh in
          subst (λ (pairs : List Hash). MeetPart part.Integrity (integrity_holds hashes pairs) ls)
          (sym (w.pairs-is ∙ w.in_ok-push.ensures.ok ∙ ap (λ (pairs : List Hash). pairs ++ fresh ∷ []) said))
          (said_and_fresh_meet hashes ls fresh new together c.requires (sym asked ∙ w.if-any_outside.true))
      | else-any_outside w ↦
          subst (λ (pairs : List Hash). MeetPart part.Integrity (integrity_holds hashes pairs) ls) (sym (w.pairs-is ∙ said))
          (said_meet hashes ls together c.requires (sym asked ∙ w.if-any_outside.false))
    ]
