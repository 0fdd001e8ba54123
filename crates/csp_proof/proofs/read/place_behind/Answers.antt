use Rattle.std.proofs.Common.{◌∙◌, sym, ap, subst, refl}
use Rattle.std.specs.Prelude.{Option}
use Rattle.csp_proof.specs.Places.{next}
use Rattle.csp_proof.specs.Reading.{IsReadAs}
use Rattle.csp_proof.specs.declared.line.ProofLine.{ProofLine}
use Rattle.csp_proof.proofs.LinesRead.{line_told}
use Rattle.csp_proof.proofs.read.place_behind.Goals as goal

pub returns-in-None-clause-bad : goal.returns-in-None-clause-bad
returns-in-None-clause-bad c =
    let read = subst (λ (o : Option ProofLine). IsReadAs c.args.text.now o) c.in-Some.is c.in_ok-line.ensures in
    (refl, λ l valid same. ap (next c.args.number c.args.place) (line_told l c.in-Some.line valid read.0 (sym same ∙ read.1)) ∙ sym c.in_ok-after.ensures ∙ c.in-None.is)
