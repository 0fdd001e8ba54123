use Rattle.std.proofs.Common.{rules, ◌≡◌, ◌↔◌, IsTrue, Bool, not, sym, subst}
use Rattle.csp_model.specs.DecideNonces.{is_nonceable}
use Rattle.csp_model.specs.Inline.{IsNonceable}
use Rattle.csp_model.proofs.NoncesDecided.{nonceable_decides}
use Rattle.csp_model.proofs.element.nonceable.Goals as goal

pub returns-else-ne-clause-nonceable : goal.returns-else-ne-clause-nonceable
returns-else-ne-clause-nonceable c =
    let e = c.args.element.now in
    let value : not c.has_suspect.result ≡ is_nonceable e.tag e.attributes e.duplicate = search rules in
    subst (λ (b : Bool). IsTrue b ↔ IsNonceable e.tag e.attributes e.duplicate) (sym value)
    (nonceable_decides e.tag e.attributes e.duplicate)
