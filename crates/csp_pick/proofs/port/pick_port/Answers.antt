use Rattle.std.proofs.Common.{◌∙◌, sym, ap, arith}
use Rattle.std.specs.Prelude.{unwrap_or}
use Rattle.csp_pick.proofs.PortsMet.{wanted_meets, allowed_meets, counted}
use Rattle.csp_pick.proofs.port.pick_port.Goals as goal

pub allowed_port-requires : goal.allowed_port-requires
allowed_port-requires c = rw c.others.ensures.others (omega (arith, counted c.args.cell.now.literals, c.requires))

pub returns-in-Some-clause-meets : goal.returns-in-Some-clause-meets
returns-in-Some-clause-meets c =
    wanted_meets c.args.scheme c.other_than.result c.in-Some.number c.args.cell.now.literals c.placing.ensures.cell.pairs
    (rw c.placing.ensures.placing at c.in-Some.ensures)
    (ap (unwrap_or c.other_than.result) (sym c.default_port-default.ensures) ∙ c.other_than.ensures.same)

pub returns-in-None-clause-meets : goal.returns-in-None-clause-meets
returns-in-None-clause-meets c =
    allowed_meets c.args.scheme c.other_than-in-None.result c.args.cell.now.literals (rw c.placing.ensures.placing at c.in-None.ensures)
    (rw (← c.default_port-default.ensures, c.other_than-in-None.ensures.same, ← c.others.ensures.others) c.allowed_port.ensures)
