use Rattle.std.proofs.Common.{refl}
use Rattle.csp_cell.proofs.cell.Cell.split.Goals as goal

pub returns-clause-first_decides : goal.returns-clause-first_decides
returns-clause-first_decides c = rw (← c.in_ok-copy.ensures) c.in_ok-first.ensures.decides

pub returns-clause-second_decides : goal.returns-clause-second_decides
returns-clause-second_decides c = rw (← c.in_ok-copy-2.ensures) c.in_ok-second.ensures.decides

pub returns-clause-first_meets : goal.returns-clause-first_meets
returns-clause-first_meets c hashes asked =
    rw (← c.in_ok-copy.ensures) (c.in_ok-first.ensures.meets_positive hashes asked refl)

pub returns-clause-second_meets : goal.returns-clause-second_meets
returns-clause-second_meets c hashes asked =
    rw (← c.in_ok-copy-2.ensures) (c.in_ok-second.ensures.meets_negative hashes asked refl)
