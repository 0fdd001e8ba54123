use Rattle.std.proofs.Common.{take}
use Rattle.csp_search.specs.Branches.{IsCellOf}
use Rattle.csp_search.proofs.open.cell_of.Given as goal

abbrev pub invariant-loop-change : goal.invariant-loop-change
invariant-loop-change l = IsCellOf l.fn.shape (take l.change-index l.fn.walker.literals) l.cell
