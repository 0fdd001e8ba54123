use Rattle.std.proofs.Common.{◌≡◌, take}
use Rattle.csp_cell.proofs.cell.copies.Given as goal

abbrev pub invariant-loop-literal : goal.invariant-loop-literal
invariant-loop-literal l = l.made.items ≡ take l.literal-index l.literals
