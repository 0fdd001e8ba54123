use Rattle.std.proofs.Common.{drop}
use Rattle.csp_formulas.proofs.LeftParts.{IsSoFar}
use Rattle.csp_formulas.proofs.residuals.+left.Given as goal

abbrev pub invariant-left_of_parts-loop-part : goal.invariant-left_of_parts-loop-part
invariant-left_of_parts-loop-part l = IsSoFar l.cell.literals l.every l.parts (drop l.part-index l.parts) l.left.items
