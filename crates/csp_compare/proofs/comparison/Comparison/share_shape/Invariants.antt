use Rattle.std.proofs.Common.{map, take}
use Rattle.csp_compare.specs.Drafts.{Adds, at_shape}
use Rattle.csp_compare.specs.Comparisons.{lists_of}
use Rattle.csp_compare.proofs.comparison.Comparison.share_shape.Given as goal

abbrev pub invariant-loop-place : goal.invariant-loop-place
invariant-loop-place l = Adds (lists_of l.self) (map (at_shape l.shape) (take l.place l.self.policies.items)) l.fn.draft l.draft
