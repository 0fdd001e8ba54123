use Rattle.std.proofs.Common.{◌≡◌, length}
use Rattle.csp_model.specs.Ascii.{lower}
use Rattle.std.specs.Cmp.Lexicographic.{slice_cmp}
use Rattle.std.specs.Ordering.{nat_cmp}
use Rattle.csp_policy.proofs.caseless_name.compare_folded.Given as goal

-- what is left of the names has the order of the whole names
abbrev pub invariant-bytes : goal.invariant-bytes
invariant-bytes l = slice_cmp nat_cmp (lower l.ours) (lower l.theirs) ≡ slice_cmp nat_cmp (lower l.fn.ours) (lower l.fn.theirs)

abbrev pub decreases-bytes : goal.decreases-bytes
decreases-bytes l = length l.ours
