use Rattle.std.proofs.Common.{◌≡◌, ℕ, ◌≤◌, ◌<◌, ◌+◌, false, get_or, drop}
use Rattle.csp_model.specs.Ascii.{code}
use Rattle.csp_match.specs.Types.{HostPart}
use Rattle.csp_match.specs.Under.{any_under}
use Rattle.csp_match.proofs.host_index.HostIndex.matches_suffix.Given as goal

abbrev pub invariant-loop-at : goal.invariant-loop-at
invariant-loop-at l = (k d : ℕ) → l.first ≤ k → k < l.at → get_or l.domain k d ≡ code "."
    → any_under (HostPart.Under (drop (k + 1) l.domain)) l.asked l.self ≡ false
