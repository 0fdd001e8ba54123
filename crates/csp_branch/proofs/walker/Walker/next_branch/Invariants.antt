use Rattle.std.proofs.Common.{◌≡◌, ◌≤◌, length, []}
use Rattle.csp_branch.specs.Walks.{at_root, pending}
use Rattle.csp_branch.proofs.walker.Walker.next_branch.Given as goal

abbrev pub invariant-loop-step : goal.invariant-loop-step
invariant-loop-step l = record {
  same : pending [] l.self.literals ≡ pending [] l.fn.self.literals;
  kept : at_root l.self ≡ at_root l.fn.self;
  shorter : length l.self.literals ≤ length l.fn.self.literals;
}

abbrev pub decreases-loop-step : goal.decreases-loop-step
decreases-loop-step l = length l.self.literals
