use Rattle.std.proofs.Common.{◌≡◌, length, take}
use Rattle.csp_branch.specs.Walks.{at_root}
use Rattle.csp_branch.proofs.walker.Walker.go_back_to.Given as goal

abbrev pub invariant-loop-self : goal.invariant-loop-self
invariant-loop-self l = record {
  kept : at_root l.self ≡ at_root l.fn.self;
  first : take l.count l.self.literals ≡ take l.count l.fn.self.literals;
}

abbrev pub decreases-loop-self : goal.decreases-loop-self
decreases-loop-self l = length l.self.literals
