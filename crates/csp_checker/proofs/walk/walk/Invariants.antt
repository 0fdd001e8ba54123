use Rattle.std.proofs.Common.{length, ◌≡◌, ◌+◌, ◌≤◌, drop, [], ◌∷◌, All}
use Rattle.std.specs.Prelude.{Contains}
use Rattle.csp_checker.specs.Leaves.{rule_by}
use Rattle.csp_branch.specs.Walks.{at_root, pending}
use Rattle.csp_checker.specs.Walk.{atoms_of, walk}
use Rattle.csp_checker.proofs.walk.walk.Given as goal

abbrev pub invariant-loop-place : goal.invariant-loop-place
invariant-loop-place l = record {
  named : All (Contains l.walker.atoms) (atoms_of (drop l.place l.nodes));
  room : length (atoms_of (drop l.place l.nodes)) + length l.walker.literals ≤ l.walker.room;
  kept : at_root l.walker ≡ at_root l.fn.walker;
  same : walk (rule_by l.fn.walker.atoms l.asked l.tree) l.place (l.walker.literals ∷ pending [] l.walker.literals) (drop l.place l.nodes)
      ≡ walk (rule_by l.fn.walker.atoms l.asked l.tree) 0 ([] ∷ []) l.nodes;
}
