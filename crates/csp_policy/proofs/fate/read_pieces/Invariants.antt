use Rattle.std.proofs.Common.{◌≡◌, map, []}
use Rattle.csp_policy.specs.Delivered.{piece_said}
use Rattle.csp_policy.specs.Fates.{fates_behind}
use Rattle.csp_policy.specs.Names.{KnowsNames}
use Rattle.csp_policy.proofs.fate.read_pieces.Given as goal

-- the names of the pieces so far were seen, and these stand with what becomes of them
abbrev pub invariant-loop-text : goal.invariant-loop-text
invariant-loop-text l = record {
  seen : KnowsNames l.seen (map (λ x. x.now) l.yielded);
  read : map piece_said l.made.items ≡ fates_behind l.meta [] (map (λ x. x.now) l.yielded);
}
