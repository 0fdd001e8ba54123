use Rattle.std.proofs.Common.{map}
use Rattle.csp_model.specs.Policies.{firsts}
use Rattle.csp_policy.specs.Names.{KnowsNames}
use Rattle.csp_policy.specs.Room.{kept_of, AreShortened}
use Rattle.csp_policy.proofs.Firsts.{found}
use Rattle.csp_policy.proofs.directive.read_directives.Given as goal

-- the names that were seen are those of the first directives so far, and those of them that stay were read
abbrev pub invariant-loop-piece : goal.invariant-loop-piece
invariant-loop-piece l = record {
  seen : KnowsNames l.seen (map (λ x. x.now) l.yielded);
  read : AreShortened (kept_of l.meta (firsts (found l.yielded))) l.made.items l.initial.room l.room;
}
