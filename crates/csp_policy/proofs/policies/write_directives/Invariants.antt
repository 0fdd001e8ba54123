use Rattle.std.proofs.Common.{◌≡◌, ◌++◌, drop, map}
use Rattle.csp_policy.specs.Delivered.{piece_said}
use Rattle.csp_policy.specs.Told.{directives_in}
use Rattle.csp_policy.specs.Tokens.{kept_tokens}
use Rattle.csp_policy.proofs.policies.write_directives.Given as goal

-- what is written, and the directives that are left, are what was written before and all directives
abbrev pub invariant-loop-piece : goal.invariant-loop-piece
invariant-loop-piece l = record {
  tokens : l.out.tokens ++ kept_tokens l.disposition (directives_in (map piece_said (drop l.piece-index l.pieces)))
      ≡ l.fn.out.tokens ++ kept_tokens l.disposition (directives_in (map piece_said l.pieces));
  before : l.out.before ≡ l.fn.out.before;
}
