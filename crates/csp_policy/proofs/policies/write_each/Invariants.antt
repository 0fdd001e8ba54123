use Rattle.std.proofs.Common.{◌≡◌, ◌++◌, drop}
use Rattle.csp_policy.specs.Tokens.{pair_tokens}
use Rattle.csp_policy.proofs.policies.write_each.Given as goal

-- what is written, and the tokens that are left, are what was written before and all tokens
abbrev pub invariant-loop-token : goal.invariant-loop-token
invariant-loop-token l = record {
  tokens : l.out.tokens ++ pair_tokens (drop l.token-index l.tokens) l.sources ≡ l.fn.out.tokens ++ pair_tokens l.fn.tokens l.fn.sources;
  before : l.out.before ≡ l.fn.out.before;
}
