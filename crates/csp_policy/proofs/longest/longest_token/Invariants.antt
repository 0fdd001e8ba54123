use Rattle.std.proofs.Common.{◌≡◌, length, drop, max}
use Rattle.std.specs.List.{fold}
use Rattle.csp_policy.proofs.longest.longest_token.Given as goal

abbrev pub invariant-loop-text : goal.invariant-loop-text
invariant-loop-text l = fold (λ n text. max n (length text)) l.longest (drop l.text-index l.texts) ≡ fold (λ n text. max n (length text)) l.fn.longest l.texts
