use Rattle.std.proofs.Common.{◌≡◌, take}
use Rattle.csp_model.specs.Tokens.{plain_value}
use Rattle.csp_token.proofs.base64_value.write_plain.Given as goal

abbrev pub invariant-loop-i : goal.invariant-loop-i
invariant-loop-i l = take l.i l.out ≡ plain_value (take l.i l.value)
