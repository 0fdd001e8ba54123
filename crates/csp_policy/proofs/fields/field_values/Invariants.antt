use Rattle.std.proofs.Common.{◌≡◌, map}
use Rattle.std.specs.List.{filter_map}
use Rattle.csp_policy.specs.Fields.{value_named}
use Rattle.csp_policy.proofs.LinesSoFar.{said}
use Rattle.csp_policy.proofs.fields.field_values.Given as goal

-- the values of what was said so far
abbrev pub invariant-loop-line : goal.invariant-loop-line
invariant-loop-line l = map (λ value. value.now) l.values.items ≡ filter_map (value_named l.name) (said l.yielded)
