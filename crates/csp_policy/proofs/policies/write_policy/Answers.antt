use Rattle.std.proofs.Common.{◌∙◌, ap, List, ◌++◌, map}
use Rattle.std.proofs.lemmas.Result.{on_ok_weaker}
use Rattle.json.specs.Token.{Token}
use Rattle.csp_policy.specs.Delivered.{piece_said}
use Rattle.csp_policy.specs.Told.{directives_in}
use Rattle.csp_policy.proofs.Written.{policy_is}
use Rattle.csp_policy.proofs.policies.write_policy.Goals as goal

pub returns-clause-tokens : goal.returns-clause-tokens
returns-clause-tokens c =
    on_ok_weaker c.write_parts.result
    (λ is.
    is ∙ ap (λ (l : List Token). c.args.out.now.tokens ++ l)
    (policy_is c.args.number c.args.policy.now.line c.args.policy.now.disposition c.args.policy.now.meta
    (directives_in (map piece_said c.args.pieces.now))))
    c.write_parts.ensures.tokens
