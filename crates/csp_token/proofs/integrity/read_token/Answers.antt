use Rattle.csp_token.proofs.Values.{value_valid}
use Rattle.csp_token.proofs.integrity.read_token.Goals as goal

pub returns-in_ok-new-in-Some-clause-valid : goal.returns-in_ok-new-in-Some-clause-valid
returns-in_ok-new-in-Some-clause-valid c =
    rw (c.in_ok-new-in-Some.ensures, c.parts.ensures.value, c.without_options.ensures)
    (value_valid c.args.token.now c.utf8.token c.requires)
