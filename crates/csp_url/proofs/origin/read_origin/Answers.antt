use Rattle.std.proofs.Common.{sym, ◌∙◌}
use Rattle.csp_model.specs.Validity.{IsValidOrigin}
use Rattle.csp_url.proofs.Valid.{origin_valid, if_ok}
use Rattle.csp_url.proofs.origin.read_origin.Goals as goal

pub returns-clause-valid : goal.returns-clause-valid
returns-clause-valid c =
    if_ok IsValidOrigin c.ok_or.result _ (sym c.in_ok-origin_of.ensures ∙ c.ok_or.ensures.ok_part)
    (origin_valid c.args.text.now)
