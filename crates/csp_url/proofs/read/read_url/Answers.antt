use Rattle.std.proofs.Common.{sym, ◌∙◌}
use Rattle.csp_model.specs.Validity.{IsValidUrl}
use Rattle.csp_url.proofs.Valid.{url_valid, if_ok}
use Rattle.csp_url.proofs.read.read_url.Goals as goal

pub returns-clause-valid : goal.returns-clause-valid
returns-clause-valid c =
    if_ok IsValidUrl c.ok_or.result _ (sym c.in_ok-url_of.ensures ∙ c.ok_or.ensures.ok_part) (url_valid c.args.text.now)
