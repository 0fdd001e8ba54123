use Rattle.std.proofs.Common.{◌≡◌, sym, ◌∙◌, Some}
use Rattle.csp_model.specs.Validity.{IsValidUrl}
use Rattle.csp_url.specs.Texts.{stripped_of}
use Rattle.csp_url.specs.Types.{ShownUrl}
use Rattle.csp_url.proofs.ShownUrls.{shown_url_both, shown_url_valid}
use Rattle.csp_url.proofs.Valid.{if_ok}
use Rattle.csp_url.proofs.strip.read_shown_url.Goals as goal

pub returns-clause-valid : goal.returns-clause-valid
returns-clause-valid c =
    if_ok (λ (found : ShownUrl). IsValidUrl found.url) c.ok_or.result _ (sym c.in_ok-shown_url_of.ensures ∙ c.ok_or.ensures.ok_part)
    (shown_url_valid c.args.text.now)

pub returns-clause-stripped : goal.returns-clause-stripped
returns-clause-stripped c =
    if_ok (λ (found : ShownUrl). stripped_of c.args.text.now ≡ Some found.shown) c.ok_or.result _
    (sym c.in_ok-shown_url_of.ensures ∙ c.ok_or.ensures.ok_part) (λ made h. (shown_url_both c.args.text.now made h).1)
