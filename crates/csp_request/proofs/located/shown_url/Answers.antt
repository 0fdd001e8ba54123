use Rattle.csp_json.specs.View.{view}
use Rattle.csp_request.proofs.ReadOnce.{located_text}
use Rattle.csp_request.proofs.located.shown_url.Goals as goal

pub returns-in-Some-clause-located : goal.returns-in-Some-clause-located
returns-in-Some-clause-located c =
    rw (located_text c.args.field (view c.args.value.now) c.in-Some.text.now c.in-Some.ensures) c.shown_url_of_text.ensures.url
