use Rattle.std.proofs.Common.{ap, ◌∙◌}
use Rattle.csp_json.specs.View.{view}
use Rattle.csp_model.specs.Destinations.{destination_named}
use Rattle.csp_request.specs.Members.{needed}
use Rattle.csp_request.specs.declared.field.Field.TheVariants as field
use Rattle.csp_request.proofs.Named.{required_named}
use Rattle.csp_request.proofs.fetch.destination_of.Goals as goal

pub returns : goal.returns
returns c = rw (required_named destination_named field.Destination (view c.args.value.now), ← c.in_ok-name.ensures)
    (c.require.ensures ∙ ap (needed field.Destination) c.from_name.ensures)
