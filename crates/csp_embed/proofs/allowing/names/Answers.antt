use Rattle.csp_embed.proofs.OnlyOne.{names_where_same}
use Rattle.csp_embed.proofs.allowing.names.Goals as goal

pub returns-in-Ok-read_origin : goal.returns-in-Ok-read_origin
returns-in-Ok-read_origin c =
    let names = names_where_same c.args.value.now c.in-Ok.text.now _ c.in-Ok-read_origin.named c.args.embedder.now
    c.in-Ok.ensures.cases.0 c.in-Ok.ensures.cases.1 c.in-Ok-read_origin.ensures.origin in
    (λ is. names.0 (c.are_same_origin.ensures.0 is), λ is. c.are_same_origin.ensures.1 (names.1 is))
