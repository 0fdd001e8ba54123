use Rattle.std.proofs.Common.{◌∙◌}
use Rattle.csp_desk.proofs.Quoted.{written_string}
use Rattle.csp_desk.proofs.front.quote.Goals as goal

pub returns : goal.returns
returns c =
    written_string _ _ _ _ _ _ c.into_inner.ensures.items (c.string.ensures.room.0 ∙ c.new-out.ensures.before) c.new.ensures.items
    c.new-out.ensures.tokens c.in_ok-string.ensures.ok
