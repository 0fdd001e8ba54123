use Rattle.std.proofs.Common.{◌∙◌, sym}
use Rattle.csp_facts.proofs.OrderLaws.{by_kind_is}
use Rattle.csp_facts.proofs.order.compare.Goals as goal

pub returns : goal.returns
returns c = c.by_kind.ensures ∙ sym (by_kind_is c.args.one.now c.args.other.now)
