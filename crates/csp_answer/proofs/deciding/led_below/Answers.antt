use Rattle.std.proofs.Common.{rules}
use Rattle.csp_answer.proofs.Finding.{leads_below}
use Rattle.csp_answer.proofs.deciding.led_below.Goals as goal

pub returns-clause-before : goal.returns-clause-before
returns-clause-before c =
    (leads_below c.args.conjunctions.now c.args.name c.partition_point.result c.requires c.partition_point.ensures.partitioned (λ a r q h. search rules)).0

pub returns-clause-from : goal.returns-clause-from
returns-clause-from c =
    (leads_below c.args.conjunctions.now c.args.name c.partition_point.result c.requires c.partition_point.ensures.partitioned (λ a r q h. search rules)).1
