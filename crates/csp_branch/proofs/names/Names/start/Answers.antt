use Rattle.std.proofs.Common.{rules}
use Rattle.csp_branch.proofs.Finding.{starts_at}
use Rattle.csp_branch.proofs.names.Names.start.Goals as goal

pub returns-clause-before : goal.returns-clause-before
returns-clause-before c =
    (starts_at c.args.self.now c.atoms.result.now c.args.part c.partition_point.result c.atoms.ensures.order.rise c.atoms.ensures.atoms
    c.partition_point.ensures.partitioned (λ a r q h. search rules)).0

pub returns-clause-from : goal.returns-clause-from
returns-clause-from c =
    (starts_at c.args.self.now c.atoms.result.now c.args.part c.partition_point.result c.atoms.ensures.order.rise c.atoms.ensures.atoms
    c.partition_point.ensures.partitioned (λ a r q h. search rules)).1
