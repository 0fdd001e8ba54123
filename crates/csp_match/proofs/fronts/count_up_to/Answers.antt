use Rattle.std.proofs.Common.{rules, of_calls}
use Rattle.std.proofs.lemmas.List.Sorted.{IsPartitionPoint-from_clause}
use Rattle.csp_match.specs.Fronts.{is_up_to, Place}
use Rattle.csp_match.proofs.FrontLaws.{up_to_before}
use Rattle.csp_match.proofs.fronts.count_up_to.Goals as goal

pub returns-clause-end : goal.returns-clause-end
returns-clause-end c =
    let targets = c.args.targets.now in
    let here : Place = (c.args.host.now, c.args.path.now) in
    IsPartitionPoint-from_clause (is_up_to here) targets c.partition_point.result c.partition_point.ensures.partitioned
    (up_to_before targets c.requires here) (λ a r f h. search (rules, of_calls))
