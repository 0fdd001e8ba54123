use Rattle.std.proofs.Common.{rules, of_calls, true, false, ◌≡◌, is_gt, is_le, arith}
use Rattle.std.proofs.lemmas.List.Sorted.{IsPartitionPoint-from_clause}
use Rattle.csp_match.proofs.RunOfKey.{all_up_to, none_up_to}
use Rattle.csp_match.proofs.multimap.end_of_key.Goals as goal

pub returns-then-is_gt-clause-end : goal.returns-then-is_gt-clause-end
returns-then-is_gt-clause-end g c =
    let more : is_gt (g.K.Ord.cmp c.in-Some-Some.first.now.0 c.args.key.now) ≡ true = search (rules, of_calls) in (
      λ k d low high. absurd (omega (arith, high)),
      λ k d low high.
          none_up_to g.K.Ord.cmp (λ x. x.0) c.args.key.now c.args.pairs.now c.in-Some-Some.first.now c.requires
          (λ e. search (rules, of_calls)) more k d high,
    )

pub returns-then-is_gt-2-clause-end : goal.returns-then-is_gt-2-clause-end
returns-then-is_gt-2-clause-end g c =
    IsPartitionPoint-from_clause (λ x. is_le (g.K.Ord.cmp x.0 c.args.key.now)) c.args.pairs.now c.partition_point.result
    c.partition_point.ensures.partitioned c.requires (λ a r f h. search (rules, of_calls))

pub returns-else-is_gt-2-clause-end : goal.returns-else-is_gt-2-clause-end
returns-else-is_gt-2-clause-end g c =
    let below : is_gt (g.K.Ord.cmp c.in-Some-Some.last.now.0 c.args.key.now) ≡ false = search (rules, of_calls) in (
      λ k d low high.
          all_up_to g.K.Ord.cmp (λ x. x.0) c.args.key.now c.args.pairs.now c.in-Some-Some.last.now c.requires
          (λ e. search (rules, of_calls)) below k d high,
      λ k d low high. absurd (omega arith),
    )
