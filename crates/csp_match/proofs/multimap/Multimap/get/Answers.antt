use Rattle.std.proofs.Common.{rules, of_calls, ◌≡◌, ◌∙◌, ◌-◌, is_lt, length, take, drop, take_all, arith, length-drop}
use Rattle.std.proofs.lemmas.List.Sorted.{IsPartitionPoint-from_clause}
use Rattle.csp_match.proofs.RunOfKey.{by_first, less_first, part_given, run_any, run_level, run_sorted, up_to_first}
use Rattle.csp_match.proofs.multimap.Multimap.get.Goals as goal

pub end_of_key-requires : goal.end_of_key-requires
end_of_key-requires g c =
    let xs = c.args.self.now in
    let i = c.partition_point-first.result in
    let same : c.as_slice-pairs.result.now ≡ xs = c.as_slice-pairs.ensures.value ∙ c.self.view_is in
    let all : take (length xs - i) (drop i xs) ≡ drop i xs = take_all _ _ (omega (arith, length-drop i xs)) in
    let sorted = rw c.self.view_is at c.self.invariant in
    rw (same, all) (up_to_first g.met.K.Ord.total (λ x. x.0) c.args.key.now i xs (by_first g.K.Ord.cmp g.V.Ord.cmp xs sorted))

pub returns : goal.returns
returns g c =
    let R = g.K.Ord.cmp in
    let k = c.args.key.now in
    let xs = c.args.self.now in
    let i = c.partition_point-first.result in
    let j = c.end_of_key.result in
    let same : c.as_slice-pairs.result.now ≡ xs = c.as_slice-pairs.ensures.value ∙ c.self.view_is in
    let sorted = rw c.self.view_is at c.self.invariant in
    let all : take (length xs - i) (drop i xs) ≡ drop i xs = take_all _ _ (omega (arith, length-drop i xs)) in
    let first = rw same at c.partition_point-first.ensures.partitioned in
    let upto = rw (same, all) at c.end_of_key.ensures.end in
    let less = IsPartitionPoint-from_clause (λ x. is_lt (R x.0 k)) xs i first
    (less_first g.met.K.Ord.total (λ x. x.0) k xs (by_first R g.V.Ord.cmp xs sorted)) (λ a r f h. search (rules, of_calls)) in
    let level = run_level R (λ x. x.0) k xs i j less upto in
    rw (same, all) (record {
      any = λ p. run_any R (λ x. x.0) k xs i j less upto p;
      given = part_given i j xs;
      rises = run_sorted g.V.Ord.cmp g.met.K.Ord.total k xs i j level sorted;
    })
