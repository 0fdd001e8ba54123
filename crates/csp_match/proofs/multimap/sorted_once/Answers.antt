use Rattle.std.proofs.lemmas.List.Filters.{dedup_is}
use Rattle.std.proofs.lemmas.List.Kept.{Any-dedup, IsStrictlySortedBy-dedup}
use Rattle.std.proofs.lemmas.List.Sorted.{Contains-permutation}
use Rattle.csp_match.proofs.multimap.sorted_once.Goals as goal

pub returns-then-not-rises-clause-kept : goal.returns-then-not-rises-clause-kept
returns-then-not-rises-clause-kept g c x h =
    let is = dedup_is _ _ _ c.dedup.ensures.filtered in
    rw is (Any-dedup g.met.T.Eq.laws _ x (Contains-permutation _ _ x c.sort_unstable.ensures.permutation h))

pub returns-then-not-rises-clause-rises : goal.returns-then-not-rises-clause-rises
returns-then-not-rises-clause-rises g c =
    let is = dedup_is _ _ _ c.dedup.ensures.filtered in
    rw is (IsStrictlySortedBy-dedup g.met.T.Ord.total g.met.T.Ord.matches_eq _ c.sort_unstable.ensures.sorted)
