use Rattle.csp_match.proofs.RunOfKey.{pairs_sorted}
use Rattle.csp_match.proofs.multimap.Multimap.new.Goals as goal

pub invariant_of-result : goal.invariant_of-result
invariant_of-result g c = pairs_sorted g.met.K.Ord.total g.met.V.Ord.total _ c.sorted_once.ensures.rises
