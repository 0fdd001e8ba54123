use Rattle.std.proofs.lemmas.List.Filters.{dedup_is}
use Rattle.std.proofs.lemmas.List.Kept.{Any-dedup, Contains-from_dedup}
use Rattle.csp_match.proofs.multimap.without_repeats.Goals as goal

pub returns-clause-given : goal.returns-clause-given
returns-clause-given g c x h = Contains-from_dedup _ _ x (rw (dedup_is _ _ _ c.dedup.ensures.filtered) at h)

pub returns-clause-kept : goal.returns-clause-kept
returns-clause-kept g c x h = rw (dedup_is _ _ _ c.dedup.ensures.filtered) (Any-dedup g.met.T.Eq.laws _ x h)
