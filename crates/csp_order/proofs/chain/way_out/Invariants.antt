use Rattle.std.proofs.Common.{All, take}
use Rattle.csp_order.specs.declared.way.Way.{Way}
use Rattle.csp_order.proofs.WaysFound.{IsFollowed}
use Rattle.csp_order.proofs.chain.way_out.Given as goal

abbrev pub invariant-loop-pair : goal.invariant-loop-pair
invariant-loop-pair l = All (IsFollowed l.ways l.way) (take l.pair-index l.pairs)

abbrev pub invariant-loop-way : goal.invariant-loop-way
invariant-loop-way l =
    All (λ (way : Way). All (IsFollowed l.ways way) l.pairs) (take l.way-index l.ways)
