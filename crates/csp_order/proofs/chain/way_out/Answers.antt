use Rattle.std.proofs.Common.{subst, All, arith}
use Rattle.std.proofs.lemmas.List.{take_all}
use Rattle.std.proofs.lemmas.List.Elements.{All-more}
use Rattle.csp_order.specs.declared.way.Way.{Way}
use Rattle.csp_order.proofs.WaysFound.{IsFollowed, all_followed}
use Rattle.csp_order.proofs.chain.way_out.Goals as goal

pub loop-way-preserved : goal.loop-way-preserved
loop-way-preserved c =
    let ways = c.args.ways.now in
    let here : All (IsFollowed ways c.way-item.result) c.args.pairs.now =
    subst (All (IsFollowed ways c.way-item.result))
    (take_all c.loop-pair.pair-index c.args.pairs.now (omega arith)) c.loop-pair.invariant in
    All-more (λ (way : Way). All (IsFollowed ways way) c.args.pairs.now) ways c.loop-way.way-index
    c.way-item.result (omega arith) c.loop-way.invariant
    (subst (λ (way : Way). All (IsFollowed ways way) c.args.pairs.now) c.way-item.is here)

pub returns : goal.returns
returns c =
    all_followed c.args.pairs.now c.args.ways.now
    (subst (All (λ (way : Way). All (IsFollowed c.args.ways.now way) c.args.pairs.now))
    (take_all c.loop-way.way-index c.args.ways.now (omega arith)) c.loop-way.invariant)
