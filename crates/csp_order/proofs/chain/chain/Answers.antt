use Rattle.std.proofs.Common.{arith, ◌≡◌, ◌≤◌, ◌+◌, ◌∙◌, sym, ap, subst, ℕ, List, [], ◌∷◌, ◌++◌, length, refl}
use Rattle.std.proofs.lemmas.List.{length_push}
use Rattle.std.proofs.lemmas.List.Elements.{All-contains}
use Rattle.csp_order.specs.Chains.{LeadsThrough}
use Rattle.csp_order.specs.Pairs.{list_limit, pair}
use Rattle.csp_order.specs.Ways.{AreWays, GoesOn, IsClosed, is_reached}
use Rattle.csp_order.specs.declared.pair.Pair.{Pair}
use Rattle.csp_order.specs.declared.way.Way.{Way}
use Rattle.csp_order.proofs.WaysFound.{apart, arrives, unreached_longer, ways_begin, ways_few, ways_more}
use Rattle.csp_order.proofs.chain.chain.Goals as goal

pub loop-way-init : goal.loop-way-init
loop-way-init c =
    let way : Way = record { steps = c.new.result; end = c.args.ends.first } in
    let ways_are : c.push.new.self.items ≡ way ∷ [] =
    c.in_ok-push.ensures.items ∙ ap (λ (ws : List Way). ws ++ way ∷ []) c.new-ways.ensures.items in
    record {
      ways = subst (AreWays c.args.pairs.now c.args.ends.first) (sym ways_are)
          (ways_begin c.args.pairs.now c.args.ends.first way c.requires.few c.new.ensures.items refl);
      unreached = ap (λ (ws : List Way). is_reached ws c.args.ends.second) ways_are
          ∙ unreached_longer [] way c.args.ends.second refl (λ same. c.requires.differ (sym same));
    }

pub loop-way-preserved : goal.loop-way-preserved
loop-way-preserved c =
    let pairs = c.args.pairs.now in
    let next : ℕ = c.in-Some.next in
    let ways : List Way = c.loop-way.ways.items in
    let goes : GoesOn pairs ways c.in-Some.way.now next =
    subst (λ (ws : List Way). GoesOn pairs ws c.in-Some.way.now next) c.as_slice.ensures.value c.in-Some.ensures in
    let few : next ≤ list_limit =
    All-contains (λ (p : Pair). p.second ≤ list_limit) pairs (pair c.in-Some.way.now.end next)
    c.requires.each goes.leads in
    let new : Way = record { steps = c.push-in-Some.new.self; end = next } in
    let steps_are : new.steps.items ≡ c.in-Some.way.now.steps.items ++ next ∷ [] =
    c.in_ok-push-2.ensures.items ∙ ap (λ (steps : List ℕ). steps ++ next ∷ [])
    (c.in_ok-steps.ensures.items ∙ c.as_slice-in-Some.ensures.value) in
    record {
      ways = subst (AreWays pairs c.args.ends.first) (sym c.in_ok-push-3.ensures.items)
          (ways_more pairs c.args.ends.first ways c.in-Some.way.now new next c.loop-way.invariant.ways goes
          few steps_are refl);
      unreached = ap (λ (ws : List Way). is_reached ws c.args.ends.second) c.in_ok-push-3.ensures.items
          ∙ unreached_longer ways new c.args.ends.second c.loop-way.invariant.unreached
          (λ same. c.if-next-ends.false (sym same));
    }

pub loop-way-smaller : goal.loop-way-smaller
loop-way-smaller c =
    let few : length c.push-in-Some-2.new.self.items ≤ list_limit + 1 =
    ways_few c.args.pairs.now c.args.ends.first _ (loop-way-preserved c).ways in
    let longer : length c.push-in-Some-2.new.self.items ≡ length c.loop-way.ways.items + 1 =
    ap (λ (ws : List Way). length ws) c.in_ok-push-3.ensures.items ∙ length_push c.loop-way.ways.items _ in
    omega (arith, few, longer)

pub returns-then-next-ends : goal.returns-then-next-ends
returns-then-next-ends c =
    let pairs = c.args.pairs.now in
    let ways : List Way = c.loop-way.ways.items in
    let way : Way = c.in-Some.way.now in
    let goes : GoesOn pairs ways way c.args.ends.second =
    subst (GoesOn pairs ways way) c.if-next-ends.true
    (subst (λ (ws : List Way). GoesOn pairs ws way c.in-Some.next) c.as_slice.ensures.value c.in-Some.ensures) in
    subst (LeadsThrough pairs c.args.ends)
    (sym (c.from_vec.ensures ∙ c.in_ok-steps.ensures.items ∙ c.as_slice-in-Some.ensures.value))
    (arrives pairs c.args.ends ways way c.loop-way.invariant.ways goes c.requires.fresh)

pub returns : goal.returns
returns c =
    apart c.args.pairs.now c.args.ends c.loop-way.ways.items c.loop-way.invariant.ways.begun
    c.loop-way.invariant.unreached
    (subst (IsClosed c.args.pairs.now) c.as_slice.ensures.value c.in_default.ensures)
