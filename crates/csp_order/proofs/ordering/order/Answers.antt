use Rattle.std.proofs.Common.{◌≡◌, ◌≢◌, ◌∙◌, sym, ap, subst, refl, ℕ, ◌+◌, List, [], ◌∷◌, ◌++◌, length, get_or, map, take, All, AllPairs}
use Rattle.std.proofs.lemmas.List.{get_or_default, map_push, take_more}
use Rattle.std.proofs.lemmas.List.Elements.{All-contains, All-take}
use Rattle.csp_model.specs.declared.policy.PolicyList.{PolicyList}
use Rattle.csp_order.specs.Pairs.{IsPair, pairs}
use Rattle.csp_order.specs.Relations.{AreReasons, HasProof, IsReason, Known, pair_of, proved, proved_by}
use Rattle.csp_order.specs.declared.pair.Pair.{Pair}
use Rattle.csp_order.specs.declared.relation.Because.{Because}
use Rattle.csp_order.specs.declared.relation.Relation.{Relation}
use Rattle.csp_order.proofs.PairsApart.{each_listed, others_before, pairs_apart}
use Rattle.csp_order.proofs.ReasonsGiven.{each_proved, proved_push, reasons_decide, reasons_have, reasons_push}
use Rattle.csp_order.proofs.ordering.order.Goals as goal

pub reason-requires-clause-pair : goal.reason-requires-clause-pair
reason-requires-clause-pair c =
    let items : List Pair = c.as_slice-pair-items.result.now in
    let count : ℕ = length c.args.lists.now in
    let items_are : items ≡ pairs count =
    c.as_slice-pair-items.ensures.value ∙ c.in_ok-all.ensures ∙ ap pairs c.len.ensures in
    let none : Pair = record { first = 0; second = 0 } in
    subst (λ (ls : List PolicyList). IsPair (length ls) (get_or items c.loop-pair.pair-index none))
    (sym c.loop-pair.invariant.lists)
    (subst (All (IsPair count)) (sym items_are) (each_listed count) c.loop-pair.pair-index none
    c.loop-pair-test.true)

pub reason-requires-clause-fresh : goal.reason-requires-clause-fresh
reason-requires-clause-fresh c found =
    let items : List Pair = c.as_slice-pair-items.result.now in
    let count : ℕ = length c.args.lists.now in
    let place : ℕ = c.loop-pair.pair-index in
    let items_are : items ≡ pairs count =
    c.as_slice-pair-items.ensures.value ∙ c.in_ok-all.ensures ∙ ap pairs c.len.ensures in
    let none : Pair = record { first = 0; second = 0 } in
    let p : Pair = get_or items place none in
    let apart : AllPairs (λ (a b : Pair). a ≢ b) items =
    subst (AllPairs (λ (a b : Pair). a ≢ b)) (sym items_are) (pairs_apart count) in
    let before : All (λ (q : Pair). q ≢ p) (take place items) =
    others_before items p place apart c.loop-pair-test.true
    (get_or_default items place none p c.loop-pair-test.true) in
    let others : All (λ (q : Pair). q ≢ p) (map pair_of c.loop-pair.relations) =
    subst (All (λ (q : Pair). q ≢ p)) (sym c.loop-pair.invariant.pairs)
    (subst (λ (ps : List Pair). All (λ (q : Pair). q ≢ p) (take place ps)) items_are before) in
    All-contains (λ (q : Pair). q ≢ p) c.loop-pair.known.proved p
    (subst (All (λ (q : Pair). q ≢ p)) (sym c.loop-pair.invariant.proved)
    (each_proved (λ (q : Pair). q ≢ p) c.loop-pair.relations others)) found refl

pub reason-requires-clause-proofs : goal.reason-requires-clause-proofs
reason-requires-clause-proofs c =
    let lists : List PolicyList = c.args.lists.now in
    let relations : List Relation = c.loop-pair.relations in
    let each : All (IsPair (length lists)) (map pair_of relations) =
    subst (All (IsPair (length lists))) (sym c.loop-pair.invariant.pairs)
    (All-take (IsPair (length lists)) c.loop-pair.pair-index (pairs (length lists)) (each_listed (length lists))) in
    subst (λ (ls : List PolicyList). All (HasProof ls) c.as_slice-in-loop-pair.result.now) (sym c.loop-pair.invariant.lists)
    (subst (All (HasProof lists)) (sym c.as_slice-in-loop-pair.ensures)
    (reasons_have lists [] relations each c.loop-pair.invariant.reasons))

pub loop-pair-preserved : goal.loop-pair-preserved
loop-pair-preserved c =
    let lists : List PolicyList = c.args.lists.now in
    let items : List Pair = c.as_slice-pair-items.result.now in
    let count : ℕ = length lists in
    let place : ℕ = c.loop-pair.pair-index in
    let old : List Relation = c.loop-pair.relations in
    let items_are : items ≡ pairs count =
    c.as_slice-pair-items.ensures.value ∙ c.in_ok-all.ensures ∙ ap pairs c.len.ensures in
    let none : Pair = record { first = 0; second = 0 } in
    let p : Pair = get_or items place none in
    let because : Because = c.in_ok-because.because in
    let r : Relation = record { first = p.first; second = p.second; because = because } in
    let pushed : c.push.new.self ≡ old ++ r ∷ [] = c.in_ok-push.ensures.ok in
    let next : take (place + 1) (pairs count) ≡ take place (pairs count) ++ p ∷ [] =
    subst (λ (ps : List Pair). take (place + 1) ps ≡ take place ps ++ p ∷ []) items_are
    (take_more items place none c.loop-pair-test.true) in
    let reason : IsReason lists (proved old) p because =
    subst (λ (ps : List Pair). IsReason lists ps p because) c.loop-pair.invariant.proved
    (subst (λ (ls : List PolicyList). IsReason ls c.loop-pair.known.proved p because)
    c.loop-pair.invariant.lists c.in_ok-because.ensures.reason) in
    record {
      lists = ap (λ (k : Known). k.lists) c.in_ok-because.ensures.known ∙ c.loop-pair.invariant.lists;
      proved = ap (λ (k : Known). k.proved) c.in_ok-because.ensures.known
          ∙ ap (λ (ps : List Pair). ps ++ proved_by p because) c.loop-pair.invariant.proved
          ∙ sym (ap proved pushed ∙ proved_push old r);
      pairs = ap (map pair_of) pushed ∙ map_push pair_of old r
          ∙ ap (λ (ps : List Pair). ps ++ p ∷ []) c.loop-pair.invariant.pairs ∙ sym next;
      reasons = subst (AreReasons lists []) (sym pushed)
          (reasons_push lists [] old r c.loop-pair.invariant.reasons reason);
    }

pub returns-clause-inclusion : goal.returns-clause-inclusion
returns-clause-inclusion c =
    reasons_decide c.args.lists.now [] c.loop-pair.relations c.loop-pair.invariant.reasons
