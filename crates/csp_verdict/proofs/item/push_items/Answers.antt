use Rattle.std.proofs.Common.{◌≡◌, ◌+◌, ◌++◌, ◌||◌, not, Bool, true, false, List, [], ◌∷◌, Some, None, sym, ap, ◌∙◌, append-nil, map, arith}
use Rattle.std.proofs.lemmas.Bool.{false≢true}
use Rattle.std.proofs.lemmas.List.{drop_all, length-map}
use Rattle.std.specs.List.{list_any}
use Rattle.csp_model.specs.Verdict.{item_of, items_from, items_of, is_enforced, list_allows}
use Rattle.csp_model.proofs.VerdictLaws.{items_any}
use Rattle.csp_model.specs.declared.policy.Policy.{Policy}
use Rattle.csp_model.specs.declared.verdict.Item.{Item}
use Rattle.csp_verdict.specs.Listed.{list_of}
use Rattle.csp_verdict.proofs.ItemsSoFar.{shown, shown_is, items_at, shown_nothing, or_true, or_false, next_seen, more_items, last_item, blocks, more_blocked}
use Rattle.csp_verdict.proofs.item.push_items.Goals as goal
use Rattle.csp_verdict.proofs.item.push_items.Goals.{then-is_enforced+else-stops, else-is_enforced}

pub loop-number-init : goal.loop-number-init
loop-number-init g c =
    let asked = c.args.check.now in
    let ps = map g.P.Judge.seen c.args.policies.now in
    record {
      items = ap (λ (xs : List Item). c.args.items.now ++ xs)
          (ap (λ (b : Bool). shown b (items_at 0 ps asked)) c.is_base-stops.ensures ∙ shown_is asked (items_from 0 ps asked));
      blocked = items_any 0 ps asked;
    }

pub loop-number-preserved-in_default : goal.loop-number-preserved-in_default
loop-number-preserved-in_default g c =
    let n = c.loop-number.number in
    let ps = map g.P.Judge.seen c.args.policies.now in
    let asked = c.args.check.now in
    let none : item_of n (g.P.Judge.seen c.index-policies-number.result) asked ≡ None = sym c.item_of.ensures ∙ c.in_default.is in
    let same : items_at n ps asked ≡ items_at (n + 1) ps asked =
    next_seen g.P.Judge.seen n c.args.policies.now c.index-policies-number.result asked None c.loop-number-test.true c.index-policies-number.is none in
    record {
      items = ap (λ (xs : List Item). c.loop-number.items ++ shown c.is_base-stops.result xs) (sym same)
          ∙ c.loop-number.invariant.items;
      blocked = ap (λ (xs : List Item). c.loop-number.blocked || list_any is_enforced xs) (sym same)
          ∙ c.loop-number.invariant.blocked;
    }

pub returns-then-stops-clause-items : goal.returns-then-stops-clause-items
returns-then-stops-clause-items g c =
    let n = c.loop-number.number in
    let ps = map g.P.Judge.seen c.args.policies.now in
    let asked = c.args.check.now in
    let item = c.in-Some.item in
    let later = items_at (n + 1) ps asked in
    let all = c.args.items.now ++ items_of (list_of ps) asked in
    let some : item_of n (g.P.Judge.seen c.index-policies-number.result) asked ≡ Some item = sym c.item_of.ensures ∙ c.in-Some.is in
    let more : items_at n ps asked ≡ item ∷ later =
    next_seen g.P.Judge.seen n c.args.policies.now c.index-policies-number.result asked (Some item) c.loop-number-test.true c.index-policies-number.is some in
    let so_far : c.loop-number.items ++ shown true (item ∷ later) ≡ all =
    ap (λ (b : Bool). c.loop-number.items ++ shown b (item ∷ later)) (sym c.if-stops.true)
    ∙ ap (λ (xs : List Item). c.loop-number.items ++ shown c.is_base-stops.result xs) (sym more)
    ∙ c.loop-number.invariant.items in
    let pushed : c.push.new.self ≡ c.loop-number.items ++ item ∷ [] = c.in_ok-push.ensures.ok in
    pushed ∙ last_item c.loop-number.items later all item (sym c.is_enforced.ensures ∙ c.if-is_enforced.true) so_far

pub returns-then-stops-clause-blocked : goal.returns-then-stops-clause-blocked
returns-then-stops-clause-blocked g c =
    let n = c.loop-number.number in
    let ps = map g.P.Judge.seen c.args.policies.now in
    let asked = c.args.check.now in
    let item = c.in-Some.item in
    let later = items_at (n + 1) ps asked in
    let some : item_of n (g.P.Judge.seen c.index-policies-number.result) asked ≡ Some item = sym c.item_of.ensures ∙ c.in-Some.is in
    let more : items_at n ps asked ≡ item ∷ later =
    next_seen g.P.Judge.seen n c.args.policies.now c.index-policies-number.result asked (Some item) c.loop-number-test.true c.index-policies-number.is some in
    let so_far : (c.loop-number.blocked || list_any is_enforced (item ∷ later)) ≡ not (list_allows (list_of ps) asked) =
    ap (λ (xs : List Item). c.loop-number.blocked || list_any is_enforced xs) (sym more) ∙ c.loop-number.invariant.blocked in
    blocks c.loop-number.blocked item later _ (sym c.is_enforced.ensures ∙ c.if-is_enforced.true) so_far

pub loop-number-preserved : goal.loop-number-preserved
loop-number-preserved g c =
    let n = c.loop-number.number in
    let ps = map g.P.Judge.seen c.args.policies.now in
    let asked = c.args.check.now in
    let item = c.in-Some.item in
    let halts = c.is_base-stops.result in
    let later = items_at (n + 1) ps asked in
    let all = c.args.items.now ++ items_of (list_of ps) asked in
    let some : item_of n (g.P.Judge.seen c.index-policies-number.result) asked ≡ Some item = sym c.item_of.ensures ∙ c.in-Some.is in
    let more : items_at n ps asked ≡ item ∷ later =
    next_seen g.P.Judge.seen n c.args.policies.now c.index-policies-number.result asked (Some item) c.loop-number-test.true c.index-policies-number.is some in
    let pushed : c.push.new.self ≡ c.loop-number.items ++ item ∷ [] = c.in_ok-push.ensures.ok in
    let items : c.loop-number.items ++ shown halts (item ∷ later) ≡ all =
    ap (λ (xs : List Item). c.loop-number.items ++ shown halts xs) (sym more) ∙ c.loop-number.invariant.items in
    let blocked : (c.loop-number.blocked || list_any is_enforced (item ∷ later)) ≡ not (list_allows (list_of ps) asked) =
    ap (λ (xs : List Item). c.loop-number.blocked || list_any is_enforced xs) (sym more) ∙ c.loop-number.invariant.blocked in
    let free : halts ≡ true → is_enforced item ≡ false = elim c.if-is_enforced.branch [
      | then-is_enforced+else-stops w ↦ λ h. absurd (false≢true (sym w.if-stops.false ∙ h))
      | else-is_enforced w ↦ λ h. sym c.is_enforced.ensures ∙ w.if-is_enforced.false
    ] in
    let now : c.if-is_enforced.blocked ≡ (c.loop-number.blocked || is_enforced item) = elim c.if-is_enforced.branch [
      | then-is_enforced+else-stops w ↦
          w.blocked-is ∙ sym (or_true c.loop-number.blocked)
          ∙ ap (λ (b : Bool). c.loop-number.blocked || b) (sym w.if-is_enforced.true ∙ c.is_enforced.ensures)
      | else-is_enforced w ↦
          w.blocked-is ∙ sym (or_false c.loop-number.blocked)
          ∙ ap (λ (b : Bool). c.loop-number.blocked || b) (sym w.if-is_enforced.false ∙ c.is_enforced.ensures)
    ] in
    record {
      items = ap (λ (xs : List Item). xs ++ shown halts later) pushed ∙ more_items halts c.loop-number.items later all item free items;
      blocked = more_blocked c.loop-number.blocked c.if-is_enforced.blocked item later (not (list_allows (list_of ps) asked)) now blocked;
    }

pub returns-clause-items : goal.returns-clause-items
returns-clause-items g c =
    let ps = map g.P.Judge.seen c.args.policies.now in
    let none : items_at c.loop-number.number ps c.args.check.now ≡ [] =
    ap (λ (qs : List Policy). items_from c.loop-number.number qs c.args.check.now) (drop_all c.loop-number.number ps (omega (arith, length-map c.args.policies.now g.P.Judge.seen))) in
    sym (append-nil c.loop-number.items) ∙ ap (λ (xs : List Item). c.loop-number.items ++ xs) (sym (shown_nothing c.is_base-stops.result))
    ∙ ap (λ (xs : List Item). c.loop-number.items ++ shown c.is_base-stops.result xs) (sym none)
    ∙ c.loop-number.invariant.items

pub returns-clause-blocked : goal.returns-clause-blocked
returns-clause-blocked g c =
    let ps = map g.P.Judge.seen c.args.policies.now in
    let none : items_at c.loop-number.number ps c.args.check.now ≡ [] =
    ap (λ (qs : List Policy). items_from c.loop-number.number qs c.args.check.now) (drop_all c.loop-number.number ps (omega (arith, length-map c.args.policies.now g.P.Judge.seen))) in
    sym (or_false c.loop-number.blocked)
    ∙ ap (λ (xs : List Item). c.loop-number.blocked || list_any is_enforced xs) (sym none)
    ∙ c.loop-number.invariant.blocked
