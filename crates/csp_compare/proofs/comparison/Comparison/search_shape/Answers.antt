use Rattle.std.proofs.Common.{arith, ◌≡◌, ◌∙◌, sym, ap, subst, ℕ, ◌+◌, ◌<◌, ◌^◌, List, [], ◌∷◌, ◌++◌, length, get_or, take}
use Rattle.csp_compare.specs.Drafts.{IsAdded}
use Rattle.csp_compare.specs.Comparisons.{IsReady, lists_of}
use Rattle.csp_compare.proofs.Adding.{IsSoFar, so_far_all, so_far_room, so_far_added, so_far_more}
use Rattle.csp_compare.proofs.EnforcedPolicies.{small_number}
use Rattle.csp_compare.proofs.Posed.{enforces, differs}
use Rattle.csp_compare.proofs.comparison.Comparison.search_shape.Goals as goal

pub search-requires-clause-posed : goal.search-requires-clause-posed
search-requires-clause-posed c = record {
  lists = (subst (IsReady c.args.self.now) (sym c.loop-policy.invariant.0) c.requires.ready).lists;
  listed = c.requires.listed;
  enforced = enforces c.args.self.now c.args.walker.now c.requires.ready c.deref-policy-items.result.now c.deref-policy-items.ensures.value c.loop-policy.policy-index c.loop-policy-test.true;
}

room_for : (draft policies items : ℕ) → items ≡ policies → draft + policies < 2 ^ 32 → draft + items < 2 ^ 32
room_for draft policies items same room = omega (arith, same, room)

pub add-requires : goal.add-requires
add-requires c =
    let items = c.deref-policy-items.result.now in
    let room = room_for _ _ _ (ap length c.deref-policy-items.ensures.value) c.requires.room in
    so_far_room (lists_of c.args.self.now) c.args.shape c.args.draft.now c.loop-policy.draft items c.loop-policy.numbers.items c.loop-policy.policy-index c.loop-policy.invariant.1 c.loop-policy-test.true room

pub returns-in-Check-clause-outcome : goal.returns-in-Check-clause-outcome
returns-in-Check-clause-outcome c =
    let shows = rw c.in-Check.is at c.in_ok-nodes.ensures.found in
    let on = c.args.self.now in
    ((differs on c.args.walker.now c.requires.ready c.deref-policy-items.result.now c.deref-policy-items.ensures.value c.loop-policy.policy-index c.loop-policy-test.true c.args.shape c.in-Check.check shows).0, shows.shape)

pub loop-policy-preserved : goal.loop-policy-preserved
loop-policy-preserved c =
    let on = c.args.self.now in
    let i = c.loop-policy.policy-index in
    let all = c.deref-policy-items.result.now in
    let policy = get_or all i 0 in
    let so = c.loop-policy.invariant in
    let small = small_number on.lists.second.now all i c.requires.ready.lists.second (c.deref-policy-items.ensures.value ∙ c.requires.ready.policies) c.loop-policy-test.true in
    let room = so_far_room (lists_of on) c.args.shape c.args.draft.now c.loop-policy.draft all c.loop-policy.numbers.items i so.1 c.loop-policy-test.true (room_for _ _ _ (ap length c.deref-policy-items.ensures.value) c.requires.room) in
    let shows = rw c.in-Nodes.is at c.in_ok-nodes.ensures.found in
    let number = c.in_ok-add-in-Nodes.field-0 in
    let added = subst (λ (n : ℕ). IsAdded c.loop-policy.draft c.add.new.self n policy c.in-Nodes.nodes number) c.shape_number.ensures c.in_ok-add-in-Nodes.ensures in
    let more = so_far_added (lists_of on) c.args.shape c.args.draft.now c.loop-policy.draft c.add.new.self (take i all) c.loop-policy.numbers.items policy number c.in-Nodes.nodes so.1 small room shows added in (
      c.in_ok-nodes.ensures.walker ∙ so.0,
      so_far_more (lists_of on) c.args.shape c.args.draft.now c.add.new.self all c.push.new.self.items i c.loop-policy-test.true
          (subst (IsSoFar (lists_of on) c.args.shape c.args.draft.now c.add.new.self (take i all ++ policy ∷ [])) (sym c.in_ok-push-in-Nodes.ensures.items) more),
    )

pub returns-clause-outcome : goal.returns-clause-outcome
returns-clause-outcome c =
    let lists = lists_of c.args.self.now in
    let start = c.args.draft.now in
    let items = c.deref-policy-items.result.now in
    let so = so_far_all lists c.args.shape start c.loop-policy.draft items c.loop-policy.numbers.items c.loop-policy.policy-index (omega arith) c.loop-policy.invariant.1 in
    let all = subst (λ (ps : List ℕ). IsSoFar lists c.args.shape start c.loop-policy.draft ps c.loop-policy.numbers.items) c.deref-policy-items.ensures.value so in
    (all.adds, all.shown)
