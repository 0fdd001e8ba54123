use Rattle.std.proofs.Common.{arith, ◌≡◌, ◌∙◌, subst, ℕ, length}
use Rattle.std.proofs.lemmas.List.{length-map}
use Rattle.csp_compare.specs.Drafts.{Shows, at_shape}
use Rattle.csp_compare.specs.Comparisons.{lists_of, IsStep}
use Rattle.csp_compare.proofs.Ending.{pairs_of, room_left, shows_more, printed}
use Rattle.csp_compare.proofs.EnforcedPolicies.{few_policies}
use Rattle.csp_compare.proofs.comparison.Comparison.answer.Goals as goal

pub show_shape-requires-clause-room : goal.show_shape-requires-clause-room
show_shape-requires-clause-room c =
    room_left (length c.loop-number.draft) (length c.args.self.now.policies.items) c.loop-number.number c.loop-number.invariant.3 c.loop-number-test.true (few_policies c.args.self.now c.requires)

pub loop-number-preserved : goal.loop-number-preserved
loop-number-preserved c =
    let on = c.args.self.now in
    let policies = on.policies.items in
    let kind = c.in-Some-shape_at.shape in
    let step = subst (IsStep on kind c.loop-number.draft c.show_shape.new.draft c.show_shape.new.known) c.in_default-2.is c.in_ok-check-2.ensures.step in
    let shape = c.in-Some-shape_at.ensures in
    let count = step.0.count in
    let added = length-map policies (at_shape kind) in
    let before = c.loop-number.invariant.3 in (
      c.in_ok-check-2.ensures.walker ∙ c.loop-number.invariant.0,
      shows_more (lists_of on) policies kind c.loop-number.number c.loop-number.draft c.show_shape.new.draft shape.0 shape.1 c.loop-number-test.true c.loop-number.invariant.1 step.0,
      step.1,
      omega arith,
    )

pub returns : goal.returns
returns c =
    let on = c.args.self.now in
    let last : c.loop-number.number ≡ 189 = omega arith in
    let shows = subst (λ (n : ℕ). Shows (lists_of on) (pairs_of on.policies.items n) c.loop-number.draft) last c.loop-number.invariant.1 in
    let made = c.into_proof-proof.ensures in
    let is = printed (lists_of on) on.policies.items c.loop-number.draft c.into_proof-proof.result c.requires.policies shows made.format made.trees made.last_line made.shares in
    (is, c.what_is_accepted_is_so.ensures on.lists.first.now on.lists.second.now c.into_proof-proof.result c.requires.lists.first c.requires.lists.second is.accepted)
