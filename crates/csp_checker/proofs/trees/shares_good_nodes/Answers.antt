use Rattle.std.proofs.Common.{refl, sym, ◌+◌}
use Rattle.csp_checker.specs.PreparedClaim.{lists_of, trees_of}
use Rattle.csp_checker.proofs.Judged.{tree_stands, stands_before, takes_nodes, pre_for, shares_good, shares_bad}
use Rattle.csp_checker.proofs.Walked.{owned_good}
use Rattle.csp_checker.proofs.trees.shares_good_nodes.Goals as goal

pub returns-then-asks_the_same-clause-good : goal.returns-then-asks_the_same-clause-good
returns-then-asks_the_same-clause-good c = λ pair for.
    let asked = c.args.asked.now in
    let tree = c.args.tree.now in
    let owner = c.in-Some.owner.now in
    let reached = c.requires.reached in
    let there = sym c.in-Some.ensures in
    shares_good (lists_of asked) (trees_of asked) pair (tree.line + 1) c.args.other owner c.in-Nodes.nodes there c.in-Nodes.is
    (owned_good asked c.requires.asked c.are_for_any-for_any.result c.args.number tree reached c.args.other owner c.in-Nodes.nodes
    (stands_before asked c.requires.asked c.args.number tree reached c.args.other c.requires.shared) there c.in-Nodes.is
    (λ any. c.are_for_any-for_any.ensures any) (c.if-asks_the_same.ensures.policy refl) (c.if-asks_the_same.ensures.kinds refl) pair for)

pub first_bad-requires-clause-shape : goal.first_bad-requires-clause-shape
first_bad-requires-clause-shape c =
    let reached = c.requires.reached in
    (tree_stands c.args.asked.now c.requires.asked c.args.number c.args.tree.now reached.there).shape

pub first_bad-requires-clause-takes : goal.first_bad-requires-clause-takes
first_bad-requires-clause-takes c =
    rw c.as_slice.ensures (takes_nodes c.args.asked.now c.args.walker.now c.requires.fit c.args.other c.in-Some.owner.now c.in-Nodes.nodes (sym c.in-Some.ensures) c.in-Nodes.is)

pub returns-in-Some-first_bad-clause-good : goal.returns-in-Some-first_bad-clause-good
returns-in-Some-first_bad-clause-good c = λ pair for.
    let asked = c.args.asked.now in
    let owner = c.in-Some.owner.now in
    let there = sym c.in-Some.ensures in
    let bad = rw c.as_slice.ensures at c.in-Some-first_bad.ensures.bad in
    let pre = pre_for asked c.requires.asked c.args.other owner c.in-Nodes.nodes there c.in-Nodes.is in
    shares_bad (lists_of asked) (trees_of asked) pair (c.args.tree.now.line + 1) c.args.other owner c.in-Nodes.nodes c.in-Some-first_bad.field-0 there c.in-Nodes.is (sym (bad pair for pre))

pub returns-in-None-clause-good : goal.returns-in-None-clause-good
returns-in-None-clause-good c = λ pair for.
    let asked = c.args.asked.now in
    let owner = c.in-Some.owner.now in
    let there = sym c.in-Some.ensures in
    let good = rw c.as_slice.ensures at c.in-None.ensures.bad in
    let pre = pre_for asked c.requires.asked c.args.other owner c.in-Nodes.nodes there c.in-Nodes.is in
    shares_good (lists_of asked) (trees_of asked) pair (c.args.tree.now.line + 1) c.args.other owner c.in-Nodes.nodes there c.in-Nodes.is (sym (good pair for pre))

pub returns-then-was_walked-clause-good : goal.returns-then-was_walked-clause-good
returns-then-was_walked-clause-good c = λ pair for.
    let asked = c.args.asked.now in
    let owner = c.in-Some.owner.now in
    let there = sym c.in-Some.ensures in
    shares_good (lists_of asked) (trees_of asked) pair (c.args.tree.now.line + 1) c.args.other owner c.in-Nodes.nodes there c.in-Nodes.is
    (c.if-was_walked.ensures refl owner c.in-Nodes.nodes there c.in-Nodes.is pair for)
