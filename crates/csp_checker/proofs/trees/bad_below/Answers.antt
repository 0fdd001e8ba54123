use Rattle.std.proofs.Common.{arith}
use Rattle.csp_checker.specs.PreparedClaim.{lists_of, trees_of}
use Rattle.csp_checker.proofs.Judged.{tree_stands, takes_nodes, pre_for, own_bad, own_good, nodes_within, shares_within}
use Rattle.csp_checker.proofs.trees.bad_below.Goals as goal

pub first_bad-requires-clause-shape : goal.first_bad-requires-clause-shape
first_bad-requires-clause-shape c =
    let reached = c.requires.reached in
    (tree_stands c.args.asked.now c.requires.asked c.args.number c.args.tree.now reached.there).shape

pub first_bad-requires-clause-takes : goal.first_bad-requires-clause-takes
first_bad-requires-clause-takes c =
    let reached = c.requires.reached in
    rw c.as_slice.ensures (takes_nodes c.args.asked.now c.args.walker.now c.requires.fit c.args.number c.args.tree.now c.in-Nodes.nodes reached.there c.in-Nodes.is)

pub overflow_add-result : goal.overflow_add-result
overflow_add-result c =
    let reached = c.requires.reached in
    let fit = nodes_within c.args.asked.now c.requires.asked c.args.number c.args.tree.now c.in-Nodes.nodes reached.there c.in-Nodes.is in
    omega arith

pub overflow_add-result-in-Some : goal.overflow_add-result-in-Some
overflow_add-result-in-Some c =
    let reached = c.requires.reached in
    let fit = nodes_within c.args.asked.now c.requires.asked c.args.number c.args.tree.now c.in-Nodes.nodes reached.there c.in-Nodes.is in
    let within = rw c.as_slice.ensures at c.in-Some.ensures.within in
    omega arith

pub overflow_add-result-else-shares_good_nodes : goal.overflow_add-result-else-shares_good_nodes
overflow_add-result-else-shares_good_nodes c =
    let reached = c.requires.reached in
    let fit = shares_within c.args.asked.now c.requires.asked c.args.number c.args.tree.now reached.there in
    omega arith

pub returns-in-Some-clause-bad : goal.returns-in-Some-clause-bad
returns-in-Some-clause-bad c = λ pair for.
    let asked = c.args.asked.now in
    let reached = c.requires.reached in
    let pre = pre_for asked c.requires.asked c.args.number c.args.tree.now c.in-Nodes.nodes reached.there c.in-Nodes.is in
    let bad = rw c.as_slice.ensures at c.in-Some.ensures.bad in
    own_bad (lists_of asked) (trees_of asked) pair c.args.tree.now c.in-Nodes.nodes c.in-Some.place c.in-Nodes.is (bad pair for pre)

pub returns-in-None-clause-bad : goal.returns-in-None-clause-bad
returns-in-None-clause-bad c = λ pair for.
    let asked = c.args.asked.now in
    let reached = c.requires.reached in
    let pre = pre_for asked c.requires.asked c.args.number c.args.tree.now c.in-Nodes.nodes reached.there c.in-Nodes.is in
    let bad = rw c.as_slice.ensures at c.in-None.ensures.bad in
    own_good (lists_of asked) (trees_of asked) pair c.args.tree.now c.in-Nodes.nodes c.in-Nodes.is (bad pair for pre)
