use Rattle.std.proofs.Common.{arith, refl, ap, ◌<◌, length}
use Rattle.std.proofs.lemmas.Option.{slice_get_within}
use Rattle.csp_checker.specs.PreparedClaim.{trees_of}
use Rattle.csp_checker.proofs.Judged.{tree_here}
use Rattle.csp_checker.proofs.Walked.{walked_good}
use Rattle.csp_checker.proofs.before.was_walked.Goals as goal

pub bounds-trees-place : goal.bounds-trees-place
bounds-trees-place c =
    let asked = c.args.asked.now in
    let within = slice_get_within (trees_of asked) c.args.number c.args.tree.now c.requires.reached.there in
    let long = ap length c.as_slice-trees.ensures in
    omega arith

pub returns-then-asks_the_same : goal.returns-then-asks_the_same
returns-then-asks_the_same c = λ _.
    let asked = c.args.asked.now in
    let place = c.loop-place.place in
    let earlier = c.index-trees-place.result in
    let within = slice_get_within (trees_of asked) c.args.number c.args.tree.now c.requires.reached.there in
    let long = ap length c.as_slice-trees.ensures in
    let inside : place < length c.as_slice-trees.result.now = omega (arith, within, long, c.loop-place-test.true) in
    let there = tree_here asked c.as_slice-trees.result.now place earlier c.as_slice-trees.ensures inside c.index-trees-place.is in
    walked_good asked c.requires.asked c.args.for_any c.args.number c.args.tree.now c.requires.reached place earlier c.args.other c.loop-place-test.true there (c.if-shares.ensures refl) c.requires.any (c.if-asks_the_same.ensures.policy refl) (c.if-asks_the_same.ensures.kinds refl)
