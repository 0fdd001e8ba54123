use Rattle.std.proofs.Common.{arith, ◌∙◌, sym, ap, length, ◌≤◌, ◌<◌}
use Rattle.csp_checker.specs.PreparedClaim.{lists_of, trees_of, due}
use Rattle.csp_checker.proofs.Judged.{tree_here, kept_more, as_many_pairs}
use Rattle.csp_checker.proofs.Whole.{stops, goes_on, pairs_left}
use Rattle.csp_checker.proofs.trees.first_bad_line.Goals as goal

pub returns-in-Some-clause-bad : goal.returns-in-Some-clause-bad
returns-in-Some-clause-bad c =
    let asked = c.args.asked.now in
    let n = c.loop-number.number in
    let tree = c.index-trees-number.result in
    let there = tree_here asked c.as_slice-trees.result.now n tree c.as_slice-trees.ensures c.loop-number-test.true c.index-trees-number.is in
    sym (stops (lists_of asked) (trees_of asked) asked.proof.now.last_line (due asked.second.now) (trees_of asked) n tree c.in-Some.line there (sym c.in-Some.ensures.bad))
    ∙ c.loop-number.invariant.same

pub loop-number-preserved : goal.loop-number-preserved
loop-number-preserved c =
    let asked = c.args.asked.now in
    let n = c.loop-number.number in
    let tree = c.index-trees-number.result in
    let there = tree_here asked c.as_slice-trees.result.now n tree c.as_slice-trees.ensures c.loop-number-test.true c.index-trees-number.is in
    let good = sym c.in_default.ensures.bad in
    record {
      fit = c.bad_line.ensures.fit;
      kept = kept_more asked n tree c.loop-number.invariant.kept there good;
      same = goes_on (lists_of asked) (trees_of asked) asked.proof.now.last_line (due asked.second.now) (trees_of asked) n tree there good ∙ c.loop-number.invariant.same;
    }

pub returns-then-trees-len-clause-bad : goal.returns-then-trees-len-clause-bad
returns-then-trees-len-clause-bad c =
    let asked = c.args.asked.now in
    let n = c.loop-number.number in
    let long = ap length c.as_slice-trees.ensures in
    let past : length (trees_of asked) ≤ n = omega arith in
    let inside : n < length (due asked.second.now) = omega (arith, as_many_pairs asked c.requires.asked, asked.pairs.ok.0, c.len.ensures, c.if-trees-len.true) in
    sym (pairs_left (lists_of asked) (trees_of asked) asked.proof.now.last_line (due asked.second.now) (trees_of asked) n past inside)
    ∙ c.loop-number.invariant.same
