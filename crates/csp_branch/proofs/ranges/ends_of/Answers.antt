use Rattle.std.proofs.Common.{arith, subst, ◌≡◌, ℕ, ◌+◌, ◌-◌}
use Rattle.csp_branch.specs.Numbers.{AreEndsFrom}
use Rattle.csp_branch.proofs.Ending.{ends_more}
use Rattle.csp_branch.proofs.ranges.ends_of.Goals as goal

pub loop-number-preserved : goal.loop-number-preserved
loop-number-preserved c =
    let most = c.loop-number.auto.number in
    let some = c.loop-number-test.true in
    let here : c.loop-number.number ≡ c.loop-number.number - 1 + 1 = omega arith in
    ends_more c.args.atoms.now c.loop-number.ends.items (c.loop-number.number - 1) c.end_of-end.result (omega arith)
    (subst (λ (n : ℕ). AreEndsFrom c.args.atoms.now c.loop-number.ends.items n) here c.loop-number.invariant) c.end_of-end.ensures
