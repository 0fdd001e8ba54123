use Rattle.std.proofs.Common.{subst}
use Rattle.csp_tidy.specs.Asking.{IsAsked}
use Rattle.csp_tidy.proofs.InRounds.{thinner_more}
use Rattle.csp_tidy.proofs.rounds.thin.Goals as goal

pub loop-place-preserved-in-Some : goal.loop-place-preserved-in-Some
loop-place-preserved-in-Some c =
    let is = subst (IsAsked c.loop-place.current c.in-Some.place) c.in-Spare.is c.in_ok-thinner.ensures in
    (thinner_more c.args.list c.loop-place.current c.in-Spare.thinner c.in-Some.place c.loop-place.invariant (c.is_candidate.ensures c.if-is_candidate.true) is.0 is.1).0
