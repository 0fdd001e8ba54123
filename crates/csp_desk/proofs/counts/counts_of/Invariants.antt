-- The counts so far.
use Rattle.std.proofs.Common.{◌≡◌, take}
use Rattle.csp_desk.specs.Texts.{counts_of}
use Rattle.csp_desk.proofs.counts.counts_of.Given as goal

abbrev pub invariant-loop-violation : goal.invariant-loop-violation
invariant-loop-violation l = l.counts ≡ counts_of (take l.violation-index l.held)
