use Rattle.std.proofs.Common.{◌≡◌, drop}
use Rattle.csp_proof.specs.Accepts.{bad_from}
use Rattle.csp_checker.specs.PreparedClaim.{Fits, AreKept, bad_line, due, lists_of, trees_of}
use Rattle.csp_checker.proofs.trees.first_bad_line.Given as goal

abbrev pub invariant-loop-number : goal.invariant-loop-number
invariant-loop-number l = record {
  fit : Fits l.asked l.walker;
  kept : AreKept l.asked l.number;
  same : bad_from (lists_of l.asked) (trees_of l.asked) l.asked.proof.now.last_line (drop l.number (due l.asked.second.now)) (drop l.number (trees_of l.asked))
      ≡ bad_line l.asked;
}
