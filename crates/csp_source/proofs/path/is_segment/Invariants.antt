use Rattle.std.proofs.Common.{◌≡◌, drop}
use Rattle.csp_model.specs.Grammar.{is_segment}
use Rattle.csp_source.proofs.path.is_segment.Given as goal

abbrev pub invariant-loop-i : goal.invariant-loop-i
invariant-loop-i l = is_segment (drop l.i l.text) ≡ is_segment l.text
