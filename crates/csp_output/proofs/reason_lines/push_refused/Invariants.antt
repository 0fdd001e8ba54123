use Rattle.std.proofs.Common.{◌≡◌, ◌++◌, ◌||◌, drop}
use Rattle.csp_model.specs.Ascii.{is_nonempty}
use Rattle.csp_output.specs.Explanations.{checks_text, refused_checks}
use Rattle.csp_output.proofs.reason_lines.push_refused.Given as goal

-- what is written, and what is still to be written
abbrev pub invariant-loop-check : goal.invariant-loop-check
invariant-loop-check l = record {
  text :
      l.text.items ++ checks_text l.list.policies (refused_checks l.list (drop l.check-index l.checks))
      ≡ l.fn.text.items ++ checks_text l.list.policies (refused_checks l.list l.checks);
  found :
      (l.found || is_nonempty (refused_checks l.list (drop l.check-index l.checks)))
      ≡ is_nonempty (refused_checks l.list l.checks);
}
