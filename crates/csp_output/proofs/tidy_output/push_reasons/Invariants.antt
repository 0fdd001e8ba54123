use Rattle.std.proofs.Common.{◌≡◌, ◌++◌, All, take}
use Rattle.std.specs.List.{flat_map}
use Rattle.csp_output.specs.Tidyings.{IsReadBack, reason_text}
use Rattle.csp_output.proofs.tidy_output.push_reasons.Given as goal

abbrev pub invariant-loop-entry : goal.invariant-loop-entry
invariant-loop-entry l = record {
  text : l.text.items ≡ l.fn.text.items ++ flat_map (reason_text l.list) (take l.entry-index l.needed);
  read_back : All IsReadBack (take l.entry-index l.needed);
}
