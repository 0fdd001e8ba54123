-- The reports so far stand behind the text.
use Rattle.std.proofs.Common.{◌≡◌, ◌++◌, take}
use Rattle.std.specs.List.{flat_map}
use Rattle.csp_desk.specs.Texts.{report_line}
use Rattle.csp_desk.proofs.texts.append_latest.Given as goal

abbrev pub invariant-loop-place : goal.invariant-loop-place
invariant-loop-place l =
    l.text.items ≡ l.fn.text.items ++ flat_map report_line (take l.place l.latest.items)
