-- The lines of the names so far.
use Rattle.std.proofs.Common.{◌≡◌, take}
use Rattle.std.specs.List.{flat_map}
use Rattle.csp_desk.specs.Texts.{line_at}
use Rattle.csp_desk.proofs.counts.lines_of.Given as goal

abbrev pub invariant-loop-name : goal.invariant-loop-name
invariant-loop-name l = l.text.items ≡ flat_map (line_at l.counts) (take l.name-index l.names)
