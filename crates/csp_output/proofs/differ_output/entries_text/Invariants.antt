use Rattle.std.proofs.Common.{◌≡◌, All, take}
use Rattle.std.specs.List.{flat_map}
use Rattle.csp_output.specs.Differing.{IsReadBack, entry_text}
use Rattle.csp_output.proofs.differ_output.entries_text.Given as goal

abbrev pub invariant-loop-difference : goal.invariant-loop-difference
invariant-loop-difference l =
    (l.text.items ≡ flat_map (entry_text l.second) (take l.difference-index l.differences))
    × All IsReadBack (take l.difference-index l.differences)
