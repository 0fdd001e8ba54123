use Rattle.std.proofs.Common.{◌≡◌, ◌<◌, length}
use Rattle.std.specs.Slice.Iter.{windows_rest, windows_size}
use Rattle.csp_model.specs.Ascii.{lower}
use Rattle.csp_model.specs.DecideNonces.{has_word}
use Rattle.csp_model.proofs.element.mentions.Given as goal

-- what is left has the word in it where the text has
abbrev pub invariant-loop-window : goal.invariant-loop-window
invariant-loop-window l =
    (windows_size l.window-iterator ≡ length l.word) × (0 < windows_size l.window-iterator)
    × (has_word (lower l.word) (lower (windows_rest l.window-iterator)) ≡ has_word (lower l.word) (lower l.text))
    × (goal.iterator-loop-window).can_next l.window-iterator
    × (goal.iterator-loop-window).is_finite l.window-iterator
