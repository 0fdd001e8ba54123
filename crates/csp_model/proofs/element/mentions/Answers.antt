use Rattle.std.proofs.Common.{rules, ◌≡◌, ℕ, List, length, take, refl, ap, sym, ◌∙◌, arith}
use Rattle.std.proofs.lemmas.Bool.{false≢true}
use Rattle.std.specs.Slice.Iter.{windows_rest}
use Rattle.csp_model.specs.Ascii.{lower}
use Rattle.csp_model.specs.DecideNonces.{has_word}
use Rattle.csp_model.proofs.Windows.{first_window_is, first_window_isn't, no_window_is}
use Rattle.csp_model.proofs.element.mentions.Goals as goal

pub returns-then-eq_ignore_ascii_case : goal.returns-then-eq_ignore_ascii_case
returns-then-eq_ignore_ascii_case c =
    let l = c.loop-window in
    let word = c.args.word.now in
    let rest = windows_rest l.window-iterator in
    let h = c.in-Some.ensures.steps in
    let window : c.in-Some.window.now ≡ take (length word) rest = h.1.1 ∙ ap (λ (n : ℕ). take n rest) l.invariant.0 in
    let same = c.if-eq_ignore_ascii_case.ensures.test.0 refl in
    sym (first_window_is word rest (ap lower (sym window) ∙ same)) ∙ l.invariant.2

pub loop-window-preserved : goal.loop-window-preserved
loop-window-preserved c =
    let l = c.loop-window in
    let word = c.args.word.now in
    let rest = windows_rest l.window-iterator in
    let h = c.in-Some.ensures.steps in
    let window : c.in-Some.window.now ≡ take (length word) rest = h.1.1 ∙ ap (λ (n : ℕ). take n rest) l.invariant.0 in
    let other = λ (e : lower (take (length word) rest) ≡ lower word).
    false≢true (c.if-eq_ignore_ascii_case.ensures.test.1 (ap lower window ∙ e)) in
    let left = ap (λ (t : List ℕ). has_word (lower word) (lower t)) h.1.2 ∙ first_window_isn't word rest other ∙ l.invariant.2 in
    search (rules, left)

pub returns : goal.returns
returns c =
    let l = c.loop-window in
    sym (no_window_is c.args.word.now (windows_rest l.window-iterator) (omega (arith, l.invariant.0, c.in-None.ensures.steps))) ∙ l.invariant.2
