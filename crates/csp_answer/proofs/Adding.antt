-- What adds nothing to what is decided of a disjunction: an order of the three values, of which a disjunction takes the greatest.
use Rattle.std.proofs.Common.{◌≡◌, ◌∙◌, refl, sym, Bool, true, false, Option, Some, None}
use Rattle.csp_formula.specs.Surely.{maybe_or}
use Rattle.csp_answer.specs.Deciding.{AddsNothing}

pub or_false : (x : Option Bool) → maybe_or x (Some false) ≡ x
or_false (Some true) = refl
or_false (Some false) = refl
or_false None = refl

pub or_swapped : (x y : Option Bool) → maybe_or x y ≡ maybe_or y x
or_swapped (Some true) (Some true) = refl
or_swapped (Some true) (Some false) = refl
or_swapped (Some true) None = refl
or_swapped (Some false) (Some true) = refl
or_swapped (Some false) (Some false) = refl
or_swapped (Some false) None = refl
or_swapped None (Some true) = refl
or_swapped None (Some false) = refl
or_swapped None None = refl

pub adds_itself : (x : Option Bool) → AddsNothing x x
adds_itself (Some true) = refl
adds_itself (Some false) = refl
adds_itself None = refl

-- nothing adds to what is true
pub adds_to_true : (x : Option Bool) → AddsNothing x (Some true)
adds_to_true (Some true) = refl
adds_to_true (Some false) = refl
adds_to_true None = refl

pub adds_first : (x y z : Option Bool) → AddsNothing x y → AddsNothing x (maybe_or y z)
adds_first (Some false) y z e = refl
adds_first (Some true) y z e = rw (← e) refl
adds_first None (Some true) z e = refl
adds_first None (Some false) z e = cc
adds_first None None (Some true) e = refl
adds_first None None (Some false) e = refl
adds_first None None None e = refl

pub adds_last : (x y z : Option Bool) → AddsNothing x z → AddsNothing x (maybe_or y z)
adds_last x y z e = rw (or_swapped y z) (adds_first x z y e)

-- two that add nothing to a third don't together
pub adds_both : (x y z : Option Bool) → AddsNothing x z → AddsNothing y z → AddsNothing (maybe_or x y) z
adds_both (Some true) y z e f = e
adds_both (Some false) y z e f = f
adds_both None (Some true) z e f = f
adds_both None (Some false) z e f = e
adds_both None None z e f = e

-- two that add nothing to each other are one
pub adds_neither : (x y : Option Bool) → AddsNothing x y → AddsNothing y x → x ≡ y
adds_neither x y e f = sym f ∙ or_swapped y x ∙ e
