-- A literal covers what it makes true, and nothing else.
use Rattle.std.proofs.Common.{◌≡◌, ◌∙◌, Bool, true, false, Option, Some, None, refl, ap}
use Rattle.csp_facts.proofs.Own.{own}
use Rattle.csp_facts.specs.Follows.{follows}
use Rattle.csp_facts.specs.declared.atom.Literal.{Literal}
use Rattle.csp_cell.specs.Cells.{Covers, is_answer, implies}
use Rattle.csp_cell.proofs.Through.{through}

answer_is : (wanted : Bool) (answer : Option Bool) → is_answer wanted answer ≡ true → answer ≡ Some wanted
answer_is true (Some true) e = refl
answer_is true (Some false) e = cc
answer_is false (Some true) e = cc
answer_is false (Some false) e = refl
answer_is wanted None e = cc

is_itself : (wanted : Bool) → is_answer wanted (Some wanted) ≡ true
is_itself true = refl
is_itself false = refl

pub implied : (literal other : Literal) → implies literal other ≡ true → follows literal other.atom ≡ Some other.positive
implied literal other e = answer_is other.positive (follows literal other.atom) e

pub covers_implied : (literal other : Literal) → implies literal other ≡ true → Covers literal other
covers_implied literal other e atom value says = through literal other atom value (implied literal other e) says

pub implies_covered : (literal other : Literal) → Covers literal other → implies literal other ≡ true
implies_covered literal other covers =
    ap (is_answer other.positive) (covers other.atom other.positive (own other)) ∙ is_itself other.positive
