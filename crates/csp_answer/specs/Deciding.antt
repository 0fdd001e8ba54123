-- What is decided of an answer by a look at some of it.
use Rattle.std.specs.Prelude.{◌≡◌, ℕ, Bool, false, List, [], ◌∷◌, Option, Some, None, slice_get}
use Rattle.std.specs.List.{Contains}
use Rattle.csp_facts.specs.declared.atom.Atom.{Atom}
use Rattle.csp_branch.specs.Paths.{Path}
use Rattle.csp_formula.specs.Sentences.{Sentence, Known}
use Rattle.csp_formula.specs.Surely.{maybe_or, surely}
use Rattle.csp_answer.specs.Answers.{conjunction_in, disjunction_in, rule_in}
use Rattle.csp_answer.specs.declared.answer.ShapeAnswer.{ShapeAnswer}
use Rattle.csp_answer.specs.declared.answer.Integrity.{Integrity}
use Rattle.csp_answer.specs.declared.conjunction.Conjunction.{Conjunction}
use Rattle.csp_answer.specs.declared.deciding.Ground.{Ground}
use Rattle.csp_answer.specs.declared.deciding.Ground.TheVariants as ground

-- what the literals decide of a conjunction, and of the disjunction of some
abbrev pub said_of : Path → Conjunction → Option Bool
said_of path c = surely path.literals (conjunction_in path.atoms c)

abbrev pub said_of_some : Path → List Conjunction → Option Bool
said_of_some path conjunctions = surely path.literals (disjunction_in path.atoms conjunctions)

-- of the disjunction of the two as much is decided as of the other alone
abbrev pub AddsNothing : Option Bool → Option Bool → Type 0
AddsNothing one other = maybe_or one other ≡ other

-- this was found by a look at the conjunctions that these names lead: no more than is decided of the whole
-- disjunction, and no less than of each that was looked at
pub record Finds (path : Path) (conjunctions : List Conjunction) (looked : ℕ → Type 0) (found : Option Bool)
    : Type 0 where
  pub sound : AddsNothing found (said_of_some path conjunctions)
  pub each : (c : Conjunction) (name : ℕ) → Contains conjunctions c → c.lead ≡ Some name → looked name
      → AddsNothing (said_of path c) found

-- the conjunction, where there is one
abbrev pub listed_in : List Atom → Option Conjunction → Sentence
listed_in atoms None = Known false
listed_in atoms (Some c) = conjunction_in atoms c

-- the rule, where this is its only own pair
abbrev pub pair_in : List Atom → Integrity → Option ℕ → Sentence
pair_in atoms i None = Known false
pair_in atoms i (Some name) = rule_in atoms i (name ∷ [])

abbrev pub own_pair_in : List Atom → Option Integrity → ℕ → Sentence
own_pair_in atoms None place = Known false
own_pair_in atoms (Some i) place = pair_in atoms i (slice_get i.own.items place)

-- this much of an answer; it is false where the answer doesn't have it
abbrev pub ground_in : List Atom → ShapeAnswer → Ground → Sentence
ground_in atoms answer (ground.Conjunction place) =
    listed_in atoms (slice_get answer.conjunctions.items place)
ground_in atoms answer (ground.Pair place) = own_pair_in atoms answer.integrity place
