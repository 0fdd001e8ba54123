-- Sentences over atoms.
use Rattle.std.specs.Prelude.{Bool, true, false, List, [], ◌∷◌}
use Rattle.csp_facts.specs.declared.atom.Atom.{Atom}

pub data Sentence : Type 0 where
  Known : Bool → Sentence
  Fact : Atom → Sentence
  Not : Sentence → Sentence
  Both : Sentence → Sentence → Sentence
  Either : Sentence → Sentence → Sentence

abbrev pub all_of : List Sentence → Sentence
all_of [] = Known true
all_of (x ∷ xs) = Both x (all_of xs)

abbrev pub any_of : List Sentence → Sentence
any_of [] = Known false
any_of (x ∷ xs) = Either x (any_of xs)
