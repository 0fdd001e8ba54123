-- What literals decide of an atom and of a sentence.
use Rattle.std.specs.Prelude.{Bool, true, false, not, List, Option, Some, None}
use Rattle.csp_facts.specs.Follows.{decided}
use Rattle.csp_facts.specs.declared.atom.Literal.{Literal}
use Rattle.csp_formula.specs.Sentences.{Sentence, Known, Fact, Not, Both, Either}

abbrev pub maybe_not : Option Bool → Option Bool
maybe_not (Some b) = Some (not b)
maybe_not None = None

abbrev pub maybe_and : Option Bool → Option Bool → Option Bool
maybe_and (Some false) y = Some false
maybe_and (Some true) y = y
maybe_and None (Some false) = Some false
maybe_and None (Some true) = None
maybe_and None None = None

abbrev pub maybe_or : Option Bool → Option Bool → Option Bool
maybe_or (Some true) y = Some true
maybe_or (Some false) y = y
maybe_or None (Some true) = Some true
maybe_or None (Some false) = None
maybe_or None None = None

abbrev pub surely : List Literal → Sentence → Option Bool
surely ls (Known b) = Some b
surely ls (Fact a) = decided ls a
surely ls (Not x) = maybe_not (surely ls x)
surely ls (Both x y) = maybe_and (surely ls x) (surely ls y)
surely ls (Either x y) = maybe_or (surely ls x) (surely ls y)
