use Rattle.std.proofs.Common.{◌≡◌, map, take}
use Rattle.csp_answer.proofs.WordsNamed.{alone}
use Rattle.csp_answer.proofs.words.word_conjunctions.Given as goal

abbrev pub invariant-loop-name : goal.invariant-loop-name
invariant-loop-name l = l.conjunctions.items ≡ map alone (take l.name-index l.name-items)
