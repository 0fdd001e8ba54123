use Rattle.csp_facts.proofs.VocabularySoFar.{SoFar}
use Rattle.csp_facts.proofs.VocabularySources.{found}
use Rattle.csp_facts.proofs.vocabulary.vocabulary_of.Given as goal

-- of the hashes of the sources so far, each was seen, and the first of each was made
abbrev pub invariant-loop-source : goal.invariant-loop-source
invariant-loop-source l = SoFar l.seen l.hashes (found l.yielded)
