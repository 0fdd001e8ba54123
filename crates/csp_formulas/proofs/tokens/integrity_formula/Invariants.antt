use Rattle.std.proofs.Common.{◌≡◌, ◌++◌, ◌∷◌, drop, map}
use Rattle.csp_facts.specs.declared.atom.Atom.TheVariants.{IntegrityOutside}
use Rattle.csp_formula.specs.Sentences.{Not, Fact}
use Rattle.csp_formulas.specs.Formulas.{sentence_of}
use Rattle.csp_formula.specs.Compiled.{has_pair, other_hashes}
use Rattle.csp_formulas.proofs.tokens.integrity_formula.Given as goal

abbrev pub invariant-loop-hash : goal.invariant-loop-hash
invariant-loop-hash l =
    map sentence_of l.parts.items ++ map (λ h. Not (has_pair h)) (other_hashes (drop l.hash-index l.hashes) l.sources)
    ≡ Not (Fact IntegrityOutside) ∷ map (λ h. Not (has_pair h)) (other_hashes l.hashes l.sources)
