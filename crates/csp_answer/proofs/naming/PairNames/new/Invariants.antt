use Rattle.std.proofs.Common.{◌≡◌, Some, map, take}
use Rattle.std.specs.Prelude.{slice_get}
use Rattle.csp_model.specs.declared.source.Hash.{Hash}
use Rattle.csp_facts.specs.declared.atom.Atom.TheVariants.{IntegrityHas}
use Rattle.csp_answer.proofs.naming.PairNames.new.Given as goal

abbrev pub invariant-loop-hash : goal.invariant-loop-hash
invariant-loop-hash l = map (slice_get l.names) l.pairs.items ≡ map (λ (h : Hash). Some (IntegrityHas h)) (take l.hash-index l.hashes)
