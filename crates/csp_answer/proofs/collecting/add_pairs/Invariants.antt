use Rattle.std.proofs.Common.{◌≡◌, ◌++◌, drop, map}
use Rattle.csp_model.specs.declared.source.Hash.{Hash}
use Rattle.csp_facts.specs.declared.atom.Atom.TheVariants.{IntegrityHas}
use Rattle.csp_answer.specs.Naming.{pair_atoms}
use Rattle.csp_answer.proofs.collecting.add_pairs.Given as goal

abbrev pub invariant-loop-hash : goal.invariant-loop-hash
invariant-loop-hash l = l.atoms ++ map (λ (h : Hash). IntegrityHas h) (drop l.hash-index l.hashes) ≡ l.fn.atoms ++ pair_atoms l.hashes
