-- Words of a law: what is answered for each pair of lists.
use Rattle.std.specs.Prelude.{List, map}
use Rattle.csp_order.specs.Relations.{pair_of}
use Rattle.csp_order.specs.declared.pair.Pair.{Pair}
use Rattle.csp_order.specs.declared.relation.Because.{Because}
use Rattle.csp_order.specs.declared.relation.Because.TheVariants as because
use Rattle.csp_order.specs.declared.relation.Relation.{Relation}

-- a proof shows it, a chain of earlier proofs does, or it isn't so
pub data Answer : Type 0 where
  ByProof : Answer
  ByChain : Answer
  No : Answer

abbrev pub answer_of : Because → Answer
answer_of (because.Proof proof) = ByProof
answer_of (because.Through lists) = ByChain
answer_of (because.Check asked) = No

-- each pair, with its answer
abbrev pub answers : List Relation → List (Pair × Answer)
answers relations = map (λ (r : Relation). (pair_of r, answer_of r.because)) relations
