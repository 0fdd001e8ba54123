-- A policy that surely allows nothing is one of the list, and ends a branch.
use Rattle.std.proofs.Common.{◌≡◌, ℕ, ◌≤◌, true, false, ap, sym, List, length, inl, inr, arith, ◌∙◌}
use Rattle.std.specs.Prelude.{Option}
use Rattle.std.proofs.lemmas.Bool.{cases_lt}
use Rattle.std.proofs.lemmas.Option.{slice_get_past}
use Rattle.csp_model.specs.Policies.{policy_limit}
use Rattle.csp_model.specs.declared.policy.Policy.{Policy}
use Rattle.csp_facts.specs.declared.atom.Literal.{Literal}
use Rattle.csp_proof.specs.Accepts.{Lists, blocks, hashes_in, policy_is}
use Rattle.csp_proof.specs.Pairs.{Pair}
use Rattle.csp_proof.specs.declared.proof.Node.TheVariants.{Blocked}
use Rattle.csp_search.specs.Leaves.{IsLeaf}

pub blocked_leaf : (lists : Lists) (pair : Pair) (literals : List Literal) (policy : ℕ) → length lists.first.policies ≤ policy_limit
    → blocks lists pair literals policy ≡ true → IsLeaf lists pair literals (Blocked policy)
blocked_leaf lists pair literals policy few blocked = elim (cases_lt policy (length lists.first.policies)) [
  | inl within ↦ record { closed = blocked; valid = omega arith }
  | inr past ↦
      let none : false ≡ true =
      sym (ap (λ (p : Option Policy). policy_is false (hashes_in lists) pair.shape literals p) (slice_get_past lists.first.policies policy past)) ∙ blocked in
      cc
]
