-- What a proof has to show: for each shape, and for each enforced policy of the second list, that the policy
-- allows the checks of the shape that the first list allows.
use Rattle.std.specs.Prelude.{ℕ, List, map}
use Rattle.std.specs.List.{flat_map}
pub use Rattle.csp_model.specs.Verdict.{enforced, enforced_from}
use Rattle.csp_model.specs.declared.policy.PolicyList.{PolicyList}
pub use Rattle.csp_facts.specs.Numbers.{shapes}
use Rattle.csp_facts.specs.declared.shape.Shape.{Shape}

-- a shape and the number of an enforced policy of the second list
pub record Pair : Type 0 where
  pub shape : Shape
  pub policy : ℕ

-- all pairs, ordered by shape and then by policy
abbrev pub pairs : PolicyList → List Pair
pairs second =
    flat_map (λ (s : Shape). map (λ (number : ℕ). record { shape = s; policy = number }) (enforced second)) shapes
