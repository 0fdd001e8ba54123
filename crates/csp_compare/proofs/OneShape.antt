-- Trees for the pairs of one shape show that the second list allows the checks of the shape that the first allows.
use Rattle.std.proofs.Common.{◌≡◌, refl, ℕ, true, List, [], ◌∷◌}
use Rattle.std.specs.List.{AllZip}
use Rattle.csp_model.specs.Validity.{IsValidCheck}
use Rattle.csp_model.specs.Verdict.{list_allows}
use Rattle.csp_model.specs.declared.check.Check.{Check}
use Rattle.csp_facts.specs.Shapes.{HasShape}
use Rattle.csp_facts.specs.declared.shape.Shape.{Shape}
use Rattle.csp_proof.specs.Accepts.{Lists, AreSaid}
use Rattle.csp_proof.specs.Pairs.{enforced}
use Rattle.csp_proof.specs.WellFormed.{body_at}
use Rattle.csp_proof.specs.declared.proof.Tree.{Tree}
use Rattle.csp_proof.proofs.Included.{Allowed, Each, enforced_allow, shared_sound}
use Rattle.csp_compare.specs.Drafts.{IsShown, at_shape}

module _ (lists : Lists) (kind : Shape) (trees : List Tree) (said : AreSaid lists.first lists.second) (asked : Check) (valid : IsValidCheck asked) (has : HasShape asked kind)
    (allowed : list_allows lists.first asked ≡ true) where
  each_allowed : (policies numbers : List ℕ) → AllZip (λ policy n. IsShown lists trees (at_shape kind policy) n) policies numbers
      → Each (Allowed lists asked valid said.by_first said.by_second allowed) policies
  each_allowed [] numbers shown = tt
  each_allowed (policy ∷ policies) [] shown = absurd shown
  each_allowed (policy ∷ policies) (n ∷ numbers) shown = (
    shared_sound lists asked valid said.by_first said.by_second allowed (at_shape kind policy) 0 (body_at trees n) has (shown.0 0),
    each_allowed policies numbers shown.1,
  )

  pub included_at : (numbers : List ℕ) → AllZip (λ policy n. IsShown lists trees (at_shape kind policy) n) (enforced lists.second) numbers → list_allows lists.second asked ≡ true
  included_at numbers shown =
      enforced_allow lists asked valid said.by_first said.by_second allowed [] lists.second.policies refl (each_allowed (enforced lists.second) numbers shown)
