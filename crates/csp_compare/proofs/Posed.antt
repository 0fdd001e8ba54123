-- The question about a shape and an enforced policy may be asked, and a check that is found for it shows that the lists differ.
use Rattle.std.proofs.Common.{◌≡◌, ◌∙◌, ◌<◌, ℕ, List, get_or, length}
use Rattle.std.specs.Prelude.{IsTrue, MatchOption, slice_get}
use Rattle.csp_branch.specs.Walks.{Position}
use Rattle.csp_model.specs.Verdict.{is_enforce}
use Rattle.csp_model.specs.declared.check.Check.{Check}
use Rattle.csp_model.specs.declared.policy.Policy.{Policy}
use Rattle.csp_facts.specs.declared.shape.Shape.{Shape}
use Rattle.csp_search.specs.Answers.{ShowsNone}
use Rattle.csp_compare.specs.Differences.{DiffersAt}
use Rattle.csp_compare.specs.Drafts.{at_shape}
use Rattle.csp_compare.specs.Comparisons.{IsReady, lists_of}
use Rattle.csp_compare.specs.declared.comparison.Comparison.{Comparison}
use Rattle.csp_compare.proofs.Differing.{shape_effective}
use Rattle.csp_compare.proofs.EnforcedPolicies.{enforced_in}
use Rattle.csp_compare.proofs.Refuting.{refutes}

module _ (on : Comparison) (walker : Position) (is : IsReady on walker) (ps : List ℕ) (are : ps ≡ on.policies.items) (i : ℕ) (inside : i < length ps) where
  pub enforces : MatchOption (slice_get on.lists.second.now.policies (get_or ps i 0)) ⊥ (λ (p : Policy). IsTrue (is_enforce p.disposition))
  enforces = (enforced_in on.lists.second.now ps i (are ∙ is.policies) inside).is

  pub differs : (kind : Shape) (asked : Check) → ShowsNone (lists_of on) (at_shape kind (get_or ps i 0)) asked → DiffersAt on kind asked
  differs kind asked shows =
      (refutes (lists_of on) (at_shape kind (get_or ps i 0)) asked enforces shows, shape_effective asked kind shows.shape)
