-- What a comparison of two lists answers.
use Rattle.std.specs.Prelude.{◌≡◌, ◌≢◌, true, false, List, [], ◌∷◌, AllPairs}
use Rattle.std.specs.List.{flat_map}
use Rattle.csp_model.specs.Inclusion.{Subsumes}
use Rattle.csp_model.specs.Validity.{IsValidCheck}
use Rattle.csp_model.specs.Verdict.{list_allows}
use Rattle.csp_model.specs.declared.check.Check.{Check}
use Rattle.csp_model.specs.declared.policy.PolicyList.{PolicyList}
use Rattle.csp_proof.specs.Accepts.{IsAccepted}
use Rattle.csp_proof.specs.WellFormed.{IsWellFormed}
use Rattle.csp_proof.specs.declared.proof.Body.{Body}
use Rattle.csp_proof.specs.declared.proof.Body.TheVariants as body
use Rattle.csp_proof.specs.declared.proof.Format.TheVariants.{Two}
use Rattle.csp_proof.specs.declared.proof.Node.{Node}
use Rattle.csp_proof.specs.declared.proof.Proof.{Proof}
use Rattle.csp_proof.specs.declared.proof.Tree.{Tree}
use Rattle.csp_compare.specs.declared.comparing.Answer.{Answer}
use Rattle.csp_compare.specs.declared.comparing.Answer.TheVariants as answer

-- the nodes of a body that has its own
abbrev pub own_nodes : Body → List (List Node)
own_nodes (body.Nodes nodes) = nodes ∷ []
own_nodes (body.Same tree) = []

-- no two trees with nodes of their own have equal nodes
abbrev pub SharesNodes : List Tree → Type 0
SharesNodes trees =
    AllPairs (λ (one other : List Node). one ≢ other) (flat_map (λ (tree : Tree). own_nodes tree.body) trees)

-- a proof of the second format that keeps all rules and repeats no nodes
pub record IsPrinted (first second : PolicyList) (proof : Proof) : Type 0 where
  pub formed : IsWellFormed proof
  pub format : proof.format ≡ Two
  pub shares : SharesNodes proof.trees
  pub accepted : IsAccepted first second proof

-- a valid check that the first list allows and the second doesn't
pub record IsCounterexample (first second : PolicyList) (asked : Check) : Type 0 where
  pub valid : IsValidCheck asked
  pub allowed : list_allows first asked ≡ true
  pub refused : list_allows second asked ≡ false

abbrev pub IsAnswer : PolicyList → PolicyList → Answer → Type 0
IsAnswer first second (answer.Subsumed proof) = IsPrinted first second proof × Subsumes first second
IsAnswer first second (answer.Counterexample asked) = IsCounterexample first second asked
