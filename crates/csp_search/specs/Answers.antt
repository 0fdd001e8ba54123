-- What a search finds.
use Rattle.std.specs.Prelude.{◌≡◌, ℕ, false, List, [], None, All, IsTrue, slice_get, MatchOption}
use Rattle.csp_model.specs.DecideVerdict.{allows}
use Rattle.csp_model.specs.Validity.{IsValidCheck}
use Rattle.csp_model.specs.Verdict.{list_allows}
use Rattle.csp_model.specs.declared.policy.Policy.{Policy}
use Rattle.csp_proof.specs.Accepts.{Lists, bad_case}
use Rattle.csp_proof.specs.Pairs.{Pair}
use Rattle.csp_proof.specs.WellFormed.{Cases, preorder, IsValidNode}
use Rattle.csp_proof.specs.declared.proof.Node.{Node}
use Rattle.csp_model.specs.declared.check.Check.{Check}
use Rattle.csp_facts.specs.Shapes.{HasShape}
use Rattle.csp_search.specs.declared.searching.Found.{Found}
use Rattle.csp_search.specs.declared.searching.Found.TheVariants as found

-- nodes in preorder of a tree for the pair that keeps all rules, wherever it stands
pub record ShowsInclusion (lists : Lists) (pair : Pair) (nodes : List Node) : Type 0 where
  pub cases : Cases
  pub preorder : preorder cases ≡ nodes
  pub valid : All IsValidNode nodes
  pub accepted : (line : ℕ) → bad_case lists pair [] line cases ≡ None

-- a check of the pair's shape that the first list allows and the pair's policy refuses
pub record ShowsNone (lists : Lists) (pair : Pair) (asked : Check) : Type 0 where
  pub valid : IsValidCheck asked
  pub shape : HasShape asked pair.shape
  pub allowed : IsTrue (list_allows lists.first asked)
  pub refused : MatchOption (slice_get lists.second.policies pair.policy) ⊥
      (λ (p : Policy). allows p asked ≡ false)

abbrev pub IsFound : Lists → Pair → Found → Type 0
IsFound lists pair (found.Nodes nodes) = ShowsInclusion lists pair nodes
IsFound lists pair (found.Check asked) = ShowsNone lists pair asked
