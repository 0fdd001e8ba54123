-- Words of private contracts, which stand here since contracts cite only specs/: what a comparison is of, and
-- what comes of each shape.
use Rattle.std.specs.Prelude.{◌≡◌, ◌≤◌, ℕ, List, [], length, map, Option, Some, None, IsTrue, slice_get}
use Rattle.std.specs.BTreeMap.{BTreeMap, get}
use Rattle.std.specs.Global.{Vec}
use Rattle.std.specs.List.{AllZip}
use Rattle.std.specs.Ordering.{nat_cmp}
use Rattle.csp_model.specs.declared.check.Check.{Check}
use Rattle.csp_model.specs.declared.policy.PolicyList.{PolicyList}
use Rattle.csp_proof.specs.Accepts.{Lists}
use Rattle.csp_proof.specs.Pairs.{enforced}
use Rattle.csp_proof.specs.declared.proof.Tree.{Tree}
use Rattle.csp_search.specs.Questions.{AreAnswered, lists_in}
use Rattle.csp_branch.specs.Walks.{Position}
use Rattle.csp_facts.specs.Numbers.{number}
use Rattle.csp_facts.specs.Shapes.{HasShape, is_shape}
use Rattle.csp_facts.specs.declared.shape.Shape.{Shape}
use Rattle.csp_compare.specs.Answers.{IsCounterexample}
use Rattle.csp_compare.specs.Drafts.{Adds, IsShown, at_shape}
use Rattle.csp_compare.specs.declared.comparison.Comparison.{Comparison}
use Rattle.csp_compare.specs.declared.comparison.ShapeOutcome.{ShapeOutcome}
use Rattle.csp_compare.specs.declared.comparison.ShapeOutcome.TheVariants as outcome

abbrev pub lists_of : Comparison → Lists
lists_of on = lists_in on.lists

-- both lists are answered by the names that the walker goes by, and it stands at the root with room for all
-- of them
pub record IsReady (on : Comparison) (walker : Position) : Type 0 where
  pub lists : AreAnswered on.lists walker.atoms
  pub policies : on.policies.items ≡ enforced on.lists.second.now
  pub root : walker.literals ≡ []
  pub room : length walker.atoms ≤ walker.room

-- they are ready to compare these lists
pub record IsComparison (first second : PolicyList) (made : Comparison × Position) : Type 0 where
  pub ready : IsReady made.0 made.1
  pub lists : lists_of made.0 ≡ record { first = first; second = second }

-- the shape is of this kind
pub record IsOfKind (on : Comparison) (kind : ℕ) (shape : Shape) : Type 0 where
  pub listed : IsTrue (is_shape shape)
  pub is : slice_get on.lists.table.kinds (number shape) ≡ Some kind

-- the trees of these numbers have nodes that show the shape's pairs
abbrev pub AreShown : Comparison → List Tree → Shape → List ℕ → Type 0
AreShown on trees shape numbers =
    AllZip (λ policy number. IsShown (lists_of on) trees (at_shape shape policy) number)
    on.policies.items numbers

-- for each policy there is a tree more, or there is a check of the shape that the second list refuses
abbrev pub IsOutcome : Comparison → Shape → List Tree → List Tree → ShapeOutcome → Type 0
IsOutcome on shape old new (outcome.Shown numbers) =
    Adds (lists_of on) (map (at_shape shape) on.policies.items) old new
    × AreShown on new shape numbers.items
IsOutcome on shape old new (outcome.Refuted asked) =
    IsCounterexample on.lists.first.now on.lists.second.now asked × HasShape asked shape

-- under a kind the numbers of trees that show the pairs of each shape of the kind
abbrev pub AreKnown : Comparison → List Tree → BTreeMap ℕ (Vec ℕ) → Type 0
AreKnown on trees known = (kind : ℕ) (numbers : Vec ℕ) (shape : Shape)
    → get nat_cmp known kind ≡ Some numbers → IsOfKind on kind shape
    → AreShown on trees shape numbers.items

abbrev pub IsStep : Comparison → Shape → List Tree → List Tree → BTreeMap ℕ (Vec ℕ) → Option Check → Type 0
IsStep on shape old new known None =
    Adds (lists_of on) (map (at_shape shape) on.policies.items) old new × AreKnown on new known
IsStep on shape old new known (Some asked) = IsCounterexample on.lists.first.now on.lists.second.now asked
