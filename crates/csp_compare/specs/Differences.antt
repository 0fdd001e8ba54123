-- Where two lists of policies differ, among the checks with some effective directives; and words of private
-- contracts, which stand here since contracts cite only specs/.
use Rattle.std.specs.Prelude.{◌≡◌, ◌<◌, ℕ, List, [], ◌∷◌, Option, IsTrue, MatchOption, map}
use Rattle.std.specs.Prelude.{All, AllPairs, Contains}
use Rattle.std.specs.BTreeSet.{BTreeSet, contains}
use Rattle.std.specs.Cmp.Lexicographic.{slice_cmp}
use Rattle.std.specs.Ordering.{nat_cmp}
use Rattle.std.specs.declared.cmp.Ordering.TheVariants.{Less}
use Rattle.csp_model.specs.Names.{group_directive, inline_directive, name_text}
use Rattle.csp_model.specs.Validity.{IsValidCheck}
use Rattle.csp_model.specs.Verdict.{effective_name, list_allows}
use Rattle.csp_model.specs.declared.check.Check.{Check}
use Rattle.csp_model.specs.declared.name.Name.{Name}
use Rattle.csp_model.specs.declared.name.Name.TheVariants.{ConnectSrc, FontSrc, FrameSrc, ImgSrc, ManifestSrc, MediaSrc, ObjectSrc, StyleSrcElem, ScriptSrcElem, WorkerSrc, ScriptSrcAttr, StyleSrcAttr, ScriptSrc, BaseUri, FormAction, FrameAncestors, Sandbox}
use Rattle.csp_model.specs.declared.policy.PolicyList.{PolicyList}
use Rattle.csp_proof.specs.declared.proof.Tree.{Tree}
use Rattle.csp_facts.specs.Numbers.{number}
use Rattle.csp_facts.specs.Shapes.{is_shape}
use Rattle.csp_facts.specs.declared.shape.Shape.{Shape}
use Rattle.csp_facts.specs.declared.shape.Shape.TheVariants as shape
use Rattle.csp_compare.specs.Answers.{IsCounterexample}
use Rattle.csp_compare.specs.Comparisons.{AreShown, IsOfKind}
use Rattle.csp_compare.specs.declared.differences.Difference.{Difference}
use Rattle.csp_compare.specs.declared.comparison.Comparison.{Comparison}

-- the effective directives that checks have, in the order of their names
abbrev pub effective_names : List Name
effective_names =
    BaseUri ∷ ConnectSrc ∷ FontSrc ∷ FormAction ∷ FrameAncestors ∷ FrameSrc ∷ ImgSrc ∷ ManifestSrc ∷ MediaSrc
    ∷ ObjectSrc ∷ Sandbox ∷ ScriptSrc ∷ ScriptSrcAttr ∷ ScriptSrcElem ∷ StyleSrcAttr ∷ StyleSrcElem
    ∷ WorkerSrc ∷ []

-- every valid check with one of these effective directives that the first list allows the second allows
abbrev pub SubsumesAmong : List Name → PolicyList → PolicyList → Type 0
SubsumesAmong effective first second =
    (asked : Check) → IsValidCheck asked → Contains effective (effective_name asked)
    → IsTrue (list_allows first asked) → IsTrue (list_allows second asked)

-- the check has one of these effective directives, and shows that the second list doesn't allow what the
-- first allows
abbrev pub DiffersAmong : List Name → PolicyList → PolicyList → Check → Type 0
DiffersAmong effective first second asked =
    IsCounterexample first second asked × Contains effective (effective_name asked)

-- such a check; none exactly where the second list allows what the first allows under these directives
abbrev pub IsDifferenceAmong : List Name → PolicyList → PolicyList → Option Check → Type 0
IsDifferenceAmong effective first second found =
    MatchOption found (SubsumesAmong effective first second) (DiffersAmong effective first second)

-- the entry's check shows that the second list doesn't allow all that the first allows under the directive
pub record ShowsDifference (first second : PolicyList) (entry : Difference) : Type 0 where
  pub differs : IsCounterexample first second entry.check
  pub directive : effective_name entry.check ≡ entry.directive

-- the one is written before the other, in the order of texts
abbrev pub IsBefore : Name → Name → Type 0
IsBefore one other = slice_cmp nat_cmp (name_text one) (name_text other) ≡ Less

abbrev pub directives_of : List Difference → List Name
directives_of entries = map (λ (entry : Difference). entry.directive) entries

-- An entry for each effective directive under which the first list allows a check that the second doesn't,
-- with such a check, in the order of the directives' names.
pub record AreDifferences (first second : PolicyList) (entries : List Difference) : Type 0 where
  pub shown : All (ShowsDifference first second) entries
  pub complete : (asked : Check) → IsCounterexample first second asked
      → Contains (directives_of entries) (effective_name asked)
  pub ordered : AllPairs IsBefore (directives_of entries)

-- Words of private contracts

-- the effective directive of the checks of a shape
abbrev pub effective_of : Shape → Name
effective_of (shape.Fetch group scheme redirected parser_inserted) = group_directive group
effective_of (shape.Form scheme redirected) = FormAction
effective_of (shape.Base scheme) = BaseUri
effective_of (shape.Ancestor scheme) = FrameAncestors
effective_of shape.OpaqueAncestor = FrameAncestors
effective_of (shape.Inline kind) = inline_directive kind
effective_of shape.Eval = ScriptSrc
effective_of shape.Wasm = ScriptSrc
effective_of (shape.Capability capability) = Sandbox
effective_of shape.WorkerStart = Sandbox

-- there are trees that show the pairs of the shape
abbrev pub IsIncludedAt : Comparison → Shape → Type 0
IsIncludedAt on shape = (trees : List Tree) × (numbers : List ℕ) × AreShown on trees shape numbers

-- a check of the shape that the second list refuses
abbrev pub DiffersAt : Comparison → Shape → Check → Type 0
DiffersAt on shape asked =
    IsCounterexample on.lists.first.now on.lists.second.now asked × (effective_name asked ≡ effective_of shape)

-- at each shape of a known kind
abbrev pub AreIncluded : Comparison → BTreeSet ℕ → Type 0
AreIncluded on known = (kind : ℕ) (shape : Shape)
    → IsTrue (contains nat_cmp known kind) → IsOfKind on kind shape → IsIncludedAt on shape

-- the shape of this number, which has one of these effective directives
pub record IsAmongAt (effective : List Name) (place : ℕ) (shape : Shape) : Type 0 where
  pub listed : IsTrue (is_shape shape)
  pub number : number shape ≡ place
  pub among : Contains effective (effective_of shape)

-- no shape of this number has one
abbrev pub HasNoneAt : List Name → ℕ → Type 0
HasNoneAt effective place = (shape : Shape) → IsAmongAt effective place shape → ⊥

-- at the shapes with these effective directives that have a number below this one
abbrev pub IsIncludedBelow : Comparison → List Name → ℕ → Type 0
IsIncludedBelow on effective count = (place : ℕ) (shape : Shape) → place < count
    → IsAmongAt effective place shape → IsIncludedAt on shape
