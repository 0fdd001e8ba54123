-- Words of private contracts, which stand here since contracts cite only specs/: the trees of a proof that is
-- being made, and the pairs that they show.
use Rattle.std.specs.Prelude.{◌≡◌, ◌≢◌, ℕ, ◌+◌, ◌*◌, ◌^◌, ◌≤◌, List, [], ◌∷◌, ◌++◌, length, Option, Some, None, Contains}
use Rattle.std.specs.BTreeMap.{BTreeMap, get}
use Rattle.std.specs.Global.{Vec}
use Rattle.std.specs.Ordering.{nat_cmp}
use Rattle.csp_proof.specs.Accepts.{Lists, bad_shared, bad_from}
use Rattle.csp_proof.specs.Pairs.{Pair}
use Rattle.csp_proof.specs.WellFormed.{AreTrees, body_at, line_behind}
use Rattle.csp_proof.specs.declared.proof.Body.{Body}
use Rattle.csp_proof.specs.declared.proof.Body.TheVariants as body
use Rattle.csp_proof.specs.declared.proof.Format.TheVariants.{Two}
use Rattle.csp_proof.specs.declared.proof.Node.{Node}
use Rattle.csp_proof.specs.declared.proof.Tree.{Tree}
use Rattle.csp_facts.specs.declared.shape.Shape.{Shape}
use Rattle.csp_compare.specs.Answers.{SharesNodes}
use Rattle.csp_compare.specs.declared.draft.Draft.TheInside.{Inside}

-- Trees in the making

-- a tree that stands behind these
abbrev pub tree_behind : List Tree → ℕ → ℕ → Body → Tree
tree_behind trees shape policy b =
    record { shape = shape; policy = policy; line = line_behind trees; body = b }

-- none of the trees has these nodes of its own
abbrev pub HasNone : List Tree → List Node → Type 0
HasNone trees nodes = (number : ℕ) → body_at trees number ≢ Some (body.Nodes nodes)

-- the body has the nodes, or shares those of the tree of this number, which has them
abbrev pub IsBodyOf : List Tree → List Node → ℕ → Body → Type 0
IsBodyOf trees nodes number (body.Nodes own) = (own ≡ nodes) × (number ≡ length trees)
IsBodyOf trees nodes number (body.Same tree) =
    (tree ≡ number) × (body_at trees number ≡ Some (body.Nodes nodes))

-- there is one tree more, and the tree of this number has the nodes for it
pub record IsAdded (old new : List Tree) (shape policy : ℕ) (nodes : List Node) (number : ℕ) : Type 0 where
  pub body : Body
  pub grown : new ≡ old ++ tree_behind old shape policy body ∷ []
  pub is : IsBodyOf old nodes number body

-- Numbers by counts

abbrev pub listed : Option (Vec ℕ) → List ℕ
listed None = []
listed (Some numbers) = numbers.items

-- the numbers of a count
abbrev pub numbers_at : BTreeMap ℕ (Vec ℕ) → ℕ → List ℕ
numbers_at by_count count = listed (get nat_cmp by_count count)

abbrev pub KeepsNumbers : BTreeMap ℕ (Vec ℕ) → BTreeMap ℕ (Vec ℕ) → Type 0
KeepsNumbers old new =
    (count number : ℕ) → Contains (numbers_at old count) number → Contains (numbers_at new count) number

-- each tree with nodes of its own is listed under their count
abbrev pub ListsTrees : BTreeMap ℕ (Vec ℕ) → List Tree → Type 0
ListsTrees by_count trees = (number : ℕ) (nodes : List Node) → body_at trees number ≡ Some (body.Nodes nodes)
    → Contains (numbers_at by_count (length nodes)) number

pub record IsMade (a : Inside) : Type 0 where
  pub line : a.line ≡ line_behind a.trees
  pub bound : a.line ≤ 2 + 2 ^ 65 * length a.trees
  pub shares : SharesNodes a.trees
  pub listed : ListsTrees a.by_count a.trees

-- Pairs that are shown

-- the trees are well formed and show the pairs, in this list and in each longer one
pub record Shows (lists : Lists) (ps : List Pair) (trees : List Tree) : Type 0 where
  pub formed : AreTrees Two [] trees
  pub accepted : (more : List Tree) (last : ℕ) → bad_from lists (trees ++ more) last ps trees ≡ None

abbrev pub at_shape : Shape → ℕ → Pair
at_shape kind policy = record { shape = kind; policy = policy }

-- the tree of this number has nodes that show the pair
abbrev pub IsShown : Lists → List Tree → Pair → ℕ → Type 0
IsShown lists trees pair number = (line : ℕ) → bad_shared lists pair line (body_at trees number) ≡ None

-- behind the old trees stands one for each of these pairs, and shows it
pub record Adds (lists : Lists) (ps : List Pair) (old new : List Tree) : Type 0 where
  pub longer : (more : List Tree) × (new ≡ old ++ more)
  pub count : length new ≡ length old + length ps
  pub shows : (before : List Pair) → Shows lists before old → Shows lists (before ++ ps) new
