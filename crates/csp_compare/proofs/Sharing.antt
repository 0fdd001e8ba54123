-- One tree more keeps the nodes of trees different, and the numbers of those with nodes listed.
use Rattle.std.proofs.Common.{arith, ◌≡◌, ◌≢◌, ◌∙◌, sym, ap, subst, refl, ℕ, ◌+◌, ◌<◌, ◌^◌, zero, suc, true, cond, List, [], ◌∷◌, ◌++◌, length, append-nil, length-append, All, inl, inr}
use Rattle.std.specs.Prelude.{Option, Some, None, Contains, AllPairs, MatchOption, ◌⊎◌}
use Rattle.std.specs.List.{flat_map}
use Rattle.std.specs.BTreeMap.{BTreeMap, get}
use Rattle.std.specs.Ordering.{nat_cmp, is_eq}
use Rattle.std.specs.declared.cmp.Ordering.{Ordering}
use Rattle.std.specs.declared.cmp.Ordering.TheVariants.{Less, Equal, Greater}
use Rattle.std.proofs.lemmas.Bool.{cases_Bool, cond-true, cond-false}
use Rattle.std.proofs.lemmas.Map.Lookups.{exact_unsigned}
use Rattle.std.specs.Global.{Vec}
use Rattle.std.proofs.lemmas.List.{length-map, length_push}
use Rattle.std.proofs.lemmas.List.Concat.{flat_map-append}
use Rattle.std.proofs.lemmas.List.Elements.{All-nil, All-cons}
use Rattle.std.proofs.lemmas.List.Quantifiers.{all_pairs_push}
use Rattle.csp_proof.specs.Spelling.{tree_lines, body_lines}
use Rattle.csp_proof.specs.WellFormed.{body_at, line_behind}
use Rattle.csp_proof.specs.declared.proof.Body.{Body}
use Rattle.csp_proof.specs.declared.proof.Body.TheVariants as body
use Rattle.csp_proof.specs.declared.proof.Node.{Node}
use Rattle.csp_proof.specs.declared.proof.Tree.{Tree}
use Rattle.csp_compare.specs.Answers.{own_nodes, SharesNodes}
use Rattle.csp_compare.specs.Drafts.{HasNone, listed, numbers_at, KeepsNumbers, ListsTrees, IsMade}
use Rattle.csp_compare.specs.declared.draft.Draft.TheInside.{Inside}

abbrev own : Tree → List (List Node)
own tree = own_nodes tree.body

-- Different nodes

others_of : (b : Body) (nodes : List Node) (rest : List (List Node)) → Some b ≢ Some (body.Nodes nodes) → All (λ (ns : List Node). ns ≢ nodes) rest → All (λ (ns : List Node). ns ≢ nodes) (own_nodes b ++ rest)
others_of (body.Same n) nodes rest other all = all
others_of (body.Nodes ns) nodes rest other all = All-cons (λ (xs : List Node). xs ≢ nodes) ns rest (λ same. other (ap (λ (xs : List Node). Some (body.Nodes xs)) same)) all

others : (trees : List Tree) (nodes : List Node) → HasNone trees nodes → All (λ (ns : List Node). ns ≢ nodes) (flat_map own trees)
others [] nodes none = All-nil (λ (ns : List Node). ns ≢ nodes)
others (tree ∷ trees) nodes none = others_of tree.body nodes (flat_map own trees) (none zero) (others trees nodes (λ n is. none (suc n) is))

own_push : (trees : List Tree) (tree : Tree) → flat_map own (trees ++ tree ∷ []) ≡ flat_map own trees ++ own_nodes tree.body
own_push trees tree = flat_map-append own trees (tree ∷ []) ∙ ap (λ (ns : List (List Node)). flat_map own trees ++ ns) (append-nil (own_nodes tree.body))

pub shares_nodes : (trees : List Tree) (tree : Tree) (nodes : List Node) → tree.body ≡ body.Nodes nodes → HasNone trees nodes → SharesNodes trees → SharesNodes (trees ++ tree ∷ [])
shares_nodes trees tree nodes is none shares =
    subst (AllPairs (λ (one other : List Node). one ≢ other)) (sym (own_push trees tree ∙ ap (λ (b : Body). flat_map own trees ++ own_nodes b) is))
    (all_pairs_push (λ (one other : List Node). one ≢ other) (flat_map own trees) nodes shares (others trees nodes none))

pub shares_same : (trees : List Tree) (tree : Tree) (n : ℕ) → tree.body ≡ body.Same n → SharesNodes trees → SharesNodes (trees ++ tree ∷ [])
shares_same trees tree n is shares =
    subst (AllPairs (λ (one other : List Node). one ≢ other)) (sym (own_push trees tree ∙ ap (λ (b : Body). flat_map own trees ++ own_nodes b) is ∙ append-nil (flat_map own trees))) shares

-- Listed numbers

push_cases : (trees : List Tree) (tree : Tree) (n : ℕ) (b : Body) → body_at (trees ++ tree ∷ []) n ≡ Some b → (body_at trees n ≡ Some b) ⊎ ((n ≡ length trees) × (tree.body ≡ b))
push_cases [] tree zero b is = inr (refl, cc is)
push_cases [] tree (suc n) b is = cc is
push_cases (t ∷ trees) tree zero b is = inl is
push_cases (t ∷ trees) tree (suc n) b is = elim (push_cases trees tree n b is) [
  | inl before ↦ inl before
  | inr last ↦ inr (ap suc last.0, last.1)
]

pub lists_same : (by_count : BTreeMap ℕ (Vec ℕ)) (trees : List Tree) (tree : Tree) (n : ℕ) → tree.body ≡ body.Same n → ListsTrees by_count trees → ListsTrees by_count (trees ++ tree ∷ [])
lists_same by_count trees tree n is lists m nodes here = elim (push_cases trees tree m (body.Nodes nodes) here) [
  | inl before ↦ lists m nodes before
  | inr last ↦ cc (is, last.1)
]

pub lists_nodes : (old new : BTreeMap ℕ (Vec ℕ)) (trees : List Tree) (tree : Tree) (own_ones : List Node) → tree.body ≡ body.Nodes own_ones → KeepsNumbers old new
    → Contains (numbers_at new (length own_ones)) (length trees) → ListsTrees old trees → ListsTrees new (trees ++ tree ∷ [])
lists_nodes old new trees tree own_ones is keeps noted lists m nodes here = elim (push_cases trees tree m (body.Nodes nodes) here) [
  | inl before ↦ keeps (length nodes) m (lists m nodes before)
  | inr last ↦
      let same : own_ones ≡ nodes = cc (is, last.1) in
      subst (λ (ns : List Node). Contains (numbers_at new (length ns)) m) same (subst (Contains (numbers_at new (length own_ones))) (sym last.0) noted)
]

pub lists_more : (old new : BTreeMap ℕ (Vec ℕ)) (trees : List Tree) → KeepsNumbers old new → ListsTrees old trees → ListsTrees new trees
lists_more old new trees keeps lists m nodes here = keeps (length nodes) m (lists m nodes here)

-- Lines

line_push : (trees : List Tree) (tree : Tree) → line_behind (trees ++ tree ∷ []) ≡ line_behind trees + 1 + length (body_lines tree.body)
line_push trees tree =
    let e = ap length (flat_map-append tree_lines trees (tree ∷ []) ∙ ap (λ ls. flat_map tree_lines trees ++ ls) (append-nil (tree_lines tree))) in
    omega (arith, e, length-append (flat_map tree_lines trees) (tree_lines tree))

pub line_same : (trees : List Tree) (tree : Tree) (n : ℕ) → tree.body ≡ body.Same n → line_behind (trees ++ tree ∷ []) ≡ line_behind trees + 2
line_same trees tree n is =
    let one = ap (λ (b : Body). length (body_lines b)) is in
    omega (arith, one, line_push trees tree)

pub line_nodes : (trees : List Tree) (tree : Tree) (nodes : List Node) → tree.body ≡ body.Nodes nodes → line_behind (trees ++ tree ∷ []) ≡ line_behind trees + (1 + length nodes)
line_nodes trees tree nodes is =
    let count = ap (λ (b : Body). length (body_lines b)) is in
    let own_count : length (body_lines (body.Nodes nodes)) ≡ length nodes = length-map nodes _ in
    omega (arith, count, own_count, line_push trees tree)

-- What is kept of the trees

pub made_same : (a : Inside) (tree : Tree) (n : ℕ) (trees : List Tree) → IsMade a → tree.body ≡ body.Same n → trees ≡ a.trees ++ tree ∷ []
    → IsMade (record { alloc = a.alloc; trees = trees; line = a.line + 2; by_count = a.by_count })
made_same a tree n trees made is e = record {
  line = omega (arith, made.line, line_same a.trees tree n is, ap line_behind e);
  bound = omega (arith, made.bound, ap length e, length_push a.trees tree);
  shares = subst SharesNodes (sym e) (shares_same a.trees tree n is made.shares);
  listed = subst (ListsTrees a.by_count) (sym e) (lists_same a.by_count a.trees tree n is made.listed);
}

pub made_nodes : (a : Inside) (tree : Tree) (nodes : List Node) (count n : ℕ) (trees : List Tree) (by_count : BTreeMap ℕ (Vec ℕ)) → IsMade a → tree.body ≡ body.Nodes nodes → trees ≡ a.trees ++ tree ∷ []
    → HasNone a.trees nodes → count ≡ length nodes → count < 2 ^ 64 → n ≡ length a.trees → KeepsNumbers a.by_count by_count → Contains (numbers_at by_count count) n
    → IsMade (record { alloc = a.alloc; trees = trees; line = a.line + (1 + count); by_count = by_count })
made_nodes a tree nodes count n trees by_count made is e none counted fits place keeps noted = record {
  line = omega (arith, made.line, counted, line_nodes a.trees tree nodes is, ap line_behind e);
  bound = omega (arith, made.bound, fits, ap length e, length_push a.trees tree);
  shares = subst SharesNodes (sym e) (shares_nodes a.trees tree nodes is none made.shares);
  listed = subst (ListsTrees by_count) (sym e)
      (lists_nodes a.by_count by_count a.trees tree nodes is keeps (subst (λ (m : ℕ). Contains (numbers_at by_count (length nodes)) m) place (subst (λ (m : ℕ). Contains (numbers_at by_count m) n) counted noted)) made.listed);
}

pub made_more : (a : Inside) (trees : List Tree) (by_count : BTreeMap ℕ (Vec ℕ)) → IsMade a → trees ≡ a.trees → KeepsNumbers a.by_count by_count
    → IsMade (record { alloc = a.alloc; trees = trees; line = a.line; by_count = by_count })
made_more a trees by_count made e keeps = record {
  line = made.line ∙ ap line_behind (sym e);
  bound = omega (arith, made.bound, ap length e);
  shares = subst SharesNodes (sym e) made.shares;
  listed = subst (ListsTrees by_count) (sym e) (lists_more a.by_count by_count a.trees keeps made.listed);
}

-- Numbers by counts

pub level : (o : Ordering) → is_eq o ≡ true → o ≡ Equal
level Less is = cc is
level Equal is = refl
level Greater is = cc is

pub keeps_update : (old new : BTreeMap ℕ (Vec ℕ)) (k : ℕ) (v : Vec ℕ) → ((q : ℕ) → get nat_cmp new q ≡ cond (is_eq (nat_cmp k q)) (Some v) (get nat_cmp old q))
    → ((n : ℕ) → Contains (numbers_at old k) n → Contains v.items n) → KeepsNumbers old new
keeps_update old new k v updates more count n has = elim (cases_Bool (is_eq (nat_cmp k count))) [
  | inl is ↦
      let same : k ≡ count = exact_unsigned k count (level _ is) in
      subst (λ (o : Option (Vec ℕ)). Contains (listed o) n) (sym (updates count ∙ cond-true _ _ _ is)) (more n (subst (λ (m : ℕ). Contains (numbers_at old m) n) (sym same) has))
  | inr other ↦ subst (λ (o : Option (Vec ℕ)). Contains (listed o) n) (sym (updates count ∙ cond-false _ _ _ other)) has
]

pub found_among : (o : Option ℕ) (trees : List Tree) (nodes : List Node) (numbers : List ℕ) → ((n : ℕ) → body_at trees n ≡ Some (body.Nodes nodes) → Contains numbers n)
    → MatchOption o ((n : ℕ) → Contains numbers n → body_at trees n ≢ Some (body.Nodes nodes)) (λ n. body_at trees n ≡ Some (body.Nodes nodes))
    → MatchOption o (HasNone trees nodes) (λ n. body_at trees n ≡ Some (body.Nodes nodes))
found_among None trees nodes numbers all none = λ n here. none n (all n here) here
found_among (Some n) trees nodes numbers all some = some

pub none_listed : (o : Option (Vec ℕ)) (n : ℕ) → None ≡ o → Contains (listed o) n → ⊥
none_listed None n is has = omega (arith, has.1)
none_listed (Some v) n is has = cc is
