-- Trees for branches, and the nodes that begin a tree that keeps all rules.
use Rattle.std.proofs.Common.{◌≡◌, ℕ, ◌+◌, ◌<◌, Bool, true, false, refl, sym, subst, List, [], ◌∷◌, ◌++◌, length, length-append, None, arith, ◌∙◌, append_assoc, append-nil, All, Contains}
use Rattle.std.proofs.lemmas.List.Elements.{All-nil, All-push}
use Rattle.csp_facts.specs.Atoms.{IsValidAtom}
use Rattle.csp_facts.specs.Follows.{decided}
use Rattle.csp_facts.specs.declared.atom.Atom.{Atom}
use Rattle.csp_facts.specs.declared.atom.Literal.{Literal}
use Rattle.csp_branch.specs.Groups.{atom_in}
use Rattle.csp_branch.specs.Walks.{with}
use Rattle.csp_proof.specs.Accepts.{Lists, bad_case, blocks, is_met, literal}
use Rattle.csp_proof.specs.Pairs.{Pair}
use Rattle.csp_proof.specs.WellFormed.{Cases, Splits, IsBlocked, IsMet, preorder, IsValidNode}
use Rattle.csp_proof.specs.declared.proof.Node.{Node}
use Rattle.csp_proof.specs.declared.proof.Node.TheVariants.{Split, Blocked, Met}
use Rattle.csp_search.specs.Answers.{ShowsInclusion}
use Rattle.csp_search.specs.Asking.{IsOpenName}
use Rattle.csp_search.specs.Branches.{IsFresh, IsBranch}
use Rattle.csp_search.specs.Leaves.{closes, IsLeaf}
use Rattle.csp_search.specs.Questions.{asked_atoms, lists_of, pair_of}
use Rattle.csp_search.specs.declared.searching.Question.{Question}
use Rattle.csp_search.proofs.Opens.{open_all, open_fewer}

module _ (lists : Lists) (pair : Pair) where
  -- a tree below these literals that keeps all rules
  pub IsAccepted : List Literal → Cases → Type 0
  IsAccepted ls (Splits a t u) = IsAccepted (with ls a true) t × IsAccepted (with ls a false) u
  IsAccepted ls (IsBlocked policy) = blocks lists pair ls policy ≡ true
  IsAccepted ls IsMet = is_met lists pair ls ≡ true

  accepted_good : (ls : List Literal) (t : Cases) → IsAccepted ls t → (line : ℕ) → bad_case lists pair ls line t ≡ None
  unfolding IsAccepted
  accepted_good ls (Splits a t u) h line =
      rw (accepted_good (with ls a true) t h.0 (line + 1)) (accepted_good (with ls a false) u h.1 (line + 1 + length (preorder t)))
  accepted_good ls (IsBlocked policy) h line = rw h refl
  accepted_good ls IsMet h line = rw h refl

  -- trees for each of these branches
  pub AllAccepted : List (List Literal) → List Cases → Type 0
  AllAccepted [] [] = Unit {0}
  AllAccepted [] (t ∷ ts) = ⊥
  AllAccepted (ls ∷ branches) [] = ⊥
  AllAccepted (ls ∷ branches) (t ∷ ts) = IsAccepted ls t × AllAccepted branches ts

  pub spelled : List Cases → List Node
  spelled [] = []
  spelled (t ∷ ts) = preorder t ++ spelled ts

  -- with trees for the branches that are left, these nodes begin a tree that keeps all rules
  pub Begins : List Node → List (List Literal) → Type 0
  Begins nodes branches = (ts : List Cases) → AllAccepted branches ts → (t : Cases) × (preorder t ≡ nodes ++ spelled ts) × IsAccepted [] t

  begin : Begins [] ([] ∷ [])
  unfolding Begins AllAccepted spelled
  begin [] h = absurd h
  begin (t ∷ []) h = (t, sym (append-nil (preorder t)), h.0)
  begin (t ∷ u ∷ ts) h = absurd h.1

  closed : (nodes : List Node) (ls : List Literal) (branches : List (List Literal)) (end : Cases) → IsAccepted ls end → Begins nodes (ls ∷ branches) → Begins (nodes ++ preorder end) branches
  unfolding Begins AllAccepted spelled
  closed nodes ls branches end a h ts all = let r = h (end ∷ ts) (a, all) in (r.0, r.1 ∙ sym (append_assoc nodes (preorder end) (spelled ts)), r.2)

  branched : (nodes : List Node) (ls : List Literal) (branches : List (List Literal)) (a : Atom) → Begins nodes (ls ∷ branches)
      → Begins (nodes ++ Split a ∷ []) (with ls a true ∷ with ls a false ∷ branches)
  unfolding Begins AllAccepted spelled IsAccepted
  branched nodes ls branches a h [] all = absurd all
  branched nodes ls branches a h (t ∷ []) all = absurd all.1
  branched nodes ls branches a h (t ∷ u ∷ ts) all =
      let r = h (Splits a t u ∷ ts) ((all.0, all.1.0), all.1.1) in
      (r.0, r.1 ∙ simp append_assoc, r.2)

  leaf_closed : (nodes : List Node) (ls : List Literal) (branches : List (List Literal)) (n : Node) → closes lists pair ls n ≡ true → Begins nodes (ls ∷ branches) → Begins (nodes ++ n ∷ []) branches
  unfolding IsAccepted
  leaf_closed nodes ls branches (Split a) c h = cc
  leaf_closed nodes ls branches (Blocked policy) c h = closed nodes ls branches (IsBlocked policy) c h
  leaf_closed nodes ls branches Met c h = closed nodes ls branches IsMet c h

-- Branches

fresh_push : (before ls : List Literal) (l : Literal) → IsFresh before ls → decided (before ++ ls) l.atom ≡ None → IsFresh before (ls ++ l ∷ [])
fresh_push before [] l f e = (subst (λ (xs : List Literal). decided xs l.atom ≡ None) (append-nil before) e, tt)
fresh_push before (m ∷ ls) l f e =
    (f.0, fresh_push (before ++ m ∷ []) ls l f.1 (subst (λ (xs : List Literal). decided xs l.atom ≡ None) (sym (append_assoc before (m ∷ []) ls)) e))

pub root : (names asked : List Atom) → IsBranch names asked []
root names asked = record {
  fresh = tt;
  among = All-nil (λ (l : Literal). Contains asked l.atom);
  room = omega (arith, open_all names);
}

module _ (q : Question) (names : List Atom) where
  pub branch_with : (ls : List Literal) (name : ℕ) (sign : Bool) → IsBranch names (asked_atoms q) ls → IsOpenName q names ls name
      → IsBranch names (asked_atoms q) (with ls (atom_in names name) sign)
  branch_with ls name sign b o =
      let l = literal (atom_in names name) sign in
      record {
        fresh = fresh_push [] ls l b.fresh o.undecided;
        among = All-push (λ (m : Literal). Contains (asked_atoms q) m.atom) ls l b.among o.is.asked;
        room = omega (arith, b.room, open_fewer ls names name sign o.is.there o.undecided, length-append ls (l ∷ []));
      }

  -- where a name is open there is room for a literal
  pub has_room : (ls : List Literal) (name : ℕ) → IsBranch names (asked_atoms q) ls → IsOpenName q names ls name → length ls < length names
  has_room ls name b o = omega (arith, b.room, open_fewer ls names name true o.is.there o.undecided)

  -- What a search keeps

  abbrev pub AreBranches : List (List Literal) → Type 0
  AreBranches [] = Unit {0}
  AreBranches (ls ∷ branches) = IsBranch names (asked_atoms q) ls × AreBranches branches

  -- the nodes so far begin a tree, and are valid; each branch is one that splits led to
  pub record Keeps (nodes : List Node) (branches : List (List Literal)) : Type 0 where
    pub begins : Begins (lists_of q) (pair_of q) nodes branches
    pub valid : All IsValidNode nodes
    pub each : AreBranches branches

  pub keeps_start : Keeps [] ([] ∷ [])
  keeps_start = record { begins = begin (lists_of q) (pair_of q); valid = All-nil IsValidNode; each = (root names (asked_atoms q), tt) }

  pub keeps_leaf : (nodes later : List Node) (ls : List Literal) (branches : List (List Literal)) (n : Node)
      → Keeps nodes (ls ∷ branches) → IsLeaf (lists_of q) (pair_of q) ls n → later ≡ nodes ++ n ∷ [] → Keeps later branches
  keeps_leaf nodes later ls branches n k l e = record {
    begins = rw e (leaf_closed (lists_of q) (pair_of q) nodes ls branches n l.closed k.begins);
    valid = rw e (All-push IsValidNode nodes n k.valid l.valid);
    each = k.each.1;
  }

  pub keeps_split : (nodes later : List Node) (ls : List Literal) (branches : List (List Literal)) (name : ℕ)
      → Keeps nodes (ls ∷ branches) → IsOpenName q names ls name → IsValidAtom (atom_in names name) → later ≡ nodes ++ Split (atom_in names name) ∷ []
      → Keeps later (with ls (atom_in names name) true ∷ with ls (atom_in names name) false ∷ branches)
  keeps_split nodes later ls branches name k o valid e = record {
    begins = rw e (branched (lists_of q) (pair_of q) nodes ls branches (atom_in names name) k.begins);
    valid = rw e (All-push IsValidNode nodes (Split (atom_in names name)) k.valid valid);
    each = (branch_with ls name true k.each.0 o, (branch_with ls name false k.each.0 o, k.each.1));
  }

  pub ends : (nodes : List Node) → Keeps nodes [] → ShowsInclusion (lists_of q) (pair_of q) nodes
  unfolding Begins AllAccepted spelled
  ends nodes k =
      let r = k.begins [] tt in
      record { cases = r.0; preorder = r.1 ∙ append-nil nodes; valid = k.valid; accepted = accepted_good (lists_of q) (pair_of q) [] r.0 r.2 }
