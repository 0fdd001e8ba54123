-- What a walk of a tree keeps, from branch to branch.
use Rattle.std.proofs.Common.{◌≡◌, ◌∙◌, refl, ap, subst, sym, ℕ, ◌<◌, true, List, [], ◌∷◌, ◌++◌, All}
use Rattle.csp_facts.specs.Atoms.{IsValidAtom}
use Rattle.csp_facts.specs.declared.atom.Atom.{Atom}
use Rattle.csp_facts.specs.declared.atom.Atom.TheVariants.{HostDomain}
use Rattle.csp_facts.specs.declared.atom.Literal.{Literal}
use Rattle.csp_branch.specs.Groups.{atom_in}
use Rattle.csp_branch.specs.Walks.{Position, at_root, pending, with}
use Rattle.csp_branch.proofs.Pending.{taken_true}
use Rattle.csp_proof.specs.declared.proof.Node.{Node}
use Rattle.csp_proof.specs.declared.proof.Node.TheVariants.{Split}
use Rattle.csp_search.specs.Answers.{ShowsInclusion}
use Rattle.csp_search.specs.Asking.{IsOpenName}
use Rattle.csp_search.specs.Leaves.{IsLeaf}
use Rattle.csp_search.specs.Questions.{lists_of, pair_of}
use Rattle.csp_search.specs.declared.searching.Question.{Question}
use Rattle.csp_search.proofs.Going.{Took}
use Rattle.csp_search.proofs.Opens.{less_leaf, less_split, work}
use Rattle.csp_search.proofs.Trees.{Keeps, ends, keeps_leaf, keeps_split, keeps_start}

-- the branches that are left: that where the walker stands, and those that wait
abbrev pub left : Position → List (List Literal)
left at = at.literals ∷ pending [] at.literals

abbrev pub work_left : Position → ℕ
work_left at = work at.atoms (left at)

pub record Walks (q : Question) (start at : Position) (nodes : List Node) : Type 0 where
  pub kept : at_root at ≡ at_root start
  pub keeps : Keeps q at.atoms nodes (left at)

pub walks_start : (q : Question) (start : Position) (nodes : List Node) → start.literals ≡ [] → nodes ≡ [] → Walks q start start nodes
walks_start q start nodes root none = record {
  kept = refl;
  keeps = rw (root, none) (keeps_start q start.atoms);
}

-- the walker went on to the next branch
module _ (at later : Position) (kept : at_root later ≡ at_root at) where
  atoms_same : later.atoms ≡ at.atoms
  atoms_same = ap (λ (p : Position). p.atoms) kept

  pub less_closed : left later ≡ pending [] at.literals → work_left later < work_left at
  less_closed next =
      subst (λ (atoms : List Atom). work atoms (left later) < work_left at) (sym atoms_same)
      (subst (λ (branches : List (List Literal)). work at.atoms branches < work_left at) (sym next) (less_leaf at.atoms at.literals (pending [] at.literals)))

-- the walker took the name of a split
pub less_taken : (q : Question) (at later : Position) (name : ℕ) → IsOpenName q at.atoms at.literals name → Took at name true later → work_left later < work_left at
less_taken q at later name is took =
    let a = atom_in at.atoms name in
    subst (λ (p : Position). work_left p < work_left at) (sym took)
    (subst (λ (branches : List (List Literal)). work at.atoms (with at.literals a true ∷ branches) < work_left at) (sym (taken_true at.literals a))
    (less_split at.atoms at.literals (pending [] at.literals) name is.is.there is.undecided))

module _ (q : Question) (start at : Position) (nodes later_nodes : List Node) (walks : Walks q start at nodes) where
  module _ (leaf : Node) (is : IsLeaf (lists_of q) (pair_of q) at.literals leaf) (pushed : later_nodes ≡ nodes ++ leaf ∷ []) where
    ended : Keeps q at.atoms later_nodes (pending [] at.literals)
    ended = keeps_leaf q at.atoms nodes later_nodes at.literals (pending [] at.literals) leaf walks.keeps is pushed

    pub walks_end : pending [] at.literals ≡ [] → ShowsInclusion (lists_of q) (pair_of q) later_nodes
    walks_end last = ends q at.atoms later_nodes (subst (Keeps q at.atoms later_nodes) last ended)

    pub walks_closed : (later : Position) → at_root later ≡ at_root at → left later ≡ pending [] at.literals → Walks q start later later_nodes
    walks_closed later kept next = record {
      kept = kept ∙ walks.kept;
      keeps = subst (λ (atoms : List Atom). Keeps q atoms later_nodes (left later)) (sym (atoms_same at later kept)) (subst (Keeps q at.atoms later_nodes) (sym next) ended);
    }

  pub walks_split : (name : ℕ) (later : Position) → IsOpenName q at.atoms at.literals name → Took at name true later → All IsValidAtom at.atoms
      → later_nodes ≡ nodes ++ Split (atom_in at.atoms name) ∷ [] → Walks q start later later_nodes
  walks_split name later is took valid pushed = record {
    kept = ap at_root took ∙ walks.kept;
    keeps = rw (took, taken_true at.literals (atom_in at.atoms name))
        (keeps_split q at.atoms nodes later_nodes at.literals (pending [] at.literals) name walks.keeps is (valid name HostDomain is.is.there) pushed);
  }
