-- The atoms that a question asks for are on parts that its shape looks at, and of the vocabulary.
use Rattle.std.proofs.Common.{sym, subst, List, ◌++◌, get_or, map, All, Contains}
use Rattle.std.proofs.lemmas.List.Elements.{All-append, All-contains, All-map, All-weaker, Contains-append_left, Contains-append_right}
use Rattle.csp_model.specs.Policies.{IsReadable, IsReadablePolicy}
use Rattle.csp_model.specs.declared.policy.Policy.{Policy}
use Rattle.csp_model.specs.declared.policy.PolicyList.{PolicyList}
use Rattle.csp_model.specs.declared.source.Hash.{Hash}
use Rattle.csp_facts.specs.Atoms.{BelongsTo}
use Rattle.csp_facts.specs.Vocabulary.{hashes_of, IsOfVocabulary}
use Rattle.csp_facts.specs.declared.atom.Atom.{Atom}
use Rattle.csp_facts.specs.declared.atom.Literal.{Literal}
use Rattle.csp_facts.proofs.VocabularyDistinct.{Contains-distinct}
use Rattle.csp_facts.specs.Shapes.{looks_at}
use Rattle.csp_facts.specs.declared.shape.Shape.{Shape}
use Rattle.csp_formula.specs.Belonging.{IsAtomAt}
use Rattle.csp_formula.specs.Compiled.{HasHashesOf, policy_sentence}
use Rattle.csp_formula.specs.Sentences.{Sentence}
use Rattle.csp_formula.specs.Values.{atoms_in}
use Rattle.csp_cell.specs.Cells.{Region}
use Rattle.csp_pick.specs.Picks.{AreOfVocabulary}
use Rattle.csp_proof.proofs.ReadableSaid.{listed}
use Rattle.csp_search.specs.Branches.{IsBranch, IsCellOf}
use Rattle.csp_search.specs.Questions.{IsPosed, asked_atoms, atoms_of}
use Rattle.csp_search.specs.declared.searching.Question.{Question}
use Rattle.csp_search.proofs.Lists.{all_flat_map}

-- what is proved of the atoms of a policy's sentence
abbrev pub AtomsAreOfShape : Type 0
AtomsAreOfShape = (policy : Policy) (kind : Shape) (hashes : List Hash) → IsReadablePolicy policy → HasHashesOf hashes policy
    → All (IsAtomAt kind hashes) (atoms_in (policy_sentence policy kind hashes))

list_within : AtomsAreOfShape → (kind : Shape) (hashes : List Hash) (list : PolicyList) → IsReadable list → ((h : Hash) → Contains (hashes_of list) h → Contains hashes h)
    → All (IsAtomAt kind hashes) (atoms_of hashes kind list)
list_within law kind hashes list readable among =
    let says = λ (p : Policy). policy_sentence p kind hashes in
    all_flat_map (IsAtomAt kind hashes) atoms_in (map says list.policies)
    (All-map (λ (s : Sentence). All (IsAtomAt kind hashes) (atoms_in s)) says list.policies
    (λ k d within. law (get_or list.policies k d) kind hashes (readable.each k d within) (listed hashes list among k d within)))

abbrev pub IsAtomOf : Question → Atom → Type 0
IsAtomOf q = IsAtomAt q.shape q.lists.now.vocabulary.hashes

pub atoms_asked : AtomsAreOfShape → (q : Question) (names : List Atom) → IsPosed q names → All (IsAtomOf q) (asked_atoms q)
atoms_asked law q names posed =
    let first = q.lists.now.first.now in
    let second = q.lists.now.second.now in
    let hashes = q.lists.now.vocabulary.hashes in
    let joined = hashes_of first ++ hashes_of second in
    let among : (h : Hash) → Contains joined h → Contains hashes h =
    λ h has. subst (λ (hs : List Hash). Contains hs h) (sym posed.lists.hashes) ((Contains-distinct joined h).1 has) in
    All-append (IsAtomOf q) (atoms_of hashes q.shape first) (atoms_of hashes q.shape second)
    (list_within law q.shape hashes first posed.lists.first (λ h has. among h (Contains-append_left (hashes_of first) (hashes_of second) h has)))
    (list_within law q.shape hashes second posed.lists.second (λ h has. among h (Contains-append_right (hashes_of first) (hashes_of second) h has)))

-- The literals of a branch and of its cell

module _ (q : Question) (names : List Atom) (ls : List Literal) (branch : IsBranch names (asked_atoms q) ls) where
  abbrev IsAsked : Literal → Type 0
  IsAsked l = Contains (asked_atoms q) l.atom

  pub branch_belongs : All (IsAtomOf q) (asked_atoms q) → All (λ (l : Literal). BelongsTo (looks_at q.shape) l.atom) ls
  branch_belongs each =
      All-weaker IsAsked (λ (l : Literal). BelongsTo (looks_at q.shape) l.atom)
      (λ l has. (All-contains (IsAtomOf q) (asked_atoms q) l.atom each has).belongs) ls branch.among

  module _ (cell : Region) (is : IsCellOf q.shape ls cell) where
    pub cell_among : All (λ (l : Literal). Contains (asked_atoms q) l.atom) cell.literals
    cell_among = All-weaker (Contains ls) IsAsked (λ l has. All-contains IsAsked ls l branch.among has) cell.literals is.each

    pub cell_known : All (IsAtomOf q) (asked_atoms q) → AreOfVocabulary q.lists.now.vocabulary.hashes cell.literals
    cell_known each =
        All-weaker IsAsked (λ (l : Literal). IsOfVocabulary q.lists.now.vocabulary.hashes l.atom)
        (λ l has. (All-contains (IsAtomOf q) (asked_atoms q) l.atom each has).known) cell.literals cell_among
