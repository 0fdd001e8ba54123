-- A walker that takes literals on open names, and so stays on a branch.
use Rattle.std.proofs.Common.{◌≡◌, ◌≢◌, ◌∙◌, sym, ap, subst, ℕ, ◌+◌, ◌<◌, ◌≤◌, Bool, true, false, List, [], ◌∷◌, ◌++◌, length, take, get_or, Option, Some, None, All, arith}
use Rattle.std.specs.Prelude.{is_some}
use Rattle.std.proofs.lemmas.List.{length-take, take-append-le, take_all, take_more}
use Rattle.std.proofs.lemmas.List.Elements.{All-push, All-weaker}
use Rattle.csp_facts.specs.Follows.{decided}
use Rattle.csp_facts.specs.declared.atom.Atom.{Atom}
use Rattle.csp_facts.specs.declared.atom.Atom.TheVariants.{HostDomain}
use Rattle.csp_branch.specs.Groups.{atom_in}
use Rattle.csp_branch.specs.Paths.{Path, literal_in}
use Rattle.csp_branch.specs.Walks.{Position, at_root}
use Rattle.csp_search.specs.Asking.{AreAsked, IsAsked, IsName, IsOpenName, StandsOn}
use Rattle.csp_search.specs.Branches.{IsBranch}
use Rattle.csp_search.specs.Questions.{asked_atoms}
use Rattle.csp_search.specs.declared.named_question.NamedQuestion.{NamedQuestion}
use Rattle.csp_search.specs.declared.searching.Question.{Question}
use Rattle.csp_search.proofs.Opens.{still_known, taken_known}
use Rattle.csp_search.proofs.Trees.{branch_with, has_room}

-- what a branch answers of a name, told of the walker that stands there
pub known_there : (at : Position) (path : Path) (name : ℕ) (known : Option Bool) → path ≡ record { atoms = at.atoms; literals = at.literals }
    → ((d : Atom) → known ≡ decided path.literals (get_or path.atoms name d)) → known ≡ decided at.literals (atom_in at.atoms name)
known_there at path name known is says = says HostDomain ∙ ap (λ (p : Path). decided p.literals (atom_in p.atoms name)) is

-- the walker took a literal by the name
abbrev pub Took : Position → ℕ → Bool → Position → Type 0
Took at name positive later = later ≡ record at { literals = at.literals ++ literal_in at.atoms name positive ∷ [] }

pub some_known : (told known : Option Bool) → told ≡ known → is_some told ≡ true → known ≢ None
some_known (Some b) known same some = λ none. cc
some_known None known same some = cc

module _ (q : Question) (start at : Position) (same : at_root at ≡ at_root start) where
  atoms_same : at.atoms ≡ start.atoms
  atoms_same = ap (λ (p : Position). p.atoms) same

  module _ (name : ℕ) (branch : IsBranch at.atoms (asked_atoms q) at.literals) (is_open : IsOpenName q at.atoms at.literals name) where
    pub room_left : length start.atoms ≤ start.room → length at.literals < at.room
    room_left enough =
        let room : at.room ≡ start.room = ap (λ (p : Position). p.room) same in
        omega (arith, has_room q at.atoms at.literals name branch is_open, enough, ap length atoms_same, room)

    pub goes_on : (positive : Bool) (later : Position) → Took at name positive later → (at_root later ≡ at_root start) × IsBranch later.atoms (asked_atoms q) later.literals
    goes_on positive later took =
        (ap at_root took ∙ same, subst (λ (p : Position). IsBranch p.atoms (asked_atoms q) p.literals) (sym took) (branch_with q at.atoms at.literals name positive branch is_open))

-- what a walker keeps that goes on from its start by literals on names that are asked for
pub record GoesOn (asked : NamedQuestion) (start at : Position) : Type 0 where
  pub kept : at_root at ≡ at_root start
  pub stands : StandsOn asked at

-- it stands where it stood, at the root of the same names, on another branch
pub stands_there : (asked : NamedQuestion) (start at : Position) → StandsOn asked start → at_root at ≡ at_root start → IsBranch at.atoms (asked_atoms asked.question) at.literals → StandsOn asked at
stands_there asked start at stands same branch =
    let atoms : start.atoms ≡ at.atoms = ap (λ (p : Position). p.atoms) (sym same) in
    let room : at.room ≡ start.room = ap (λ (p : Position). p.room) same in
    record {
      asked = subst (IsAsked asked) atoms stands.asked;
      branch = branch;
      room = omega (arith, stands.room, ap length atoms, room);
    }

-- Denials of each open name that is asked for

abbrev IsKnown : Position → ℕ → Type 0
IsKnown at name = decided at.literals (atom_in at.atoms name) ≢ None

-- the walker went on from its start, and so many of the names are known
pub record Denies (q : Question) (asked : List ℕ) (start at : Position) (count : ℕ) : Type 0 where
  pub kept : at_root at ≡ at_root start
  pub longer : take (length start.literals) at.literals ≡ start.literals
  pub branch : IsBranch at.atoms (asked_atoms q) at.literals
  pub known : All (λ name. decided at.literals (atom_in at.atoms name) ≢ None) (take count asked)

module _ (q : Question) (asked : List ℕ) (start at : Position) (count : ℕ) (denies : Denies q asked start at count) where
  known_push : (later : Position) → All (IsKnown later) (take count asked) → count < length asked → IsKnown later (get_or asked count 0) → All (IsKnown later) (take (count + 1) asked)
  known_push later known within here =
      subst (All (IsKnown later)) (sym (take_more asked count 0 within)) (All-push (IsKnown later) (take count asked) (get_or asked count 0) known here)

  pub denies_known : count < length asked → IsKnown at (get_or asked count 0) → Denies q asked start at (count + 1)
  denies_known within here = record {
    kept = denies.kept;
    longer = denies.longer;
    branch = denies.branch;
    known = known_push at denies.known within here;
  }

  pub open_name : AreAsked q start.atoms asked → count < length asked → decided at.literals (atom_in at.atoms (get_or asked count 0)) ≡ None → IsOpenName q at.atoms at.literals (get_or asked count 0)
  open_name are within none =
      record { is = subst (λ (atoms : List Atom). IsName q atoms (get_or asked count 0)) (sym (atoms_same q start at denies.kept)) (are.each count 0 within); undecided = none }

  pub denies_open : count < length asked → IsOpenName q at.atoms at.literals (get_or asked count 0) → (later : Position) → Took at (get_or asked count 0) false later → Denies q asked start later (count + 1)
  denies_open within is_open later took =
      let name = get_or asked count 0 in
      let l = literal_in at.atoms name false in
      let on = goes_on q start at denies.kept name denies.branch is_open false later took in
      let long : length start.literals ≤ length at.literals = omega (arith, ap length denies.longer, length-take (length start.literals) at.literals) in
      let then_known = λ (n : ℕ) (known : IsKnown at n). subst (λ (p : Position). IsKnown p n) (sym took) (still_known at.literals l (atom_in at.atoms n) known) in
      record {
        kept = on.0;
        longer = ap (λ (p : Position). take (length start.literals) p.literals) took ∙ take-append-le (length start.literals) at.literals (l ∷ []) long ∙ denies.longer;
        branch = on.1;
        known = known_push later (All-weaker (IsKnown at) (IsKnown later) then_known (take count asked) denies.known) within
            (subst (λ (p : Position). IsKnown p name) (sym took) (taken_known at.literals (atom_in at.atoms name) false));
      }

  pub all_known : length asked ≤ count → All (λ name. decided at.literals (atom_in at.atoms name) ≢ None) asked
  all_known past = subst (All (IsKnown at)) (take_all count asked past) denies.known
