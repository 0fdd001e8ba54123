-- What answers say, as sentences over the atoms of their names.
use Rattle.std.specs.Prelude.{◌≡◌, ℕ, ◌+◌, ◌<◌, ◌≤◌, true, false, List, [], ◌∷◌, ◌++◌, map, length, Option, Some, None, All, Contains, IfSome}
use Rattle.std.specs.List.{flat_map, slice_index_or}
use Rattle.std.specs.Option.{option_to_list}
use Rattle.csp_facts.specs.declared.atom.Atom.{Atom}
use Rattle.csp_facts.specs.declared.atom.Literal.{Literal}
use Rattle.csp_branch.specs.Groups.{atom_in}
use Rattle.csp_formula.specs.Sentences.{Sentence, Known, Fact, Not, Either, all_of, any_of}
use Rattle.csp_formula.specs.Surely.{surely}
use Rattle.csp_formula.specs.Values.{atoms_in}
use Rattle.csp_answer.specs.declared.answer.ShapeAnswer.{ShapeAnswer}
use Rattle.csp_answer.specs.declared.answer.Integrity.{Integrity}
use Rattle.csp_answer.specs.declared.conjunction.Conjunction.{Conjunction}

-- the atom of a name; of no name nothing is asked
abbrev pub fact_in : List Atom → Option ℕ → Sentence
fact_in atoms (Some name) = Fact (atom_in atoms name)
fact_in atoms None = Known true

abbrev pub conjunction_in : List Atom → Conjunction → Sentence
conjunction_in atoms c = all_of (fact_in atoms c.lead ∷ fact_in atoms c.port ∷ fact_in atoms c.path ∷ [])

abbrev pub disjunction_in : List Atom → List Conjunction → Sentence
disjunction_in atoms conjunctions = any_of (map (conjunction_in atoms) conjunctions)

abbrev pub name_in : List Atom → ℕ → Sentence
name_in atoms name = Fact (atom_in atoms name)

abbrev pub denial_in : List Atom → ℕ → Sentence
denial_in atoms name = Not (name_in atoms name)

-- no pair but own ones, and one of these
abbrev pub rule_in : List Atom → Integrity → List ℕ → Sentence
rule_in atoms i own = all_of (denial_in atoms i.outside
    ∷ (map (denial_in atoms) i.others.items ++ any_of (map (name_in atoms) own) ∷ []))

abbrev pub integrity_in : List Atom → Option Integrity → Sentence
integrity_in atoms None = Known false
integrity_in atoms (Some i) = rule_in atoms i i.own.items

abbrev pub answer_in : List Atom → List Conjunction → Option Integrity → Sentence
answer_in atoms conjunctions integrity =
    Either (disjunction_in atoms conjunctions) (integrity_in atoms integrity)

abbrev pub sentence_in : List Atom → ShapeAnswer → Sentence
sentence_in atoms answer = answer_in atoms answer.conjunctions.items answer.integrity

-- whatever literals there are, they decide the same of both
abbrev pub SaysTheSame : Sentence → Sentence → Type 0
SaysTheSame one other = (literals : List Literal) → surely literals one ≡ surely literals other

-- each atom of the one stands in the other
abbrev pub IsAmong : Sentence → Sentence → Type 0
IsAmong one other = (atom : Atom) → Contains (atoms_in one) atom → Contains (atoms_in other) atom

-- the names of a conjunction, each where it stands: of what leads it, of the port and of the path
abbrev pub names_in : Conjunction → List ℕ
names_in c = option_to_list c.lead ++ option_to_list c.port ++ option_to_list c.path

-- those of the rule on integrity metadata, where there is one
abbrev pub rule_names : Option Integrity → List ℕ
rule_names None = []
rule_names (Some i) = i.outside ∷ (i.others.items ++ i.own.items)

-- those of an answer: those of its conjunctions in order, and then those of the rule
abbrev pub names_of : ShapeAnswer → List ℕ
names_of answer = flat_map names_in answer.conjunctions.items ++ rule_names answer.integrity

-- the names are there
abbrev pub IsThere : ℕ → Option ℕ → Type 0
IsThere count asked = IfSome asked (λ name. name < count)

pub record AreThere (count : ℕ) (c : Conjunction) : Type 0 where
  pub lead : IsThere count c.lead
  pub port : IsThere count c.port
  pub path : IsThere count c.path

pub record IsIntegrityThere (count : ℕ) (i : Integrity) : Type 0 where
  pub outside : i.outside < count
  pub others : All (λ name. name < count) i.others.items
  pub own : All (λ name. name < count) i.own.items

-- those without a name of a host or of a word come first
abbrev pub key_of : Option ℕ → ℕ
key_of None = 0
key_of (Some name) = name + 1

abbrev pub lead_key : Conjunction → ℕ
lead_key c = key_of c.lead

abbrev pub Rise : List Conjunction → Type 0
Rise conjunctions = (i j : ℕ) (d : Conjunction) → i < j → j < length conjunctions
    → lead_key (slice_index_or conjunctions i d) ≤ lead_key (slice_index_or conjunctions j d)

-- an answer by so many names
pub record IsAnswer (count : ℕ) (answer : ShapeAnswer) : Type 0 where
  pub there : All (AreThere count) answer.conjunctions.items
  pub integrity : IfSome answer.integrity (IsIntegrityThere count)
  pub rise : Rise answer.conjunctions.items
