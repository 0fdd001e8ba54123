-- What the literals of a cell ask of the vocabulary, and of the ports that are left.
use Rattle.std.specs.Prelude.{ℕ, ◌*◌, ◌≤◌, Bool, false, not, List, length, filter, All}
use Rattle.csp_model.specs.Policies.{token_limit}
use Rattle.csp_model.specs.declared.source.Hash.{Hash}
use Rattle.csp_facts.specs.Vocabulary.{IsOfVocabulary}
use Rattle.csp_facts.specs.declared.atom.Atom.{Atom}
use Rattle.csp_facts.specs.declared.atom.Atom.TheVariants.{PortIs}
use Rattle.csp_facts.specs.declared.atom.Literal.{Literal}

-- the literal denies a port
abbrev pub denies_port_of : Atom → Bool → Bool
denies_port_of (PortIs n) positive = not positive
denies_port_of atom positive = false

abbrev pub denies_port : Literal → Bool
denies_port literal = denies_port_of literal.atom literal.positive

-- as many ports as two lists of policies can name
abbrev pub port_limit : ℕ
port_limit = 2 * token_limit

-- a port is left: no more are denied than two lists can name
abbrev pub LeavesPorts : List Literal → Type 0
LeavesPorts literals = length (filter denies_port literals) ≤ port_limit

-- each pair of integrity metadata that a literal speaks of is one of the vocabulary
abbrev pub AreOfVocabulary : List Hash → List Literal → Type 0
AreOfVocabulary hashes literals = All (λ (l : Literal). IsOfVocabulary hashes l.atom) literals
