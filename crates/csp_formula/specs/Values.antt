-- The atoms that stand in a sentence, and its value on a check.
use Rattle.std.specs.Prelude.{Bool, not, ◌&&◌, ◌||◌, List, [], ◌∷◌, ◌++◌, All, IsTrue}
use Rattle.csp_facts.specs.Holding.{holds, is_true_of}
use Rattle.csp_facts.specs.declared.atom.Atom.{Atom}
use Rattle.csp_facts.specs.declared.atom.Literal.{Literal}
use Rattle.csp_model.specs.declared.check.Check.{Check}
use Rattle.csp_model.specs.declared.source.Hash.{Hash}
use Rattle.csp_formula.specs.Sentences.{Sentence, Known, Fact, Not, Both, Either}

abbrev pub atoms_in : Sentence → List Atom
atoms_in (Known b) = []
atoms_in (Fact atom) = atom ∷ []
atoms_in (Not x) = atoms_in x
atoms_in (Both x y) = atoms_in x ++ atoms_in y
atoms_in (Either x y) = atoms_in x ++ atoms_in y

-- the sentence is true of the check, where the vocabulary has these hashes
abbrev pub is_true_for : List Hash → Check → Sentence → Bool
is_true_for hashes asked (Known b) = b
is_true_for hashes asked (Fact atom) = holds hashes asked atom
is_true_for hashes asked (Not x) = not (is_true_for hashes asked x)
is_true_for hashes asked (Both x y) = is_true_for hashes asked x && is_true_for hashes asked y
is_true_for hashes asked (Either x y) = is_true_for hashes asked x || is_true_for hashes asked y

-- each of the literals is true of the check
abbrev pub AreTrueOf : List Hash → Check → List Literal → Type 0
AreTrueOf hashes asked literals = All (λ l. IsTrue (is_true_of hashes asked l)) literals
