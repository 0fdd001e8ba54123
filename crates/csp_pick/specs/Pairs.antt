-- What literals say of integrity metadata.
use Rattle.std.specs.Prelude.{◌&&◌, Bool, true, false, List, Option, Some, None, if◌then◌else◌}
use Rattle.std.specs.List.{filter_map}
use Rattle.csp_model.specs.declared.source.Hash.{Hash}
use Rattle.csp_facts.specs.declared.atom.Atom.{Atom}
use Rattle.csp_facts.specs.declared.atom.Atom.TheVariants.{IntegrityHas, IntegrityOutside}
use Rattle.csp_facts.specs.declared.atom.Literal.{Literal}

abbrev pub hash_of : Atom → Option Hash
hash_of (IntegrityHas hash) = Some hash
hash_of other = None

-- the pair that the literal says is among them
abbrev pub pair_of : Literal → Option Hash
pair_of literal = if literal.positive then hash_of literal.atom else None

abbrev pub pairs_in : List Literal → List Hash
pairs_in literals = filter_map pair_of literals

abbrev pub is_outside : Atom → Bool
is_outside IntegrityOutside = true
is_outside other = false

-- the literal says that a pair is outside of the vocabulary
abbrev pub says_outside : Literal → Bool
says_outside literal = literal.positive && is_outside literal.atom
