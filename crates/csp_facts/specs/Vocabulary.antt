-- The hashes that two lists of policies speak of, each once.
use Rattle.std.specs.Prelude.{not, List, [], ◌∷◌, ◌++◌, filter, Option, Some, None, Contains, ⊤}
use Rattle.std.specs.List.{filter_map, flat_map}
use Rattle.csp_model.specs.DecideEquality.{same_hash}
use Rattle.csp_model.specs.declared.policy.Directive.{Directive}
use Rattle.csp_model.specs.declared.policy.Policy.{Policy}
use Rattle.csp_model.specs.declared.policy.PolicyList.{PolicyList}
use Rattle.csp_model.specs.declared.source.Hash.{Hash}
use Rattle.csp_model.specs.declared.source.Source.{Source}
use Rattle.csp_model.specs.declared.source.Source.TheVariants as source
use Rattle.csp_facts.specs.declared.atom.Atom.{Atom}
use Rattle.csp_facts.specs.declared.atom.Atom.TheVariants.{IntegrityHas}

-- of a hash-source its hash
abbrev pub hash_of_source : Source → Option Hash
hash_of_source (source.Digest hash) = Some hash
hash_of_source other = None

-- the hash-sources of all directives of all policies, report-only ones too
abbrev pub hashes_of : PolicyList → List Hash
hashes_of list =
    flat_map (λ (p : Policy). flat_map (λ (d : Directive). filter_map hash_of_source d.sources) p.directives)
    list.policies

-- the first of each
abbrev pub distinct : List Hash → List Hash
distinct [] = []
distinct (h ∷ hs) = h ∷ filter (λ g. not (same_hash g h)) (distinct hs)

abbrev pub vocabulary_hashes : PolicyList → PolicyList → List Hash
vocabulary_hashes first second = distinct (hashes_of first ++ hashes_of second)

-- an atom on a pair of integrity metadata is on one of the vocabulary
abbrev pub IsOfVocabulary : List Hash → Atom → Type 0
IsOfVocabulary hashes (IntegrityHas hash) = Contains hashes hash
IsOfVocabulary hashes other = ⊤
