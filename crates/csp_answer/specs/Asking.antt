-- What the parts of an answer to a question say.
use Rattle.std.specs.Prelude.{◌≡◌, ⊤, ℕ, ◌==◌, not, true, false, List, filter, length, Option, Some, None, All, IfSome, Contains, slice_get}
use Rattle.std.specs.List.{AllZip, filter_map, list_any, zip}
use Rattle.std.specs.Option.{option_map}
use Rattle.csp_model.specs.declared.policy.Directive.{Directive}
use Rattle.csp_model.specs.declared.source.Source.{Source}
use Rattle.csp_model.specs.declared.source.Source.TheVariants as source
use Rattle.csp_facts.specs.declared.atom.Atom.{Atom}
use Rattle.csp_facts.specs.declared.atom.Atom.TheVariants.{PortIs}
use Rattle.csp_formula.specs.Compiled.{digests_sentence, nonces_sentence, pairs_sentence}
use Rattle.csp_formula.specs.Sentences.{Sentence, Known}
use Rattle.csp_formula.specs.declared.outline.PathOutline.{PathOutline}
use Rattle.csp_formula.specs.declared.outline.PathOutline.TheVariants as path
use Rattle.csp_formula.specs.declared.outline.PortOutline.{PortOutline}
use Rattle.csp_formula.specs.declared.outline.PortOutline.TheVariants as port
use Rattle.csp_answer.specs.Answers.{AreThere, IsAmong, IsThere, SaysTheSame, disjunction_in, fact_in}
use Rattle.csp_answer.specs.Naming.{HasPorts, IsSourceNamed}
use Rattle.csp_answer.specs.declared.conjunction.Conjunction.{Conjunction}
use Rattle.csp_answer.specs.declared.listed.NamedList.{NamedList}
use Rattle.csp_answer.specs.declared.naming.NamedPolicy.{NamedPolicy}
use Rattle.csp_answer.specs.declared.naming.SourceNames.{SourceNames}
use Rattle.csp_answer.specs.declared.words.WordKind.{WordKind}
use Rattle.csp_answer.specs.declared.words.WordKind.TheVariants as word

-- Named lists

pub record IsListNamed (atoms : List Atom) (list : NamedList) : Type 0 where
  pub sources : AllZip (IsSourceNamed atoms list.origin.now) list.sources.now list.names.now
  pub ports : HasPorts atoms list.origin.now

-- the list is that of the directive at the place
pub record IsListAt (atoms : List Atom) (p : NamedPolicy) (place : ℕ) (list : NamedList) : Type 0 where
  pub at : option_map (λ (d : Directive). d.sources) (slice_get p.policy.now.directives place)
      ≡ Some list.sources.now
  pub origin : list.origin.now ≡ p.policy.now.origin
  pub named : IsListNamed atoms list

-- Conjunctions

-- one of the conjunctions holds where the sentence does, they speak of no other atoms, and their names are
-- there
pub record AmountTo (atoms : List Atom) (sentence : Sentence) (conjunctions : List Conjunction) : Type 0 where
  pub says : SaysTheSame (disjunction_in atoms conjunctions) sentence
  pub among : IsAmong (disjunction_in atoms conjunctions) sentence
  pub there : All (AreThere (length atoms)) conjunctions

-- what is asked of a part of a check: None where the part never holds, and Some None where nothing is asked
abbrev pub asked_in : List Atom → Option (Option ℕ) → Sentence
asked_in atoms None = Known false
asked_in atoms (Some name) = fact_in atoms name

-- this is what the sentence asks for, by names that are there
pub record IsAsked (atoms : List Atom) (sentence : Sentence) (asked : Option (Option ℕ)) : Type 0 where
  pub says : asked_in atoms asked ≡ sentence
  pub there : IfSome asked (IsThere (length atoms))

abbrev pub path_asked : PathOutline → Option ℕ → Option (Option ℕ)
path_asked (path.Constant true) name = Some None
path_asked (path.Constant false) name = None
path_asked path.Itself name = Some name

-- the port that is asked for has a name
abbrev pub IsPortNamed : List Atom → PortOutline → Type 0
IsPortNamed atoms (port.Constant known) = ⊤
IsPortNamed atoms (port.Is n) = Contains atoms (PortIs n)

-- the conjunction of what is asked of the parts, if all of them can hold
abbrev pub conjunction_of : Option ℕ → Option (Option ℕ) → Option (Option ℕ) → Option Conjunction
conjunction_of (Some lead) (Some port) (Some path) =
    Some (record { lead = Some lead; port = port; path = path })
conjunction_of lead port path = None

-- Words

-- the name of the word of a source: of its nonce, its pair of integrity metadata or its digest
abbrev pub word_name : WordKind → Source → SourceNames → Option ℕ
word_name word.Nonce (source.Nonce value) names = names.lead
word_name word.Pair (source.Digest hash) names = names.lead
word_name word.Digest (source.Digest hash) names = names.rest
word_name which s names = None

abbrev pub word_names : WordKind → List Source → List SourceNames → List ℕ
word_names which sources names =
    filter_map (λ (p : Source × SourceNames). word_name which p.0 p.1) (zip sources names)

-- one of these is there
abbrev pub word_sentence : WordKind → List Source → Sentence
word_sentence word.Nonce sources = nonces_sentence sources
word_sentence word.Pair sources = pairs_sentence sources
word_sentence word.Digest sources = digests_sentence sources

-- the names that aren't among others
abbrev pub names_but : List ℕ → List ℕ → List ℕ
names_but names others = filter (λ n. not (list_any (λ m. n == m) others)) names
