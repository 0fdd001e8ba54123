-- The names of an answer: the atoms that it speaks of are theirs, and they are there.
use Rattle.std.proofs.Common.{◌≡◌, ◌∙◌, sym, ap, ap₂, refl, ℕ, ◌<◌, List, [], ◌∷◌, ◌++◌, map, Option, Some, None, All, IfSome}
use Rattle.std.specs.List.{flat_map}
use Rattle.std.specs.Option.{option_to_list}
use Rattle.std.proofs.lemmas.List.{append-nil, map-append}
use Rattle.std.proofs.lemmas.List.Elements.{All-append, All-cons, All-head, All-nil, All-tail}
use Rattle.csp_facts.specs.declared.atom.Atom.{Atom}
use Rattle.csp_branch.specs.Groups.{atom_in}
use Rattle.csp_formula.specs.Sentences.{all_of, any_of}
use Rattle.csp_formula.specs.Values.{atoms_in}
use Rattle.csp_answer.specs.Answers.{AreThere, IsAnswer, IsIntegrityThere, IsThere, denial_in, disjunction_in, fact_in, integrity_in, name_in, names_in, names_of, rule_names, sentence_in}
use Rattle.csp_answer.specs.declared.answer.ShapeAnswer.{ShapeAnswer}
use Rattle.csp_answer.specs.declared.answer.Integrity.{Integrity}
use Rattle.csp_answer.specs.declared.conjunction.Conjunction.{Conjunction}

module _ (atoms : List Atom) where
  parts_speak : (lead port path : Option ℕ) → atoms_in (all_of (fact_in atoms lead ∷ fact_in atoms port ∷ fact_in atoms path ∷ []))
      ≡ map (atom_in atoms) (option_to_list lead ++ option_to_list port ++ option_to_list path)
  parts_speak None None None = refl
  parts_speak None None (Some q) = refl
  parts_speak None (Some p) None = refl
  parts_speak None (Some p) (Some q) = refl
  parts_speak (Some n) None None = refl
  parts_speak (Some n) None (Some q) = refl
  parts_speak (Some n) (Some p) None = refl
  parts_speak (Some n) (Some p) (Some q) = refl

  disjunction_speaks : (cs : List Conjunction) → atoms_in (disjunction_in atoms cs) ≡ map (atom_in atoms) (flat_map names_in cs)
  disjunction_speaks [] = refl
  disjunction_speaks (c ∷ cs) =
      ap₂ (λ (xs ys : List Atom). xs ++ ys) (parts_speak c.lead c.port c.path) (disjunction_speaks cs)
      ∙ sym (map-append (atom_in atoms) (names_in c) (flat_map names_in cs))

  own_speak : (own : List ℕ) → atoms_in (any_of (map (name_in atoms) own)) ≡ map (atom_in atoms) own
  own_speak [] = refl
  own_speak (n ∷ own) = ap (λ (xs : List Atom). atom_in atoms n ∷ xs) (own_speak own)

  others_speak : (others own : List ℕ) → atoms_in (all_of (map (denial_in atoms) others ++ any_of (map (name_in atoms) own) ∷ []))
      ≡ map (atom_in atoms) (others ++ own)
  others_speak [] own = append-nil (atoms_in (any_of (map (name_in atoms) own))) ∙ own_speak own
  others_speak (n ∷ others) own = ap (λ (xs : List Atom). atom_in atoms n ∷ xs) (others_speak others own)

  rule_speaks : (rule : Option Integrity) → atoms_in (integrity_in atoms rule) ≡ map (atom_in atoms) (rule_names rule)
  rule_speaks None = refl
  rule_speaks (Some i) = ap (λ (xs : List Atom). atom_in atoms i.outside ∷ xs) (others_speak i.others.items i.own.items)

  pub answer_speaks : (answer : ShapeAnswer) → atoms_in (sentence_in atoms answer) ≡ map (atom_in atoms) (names_of answer)
  answer_speaks answer =
      ap₂ (λ (xs ys : List Atom). xs ++ ys) (disjunction_speaks answer.conjunctions.items) (rule_speaks answer.integrity)
      ∙ sym (map-append (atom_in atoms) (flat_map names_in answer.conjunctions.items) (rule_names answer.integrity))

module _ (count : ℕ) where
  abbrev IsBelow : ℕ → Type 0
  IsBelow name = name < count

  one_there : (name : Option ℕ) → IsThere count name → All IsBelow (option_to_list name)
  one_there None there = All-nil IsBelow
  one_there (Some n) there = All-cons IsBelow n [] there (All-nil IsBelow)

  parts_there : (c : Conjunction) → AreThere count c → All IsBelow (names_in c)
  parts_there c there =
      All-append IsBelow (option_to_list c.lead ++ option_to_list c.port) (option_to_list c.path)
      (All-append IsBelow (option_to_list c.lead) (option_to_list c.port) (one_there c.lead there.lead) (one_there c.port there.port))
      (one_there c.path there.path)

  each_there : (cs : List Conjunction) → All (AreThere count) cs → All IsBelow (flat_map names_in cs)
  each_there [] all = All-nil IsBelow
  each_there (c ∷ cs) all =
      All-append IsBelow (names_in c) (flat_map names_in cs) (parts_there c (All-head (AreThere count) c cs all)) (each_there cs (All-tail (AreThere count) c cs all))

  rule_there : (rule : Option Integrity) → IfSome rule (IsIntegrityThere count) → All IsBelow (rule_names rule)
  rule_there None there = All-nil IsBelow
  rule_there (Some i) there =
      All-cons IsBelow i.outside (i.others.items ++ i.own.items) there.outside (All-append IsBelow i.others.items i.own.items there.others there.own)

  pub answer_there : (answer : ShapeAnswer) → IsAnswer count answer → All IsBelow (names_of answer)
  answer_there answer is =
      All-append IsBelow (flat_map names_in answer.conjunctions.items) (rule_names answer.integrity) (each_there answer.conjunctions.items is.there)
      (rule_there answer.integrity is.integrity)
