-- At two shapes of one kind the same nodes show the pairs of both.
use Rattle.std.proofs.Common.{arith, ◌≡◌, ◌∙◌, sym, ap, subst, refl, ℕ, ◌+◌, Bool, true, false, ◌&&◌, List, [], ◌∷◌, ◌++◌, length, map, inl, inr}
use Rattle.std.specs.Prelude.{Option, Some, None, MatchOption, IsTrue, slice_get}
use Rattle.std.specs.List.{AllZip}
use Rattle.std.specs.Option.{option_map}
use Rattle.std.proofs.lemmas.Option.{same_Some, slice_get-map, slice_get_cases, slice_get_within}
use Rattle.csp_model.specs.Verdict.{is_enforce}
use Rattle.csp_model.specs.declared.policy.Policy.{Policy}
use Rattle.csp_model.specs.declared.source.Hash.{Hash}
use Rattle.csp_branch.specs.Walks.{Position}
use Rattle.csp_facts.specs.declared.atom.Atom.{Atom}
use Rattle.csp_facts.specs.declared.atom.Literal.{Literal}
use Rattle.csp_facts.specs.Numbers.{number}
use Rattle.csp_facts.specs.Shapes.{is_shape}
use Rattle.csp_facts.specs.declared.shape.Shape.{Shape}
use Rattle.csp_formula.specs.Compiled.{policy_sentence}
use Rattle.csp_formula.specs.Surely.{surely}
use Rattle.csp_answer.specs.Answers.{SaysTheSame, sentence_in}
use Rattle.csp_answer.specs.Tables.{AreAnswers, Says, answer_at}
use Rattle.csp_answer.specs.declared.answer.ShapeAnswer.{ShapeAnswer}
use Rattle.csp_answer.specs.declared.policy.PolicyAnswers.{PolicyAnswers}
use Rattle.csp_proof.specs.Accepts.{Lists, at_line, bad_case, bad_shared, bad_tree, cases_in, first_of, hashes_in, is_surely, literal, policy_is, unless}
use Rattle.csp_proof.specs.WellFormed.{Cases, Splits, IsBlocked, IsMet, preorder, body_at}
use Rattle.csp_proof.specs.declared.proof.Body.{Body}
use Rattle.csp_proof.specs.declared.proof.Body.TheVariants as body
use Rattle.csp_proof.specs.declared.proof.Tree.{Tree}
use Rattle.csp_compare.specs.Differences.{IsIncludedAt}
use Rattle.csp_compare.specs.Drafts.{IsShown, at_shape}
use Rattle.csp_compare.specs.Comparisons.{AreShown, IsOfKind, IsReady, lists_of}
use Rattle.csp_compare.specs.declared.comparison.Comparison.{Comparison}

-- One policy

held : {B : Type 0} (P : B → Type 0) (o : Option B) → MatchOption o ⊥ P → (y : B) × (o ≡ Some y) × P y
held P None has = absurd has
held P (Some y) has = (y, refl, has)

-- whatever literals there are, they decide the same of each of these policies at both shapes
abbrev AreToldTheSame : List Hash → Shape → Shape → List Policy → Type 0
AreToldTheSame hashes one other policies = (expected : Bool) (ls : List Literal) (n : ℕ)
    → policy_is expected hashes one ls (slice_get policies n) ≡ policy_is expected hashes other ls (slice_get policies n)

module _ (names : List Atom) (hashes : List Hash) (policies : List Policy) (each : List PolicyAnswers) (are : AreAnswers names hashes policies each) (one other : Shape)
    (one_listed : IsTrue (is_shape one)) (other_listed : IsTrue (is_shape other)) (same : map (answer_at (number one)) each ≡ map (answer_at (number other)) each) where
  says_same : (n : ℕ) (policy : Policy) (answers : PolicyAnswers) → slice_get policies n ≡ Some policy → slice_get each n ≡ Some answers
      → SaysTheSame (policy_sentence policy one hashes) (policy_sentence policy other hashes)
  says_same n policy answers at own ls =
      let here = held (Says names (policy_sentence policy one hashes)) (answer_at (number one) answers) (are.each n policy answers at own one one_listed) in
      let there = held (Says names (policy_sentence policy other hashes)) (answer_at (number other) answers) (are.each n policy answers at own other other_listed) in
      let lists = ap (λ (os : List (Option ShapeAnswer)). slice_get os n) same in
      let options = ap (option_map (answer_at (number one))) (sym own) ∙ sym (slice_get-map (answer_at (number one)) each n) ∙ lists
      ∙ slice_get-map (answer_at (number other)) each n ∙ ap (option_map (answer_at (number other))) own in
      let answer : here.0 ≡ there.0 = same_Some here.0 there.0 (sym here.1 ∙ same_Some _ _ options ∙ there.1) in
      sym (here.2.says ls) ∙ ap (λ (a : ShapeAnswer). surely ls (sentence_in names a)) answer ∙ there.2.says ls

  told_same : AreToldTheSame hashes one other policies
  told_same expected ls n = by (slice_get policies n) refl where
    by : (o : Option Policy) → slice_get policies n ≡ o → policy_is expected hashes one ls o ≡ policy_is expected hashes other ls o
    by None at = refl
    by (Some policy) at = elim (slice_get_cases each n).1 [
      | inl own ↦ ap (λ (o : Option Bool). is_enforce policy.disposition && is_surely expected o) (says_same n policy own.0 at own.2 ls)
      | inr past ↦ absurd (let inside = slice_get_within policies n policy at in omega (arith, inside, are.long, past.0))
    ]

-- Nodes

module _ (lists : Lists) (kind other : Shape) (policy : ℕ)
    (by_first : AreToldTheSame (hashes_in lists) kind other lists.first.policies)
    (by_second : AreToldTheSame (hashes_in lists) kind other lists.second.policies) where
  case_same : (cases : Cases) (literals : List Literal) (line : ℕ) → bad_case lists (at_shape kind policy) literals line cases ≡ bad_case lists (at_shape other policy) literals line cases
  case_same (IsBlocked blocked) literals line = ap (λ (b : Bool). unless b line) (by_first false literals blocked)
  case_same IsMet literals line = ap (λ (b : Bool). unless b line) (by_second true literals policy)
  case_same (Splits atom holds_case fails_case) literals line =
      let one = case_same holds_case (literals ++ literal atom true ∷ []) (line + 1) in
      let two = case_same fails_case (literals ++ literal atom false ∷ []) (line + 1 + length (preorder holds_case)) in
      ap (λ (o : Option ℕ). first_of o (bad_case lists (at_shape kind policy) (literals ++ literal atom false ∷ []) (line + 1 + length (preorder holds_case)) fails_case)) one
      ∙ ap (first_of (bad_case lists (at_shape other policy) (literals ++ literal atom true ∷ []) (line + 1) holds_case)) two

  tree_same : (line : ℕ) (trees : List Cases) → bad_tree lists (at_shape kind policy) line trees ≡ bad_tree lists (at_shape other policy) line trees
  tree_same line [] = refl
  tree_same line (cases ∷ others) = case_same cases [] line

  shared_same : (line : ℕ) (b : Option Body) → bad_shared lists (at_shape kind policy) line b ≡ bad_shared lists (at_shape other policy) line b
  shared_same line None = refl
  shared_same line (Some (body.Same tree)) = refl
  shared_same line (Some (body.Nodes nodes)) = ap (at_line line) (tree_same line (cases_in nodes))

  shown_same : (trees : List Tree) (n : ℕ) → IsShown lists trees (at_shape kind policy) n → IsShown lists trees (at_shape other policy) n
  shown_same trees n is line = sym (shared_same line (body_at trees n)) ∙ is line

-- All policies

module _ (on : Comparison) (walker : Position) (is : IsReady on walker) (kind : ℕ) (one other : Shape) (here : IsOfKind on kind one) (there : IsOfKind on kind other) where
  by_first : AreToldTheSame (hashes_in (lists_of on)) one other on.lists.first.now.policies
  by_first = told_same walker.atoms (hashes_in (lists_of on)) on.lists.first.now.policies on.lists.table.first
      (subst (λ (hs : List Hash). AreAnswers walker.atoms hs on.lists.first.now.policies on.lists.table.first) is.lists.hashes is.lists.first_answers) one other here.listed there.listed
      (is.lists.kinds.same (number one) (number other) kind here.is there.is).0

  by_second : AreToldTheSame (hashes_in (lists_of on)) one other on.lists.second.now.policies
  by_second = told_same walker.atoms (hashes_in (lists_of on)) on.lists.second.now.policies on.lists.table.second
      (subst (λ (hs : List Hash). AreAnswers walker.atoms hs on.lists.second.now.policies on.lists.table.second) is.lists.hashes is.lists.second_answers) one other here.listed there.listed
      (is.lists.kinds.same (number one) (number other) kind here.is there.is).1

  pub all_shown_same : (trees : List Tree) (numbers : List ℕ) → AreShown on trees one numbers → AreShown on trees other numbers
  all_shown_same trees numbers = by on.policies.items numbers where
    by : (ps ns : List ℕ) → AllZip (λ policy n. IsShown (lists_of on) trees (at_shape one policy) n) ps ns → AllZip (λ policy n. IsShown (lists_of on) trees (at_shape other policy) n) ps ns
    by [] [] shown = tt
    by [] (n ∷ ns) shown = shown
    by (p ∷ ps) [] shown = shown
    by (p ∷ ps) (n ∷ ns) shown = (shown_same (lists_of on) one other p by_first by_second trees n shown.0, by ps ns shown.1)

  pub included_same : IsIncludedAt on one → IsIncludedAt on other
  included_same included = (included.0, included.1, all_shown_same included.0 included.1 included.2)
