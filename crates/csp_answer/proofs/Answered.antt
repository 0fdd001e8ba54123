-- Answers of the conjunctions of a list, and of the rule on integrity metadata.
use Rattle.std.proofs.Common.{◌≡◌, ◌∙◌, sym, ap, ap₂, subst, ℕ, Bool, true, false, List, [], ◌∷◌, ◌++◌, length, Option, Some, None, All, IfSome, Result, Ok, Err, IfOk}
use Rattle.std.specs.Option.{option_map}
use Rattle.csp_model.specs.declared.policy.Directive.{Directive}
use Rattle.csp_model.specs.declared.source.Source.{Source}
use Rattle.csp_facts.specs.declared.atom.Atom.{Atom}
use Rattle.csp_formula.specs.Questions.{said_by_list}
use Rattle.csp_formula.specs.Sentences.{Sentence, Known, Either, any_of}
use Rattle.csp_formula.specs.Surely.{surely, maybe_or}
use Rattle.csp_formula.proofs.Maybe.{maybe_or_assoc}
use Rattle.csp_answer.specs.Answers.{AreThere, IsAmong, IsAnswer, IsIntegrityThere, SaysTheSame, answer_in, disjunction_in, integrity_in, sentence_in}
use Rattle.csp_answer.specs.Asking.{AmountTo}
use Rattle.csp_answer.specs.Tables.{Says}
use Rattle.csp_answer.specs.declared.answer.ShapeAnswer.{ShapeAnswer}
use Rattle.csp_answer.specs.declared.answer.Integrity.{Integrity}
use Rattle.csp_answer.specs.declared.conjunction.Conjunction.{Conjunction}
use Rattle.csp_answer.proofs.Among.{among_itself, among_same, both_among, either_among, ended_among, first_among, last_among}
use Rattle.csp_answer.proofs.Adding.{or_false, or_swapped}
use Rattle.csp_answer.proofs.Amounts.{joined, turned_to}

module _ (atoms : List Atom) where
  -- an answer without the rule on integrity metadata
  pub plain : (sentence : Sentence) (conjunctions : List Conjunction) (made : ShapeAnswer) → AmountTo atoms sentence conjunctions
      → SaysTheSame (sentence_in atoms made) (answer_in atoms conjunctions None) → IsAmong (sentence_in atoms made) (answer_in atoms conjunctions None)
      → (All (AreThere (length atoms)) conjunctions → IfSome {T = Integrity} None (IsIntegrityThere (length atoms)) → IsAnswer (length atoms) made)
      → Says atoms sentence made
  plain sentence conjunctions made amount says among is = record {
    says = λ ls. says ls ∙ or_false (surely ls (disjunction_in atoms conjunctions)) ∙ amount.says ls;
    among = λ atom has. ended_among (disjunction_in atoms conjunctions) sentence false amount.among atom (among atom has);
    answer = is amount.there tt;
  }

  -- what two lists of conjunctions amount to together
  pub together : (x y : Sentence) (ones others both : List Conjunction) → AmountTo atoms x ones → AmountTo atoms y others → both ≡ ones ++ others
      → AmountTo atoms (any_of (x ∷ y ∷ [])) both
  together x y ones others both of_ones of_others is =
      subst (AmountTo atoms (any_of (x ∷ y ∷ []))) (sym is)
      (turned_to atoms (Either x y) (any_of (x ∷ y ∷ [])) (ones ++ others) (joined atoms x y ones others of_ones of_others)
      (λ ls. ap (maybe_or (surely ls x)) (sym (or_false (surely ls y))))
      (both_among x y x (any_of (y ∷ [])) (among_itself x) (first_among y (Known false))))

  -- the rule on integrity metadata stands before the last of three
  last_but_one : (x y z : Option Bool) → maybe_or (maybe_or x y) z ≡ maybe_or x (maybe_or z (maybe_or y (Some false)))
  last_but_one x y z = maybe_or_assoc x y z ∙ ap (maybe_or x) (or_swapped y z ∙ ap (maybe_or z) (sym (or_false y)))

  among_three : (x y z : Sentence) → IsAmong (Either (Either x y) z) (any_of (x ∷ z ∷ y ∷ []))
  among_three x y z =
      let of_y : IsAmong y (any_of (z ∷ y ∷ [])) = λ atom has. last_among z (any_of (y ∷ [])) atom (first_among y (Known false) atom has) in
      let of_z : IsAmong z (any_of (x ∷ z ∷ y ∷ [])) = λ atom has. last_among x (any_of (z ∷ y ∷ [])) atom (first_among z (any_of (y ∷ [])) atom has) in
      either_among (Either x y) z (any_of (x ∷ z ∷ y ∷ [])) (both_among x y x (any_of (z ∷ y ∷ [])) (among_itself x) of_y) of_z

  pub with_integrity : (x y z : Sentence) (ones others both : List Conjunction) (rule : Integrity) (made : ShapeAnswer) → AmountTo atoms x ones → AmountTo atoms y others
      → both ≡ ones ++ others → integrity_in atoms (Some rule) ≡ z → IsIntegrityThere (length atoms) rule
      → SaysTheSame (sentence_in atoms made) (answer_in atoms both (Some rule)) → IsAmong (sentence_in atoms made) (answer_in atoms both (Some rule))
      → (All (AreThere (length atoms)) both → IfSome (Some rule) (IsIntegrityThere (length atoms)) → IsAnswer (length atoms) made)
      → Says atoms (any_of (x ∷ z ∷ y ∷ [])) made
  with_integrity x y z ones others both rule made of_ones of_others is same there says among answer =
      let amount = subst (AmountTo atoms (Either x y)) (sym is) (joined atoms x y ones others of_ones of_others) in
      record {
        says = λ ls. says ls ∙ ap₂ maybe_or (amount.says ls) (ap (surely ls) same) ∙ last_but_one (surely ls x) (surely ls y) (surely ls z);
        among = λ atom has. among_three x y z atom
            (both_among (disjunction_in atoms both) (integrity_in atoms (Some rule)) (Either x y) z amount.among (among_same (integrity_in atoms (Some rule)) z same) atom
            (among atom has));
        answer = answer amount.there there;
      }

-- what the list at a place says
pub said_at : (found : Option Directive) (sources : List Source) (says : List Source → Sentence) → option_map (λ (d : Directive). d.sources) found ≡ Some sources
    → says sources ≡ said_by_list found says
said_at None sources says is = absurd cc
said_at (Some d) sources says is = let same : d.sources ≡ sources = cc in ap says (sym same)

pub nothing_at : (found : Option Directive) (says : List Source → Sentence) → found ≡ None → Known true ≡ said_by_list found says
nothing_at found says is = sym (ap (λ f. said_by_list f says) is)

-- what the call that makes an answer promises, where there is no rule on integrity metadata
pub made_plain : {E : Type 0} (r : Result ShapeAnswer E) (conjunctions : List Conjunction)
    → IfOk r (λ made. (atoms : List Atom) → SaysTheSame (sentence_in atoms made) (answer_in atoms conjunctions None))
    → IfOk r (λ made. (atoms : List Atom) → IsAmong (sentence_in atoms made) (answer_in atoms conjunctions None))
    → IfOk r (λ made. (count : ℕ) → All (AreThere count) conjunctions → IfSome {T = Integrity} None (IsIntegrityThere count) → IsAnswer count made)
    → IfOk r (λ made. (atoms : List Atom) (x y : Sentence) → AmountTo atoms x conjunctions → x ≡ y → Says atoms y made)
made_plain (Ok made) conjunctions says among is = λ atoms x y amount same.
    subst (λ s. Says atoms s made) same (plain atoms x conjunctions made amount (says atoms) (among atoms) (is (length atoms)))
made_plain (Err e) conjunctions says among is = tt

pub made_with : {E : Type 0} (r : Result ShapeAnswer E) (conjunctions : List Conjunction) (rule : Integrity)
    → IfOk r (λ made. (atoms : List Atom) → SaysTheSame (sentence_in atoms made) (answer_in atoms conjunctions (Some rule)))
    → IfOk r (λ made. (atoms : List Atom) → IsAmong (sentence_in atoms made) (answer_in atoms conjunctions (Some rule)))
    → IfOk r (λ made. (count : ℕ) → All (AreThere count) conjunctions → IfSome (Some rule) (IsIntegrityThere count) → IsAnswer count made)
    → IfOk r (λ made. (atoms : List Atom) (x y z : Sentence) (ones others : List Conjunction) → AmountTo atoms x ones → AmountTo atoms y others
    → conjunctions ≡ ones ++ others → integrity_in atoms (Some rule) ≡ z → IsIntegrityThere (length atoms) rule → Says atoms (any_of (x ∷ z ∷ y ∷ [])) made)
made_with (Ok made) conjunctions rule says among is = λ atoms x y z ones others of_ones of_others joins same there.
    with_integrity atoms x y z ones others conjunctions rule made of_ones of_others joins same there (says atoms) (among atoms) (is (length atoms))
made_with (Err e) conjunctions rule says among is = tt
