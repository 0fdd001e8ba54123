-- The answers of each policy, and the kinds of shapes: at those of one kind each policy's answer has the same place.
use Rattle.std.proofs.Common.{◌≡◌, ◌∙◌, refl, sym, ap, ap₂, subst, ℕ, ◌+◌, ◌<◌, ◌≤◌, zero, suc, List, [], ◌∷◌, ◌++◌, map, take, get_or, length, Option, Some, arith, length-append, ◌⊎◌, inl, inr}
use Rattle.std.specs.Prelude.{IsSome, slice_get}
use Rattle.std.specs.Option.{option_and_then}
use Rattle.std.proofs.lemmas.List.{map_more, take_more}
use Rattle.std.proofs.lemmas.Option.{slice_get_within}
use Rattle.csp_answer.specs.Policies.{place_at}
use Rattle.csp_model.specs.declared.policy.Policy.{Policy}
use Rattle.csp_model.specs.declared.source.Hash.{Hash}
use Rattle.csp_facts.specs.declared.atom.Atom.{Atom}
use Rattle.csp_facts.specs.Numbers.{number, shape_count}
use Rattle.csp_facts.specs.declared.shape.Shape.{Shape}
use Rattle.csp_answer.specs.Tables.{AnswerTheSame, AreAnswers, AreKinds, IsAnswered, answer_at}
use Rattle.csp_answer.specs.declared.answer.ShapeAnswer.{ShapeAnswer}
use Rattle.csp_answer.specs.declared.policy.PolicyAnswers.{PolicyAnswers}

-- answers at one place are the same
pub one_place : (one other : ℕ) (each : List PolicyAnswers) (i : ℕ) (answers : PolicyAnswers) → i < length each → answers ≡ get_or each i answers
    → place_at one answers ≡ place_at other answers → map (answer_at one) (take i each) ≡ map (answer_at other) (take i each)
    → map (answer_at one) (take (i + 1) each) ≡ map (answer_at other) (take (i + 1) each)
one_place one other each i answers inside at same before =
    let here : answer_at one answers ≡ answer_at other answers = ap (option_and_then (slice_get answers.answers)) same in
    map_more (answer_at one) each i answers inside
    ∙ ap₂ (λ (front : List (Option ShapeAnswer)) (last : Option ShapeAnswer). front ++ last ∷ []) before (ap (answer_at one) (sym at) ∙ here ∙ ap (answer_at other) at)
    ∙ sym (map_more (answer_at other) each i answers inside)

-- one more of what there is at each place
get_pushed : {X : Type 0} (xs : List X) (x : X) (k : ℕ) (y : X) → slice_get (xs ++ x ∷ []) k ≡ Some y → (slice_get xs k ≡ Some y) ⊎ ((k ≡ length xs) × (x ≡ y))
get_pushed [] x zero y e = inr (refl, cc e)
get_pushed [] x (suc k) y e = cc e
get_pushed (z ∷ xs) x zero y e = inl e
get_pushed (z ∷ xs) x (suc k) y e = elim (get_pushed xs x k y e) [ inl front ↦ inl front | inr last ↦ inr (ap suc last.0, last.1) ]

some_at : (xs : List ℕ) (k : ℕ) → k < length xs → IsSome (slice_get xs k)
some_at [] k below = absurd (omega arith)
some_at (x ∷ xs) zero below = refl
some_at (x ∷ xs) (suc k) below = some_at xs k (omega arith)

-- one more policy is answered
module _ (atoms : List Atom) (hashes : List Hash) where
  pushed_answers : (policies : List Policy) (p : Policy) (made : List PolicyAnswers) (answers : PolicyAnswers) → AreAnswers atoms hashes policies made
      → IsAnswered atoms hashes p answers → AreAnswers atoms hashes (policies ++ p ∷ []) (made ++ answers ∷ [])
  pushed_answers policies p made answers before here = record {
    long = length-append made (answers ∷ []) ∙ ap (λ (n : ℕ). n + 1) before.long ∙ sym (length-append policies (p ∷ []));
    each = λ n policy found at too. by n policy found (get_pushed policies p n policy at) (get_pushed made answers n found too);
  } where
    by : (n : ℕ) (policy : Policy) (found : PolicyAnswers) → (slice_get policies n ≡ Some policy) ⊎ ((n ≡ length policies) × (p ≡ policy))
        → (slice_get made n ≡ Some found) ⊎ ((n ≡ length made) × (answers ≡ found)) → IsAnswered atoms hashes policy found
    by n policy found (inl at) (inl too) = before.each n policy found at too
    by n policy found (inr last) (inr too) =
        subst (λ (q : Policy). IsAnswered atoms hashes q found) last.1 (subst (IsAnswered atoms hashes p) too.1 here)
    by n policy found (inl at) (inr too) =
        let within = slice_get_within policies n policy at in let e = too.0 in let f = before.long in absurd (omega arith)
    by n policy found (inr last) (inl too) =
        let within = slice_get_within made n found too in let e = last.0 in let f = before.long in absurd (omega arith)

  pub one_policy : (policies : List Policy) (i : ℕ) (p : Policy) (made : List PolicyAnswers) (answers : PolicyAnswers) → i < length policies
      → p ≡ get_or policies i p → AreAnswers atoms hashes (take i policies) made → IsAnswered atoms hashes p answers
      → AreAnswers atoms hashes (take (i + 1) policies) (made ++ answers ∷ [])
  one_policy policies i p made answers inside at before here =
      subst (λ (ps : List Policy). AreAnswers atoms hashes ps (made ++ answers ∷ []))
      (ap (λ (q : Policy). take i policies ++ q ∷ []) at ∙ sym (take_more policies i p inside)) (pushed_answers (take i policies) p made answers before here)

module _ (first second : List PolicyAnswers) where
  -- the kinds of the shapes so far, each a shape at which all is answered the same
  pub record KindsTo (kinds : List ℕ) (count : ℕ) : Type 0 where
    pub long : length kinds ≡ count
    pub each : (shape kind : ℕ) → slice_get kinds shape ≡ Some kind → AnswerTheSame first second shape kind

  pub no_kinds : KindsTo [] 0
  no_kinds = record { long = refl; each = λ shape kind e. cc e }

  pub one_kind : (kinds longer : List ℕ) (shape kind : ℕ) → KindsTo kinds shape → AnswerTheSame first second shape kind → longer ≡ kinds ++ kind ∷ []
      → KindsTo longer (shape + 1)
  one_kind kinds longer shape kind before here pushed = record {
    long = ap length pushed ∙ length-append kinds (kind ∷ []) ∙ ap (λ (n : ℕ). n + 1) before.long;
    each = λ other found at. by other found (get_pushed kinds kind other found (ap (λ (ks : List ℕ). slice_get ks other) (sym pushed) ∙ at));
  } where
    by : (other found : ℕ) → (slice_get kinds other ≡ Some found) ⊎ ((other ≡ length kinds) × (kind ≡ found)) → AnswerTheSame first second other found
    by other found (inl at) = before.each other found at
    by other found (inr last) =
        subst (λ (n : ℕ). AnswerTheSame first second n found) (sym (last.0 ∙ before.long)) (subst (AnswerTheSame first second shape) last.1 here)

  pub all_kinds : (kinds : List ℕ) (count : ℕ) → KindsTo kinds count → shape_count ≤ count → ((kind : Shape) → number kind < shape_count)
      → AreKinds (record { first = first; second = second; kinds = kinds })
  all_kinds kinds count to past below = record {
    there = λ kind _. some_at kinds (number kind) (let e = to.long in let lt = below kind in omega arith);
    same = λ one other kind at too.
        let here = to.each one kind at in
        let there = to.each other kind too in
        (here.0 ∙ sym there.0, here.1 ∙ sym there.1);
  }
