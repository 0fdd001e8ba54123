-- A text is cut at its first space.
use Rattle.std.proofs.Common.{arith, ◌≡◌, ◌≢◌, ◌∙◌, sym, ap, refl, ℕ, ◌<◌, suc, List, [], ◌∷◌, ◌++◌, length, get_or, inl, inr}
use Rattle.std.specs.Prelude.{Option, Some, None, MatchOption, nat_eq as eqb}
use Rattle.std.specs.Borrow.{Bor}
use Rattle.std.proofs.lemmas.Bool.{cond-true, cond-false, ne_eqb, eqb-true, cases_Bool}
use Rattle.std.proofs.lemmas.Option.{some_pair_parts}
use Rattle.csp_proof.specs.Reading.{cut, with_first}

pub cut_at : (word rest : List ℕ) → ((i : ℕ) → i < length word → get_or word i 0 ≢ 32) → cut (word ++ 32 ∷ rest) ≡ Some (word, rest)
cut_at [] rest other = refl
cut_at (b ∷ word) rest other =
    cond-false _ _ _ (ne_eqb b 32 (other 0 (omega arith))) ∙ ap (with_first b) (cut_at word rest (λ i within. other (suc i) (omega arith)))

pub cut_none : (text : List ℕ) → ((i : ℕ) → i < length text → get_or text i 0 ≢ 32) → cut text ≡ None
cut_none [] other = refl
cut_none (b ∷ text) other =
    cond-false _ _ _ (ne_eqb b 32 (other 0 (omega arith))) ∙ ap (with_first b) (cut_none text (λ i within. other (suc i) (omega arith)))

pub cut_by : (text : List ℕ) (r : Option (Bor (List ℕ) × Bor (List ℕ)))
    → MatchOption r ((i : ℕ) → i < length text → get_or text i 0 ≢ 32) (λ x. (text ≡ x.0.now ++ (32 ∷ x.1.now)) × ((i : ℕ) → i < length x.0.now → get_or x.0.now i 0 ≢ 32))
    → MatchOption r (cut text ≡ None) (λ x. cut text ≡ Some (x.0.now, x.1.now))
cut_by text None h = cut_none text h
cut_by text (Some x) h = ap cut h.0 ∙ cut_at x.0.now x.1.now h.1

inner : (b : ℕ) (text word rest : List ℕ) (found : Option (List ℕ × List ℕ)) → ((w r : List ℕ) → found ≡ Some (w, r) → text ≡ w ++ 32 ∷ r)
    → with_first b found ≡ Some (word, rest) → b ∷ text ≡ word ++ 32 ∷ rest
inner b text word rest None known is = cc is
inner b text word rest (Some parts) known is =
    let same = some_pair_parts (b ∷ parts.0) word parts.1 rest is in
    ap (λ t. b ∷ t) (known parts.0 parts.1 refl) ∙ ap (λ w. w ++ 32 ∷ parts.1) same.0 ∙ ap (λ r. word ++ 32 ∷ r) same.1

pub cut_is : (text word rest : List ℕ) → cut text ≡ Some (word, rest) → text ≡ word ++ 32 ∷ rest
cut_is [] word rest is = cc is
cut_is (b ∷ text) word rest is = elim (cases_Bool (eqb b 32)) [
  | inl blank ↦
      let same = some_pair_parts [] word text rest (sym (cond-true _ _ _ blank) ∙ is) in
      ap (λ c. c ∷ text) (eqb-true b 32 blank) ∙ ap (λ w. w ++ 32 ∷ text) same.0 ∙ ap (λ r. word ++ 32 ∷ r) same.1
  | inr other ↦ inner b text word rest (cut text) (cut_is text) (sym (cond-false _ _ _ other) ∙ is)
]
