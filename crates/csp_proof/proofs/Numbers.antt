-- A number below a limit is read from its decimal digits, and from no other text.
use Rattle.std.proofs.Common.{arith, rules, ◌≡◌, ◌∙◌, sym, ap, refl, ℕ, ◌+◌, ◌-◌, ◌*◌, ◌<◌, ◌≤◌, ◌^◌, inl, inr, Bool, true, false, ◌&&◌, List}
use Rattle.std.specs.Prelude.{decimal, Option, Some, None, Result, Ok, Err, if◌then◌else◌, nat_lt}
use Rattle.std.specs.List.{fold}
use Rattle.std.specs.Str.{bytes_eq, all_ascii_digits}
use Rattle.std.specs.Str.Parse.{ParsesUnsigned}
use Rattle.std.proofs.lemmas.Bool.{and_from, and_parts, lt-ltb, ltb-true, both_ways, cond-true, cond-false, false_from_ne_true, cases_Bool}
use Rattle.std.proofs.lemmas.Fmt.{parse-decimal, digits_value-decimal}
use Rattle.std.proofs.lemmas.Str.Parse.{IsNumeralModel, numerals_by_fold}
use Rattle.std.proofs.lemmas.Slice.Eq.{bytes_eq-Decides}
use Rattle.csp_model.specs.Grammar.{decimal_value}
use Rattle.csp_proof.specs.Reading.{number_below}

abbrev read_on : ℕ → List ℕ → ℕ
read_on n digits = fold (λ n d. 10 * n + (d - 48)) n digits

own : IsNumeralModel (λ digits. all_ascii_digits digits ≡ true) decimal_value
own = numerals_by_fold _ (search rules) read_on (search rules)

value_back : (n : ℕ) → n < 2 ^ 64 → decimal_value (decimal n) ≡ n
value_back n small = digits_value-decimal own n small

pub same_text : (a b : List ℕ) → bytes_eq a b ≡ true → a ≡ b
same_text a b h = (bytes_eq-Decides a b).0 h

pub texts_equal : (a b : List ℕ) → a ≡ b → bytes_eq a b ≡ true
texts_equal a b e = (bytes_eq-Decides a b).1 e

pub other_text : (a b : List ℕ) → (a ≡ b → ⊥) → bytes_eq a b ≡ false
other_text a b other = false_from_ne_true (bytes_eq a b) (λ h. other (same_text a b h))

pub number_read : (limit n : ℕ) → n < limit → n < 2 ^ 64 → number_below limit (decimal n) ≡ Some n
unfolding number_below
number_read limit n below small =
    let back = value_back n small in
    let test : (nat_lt (decimal_value (decimal n)) limit && bytes_eq (decimal (decimal_value (decimal n))) (decimal n)) ≡ true
    = rw back (and_from (nat_lt n limit) (bytes_eq (decimal n) (decimal n)) (lt-ltb n limit below) (texts_equal (decimal n) (decimal n) refl)) in
    cond-true _ _ _ test ∙ ap Some back

abbrev pub number_from : {E : Type 0} → ℕ → List ℕ → Result ℕ E → Option ℕ
number_from limit text (Ok n) = if nat_lt n limit && bytes_eq (decimal n) text then Some n else None
number_from limit text (Err e) = None

abbrev is_number : ℕ → List ℕ → ℕ → Bool
is_number limit text n = nat_lt n limit && bytes_eq (decimal n) text

no_number : {E : Type 0} (limit : ℕ) (text : List ℕ) (r : Result ℕ E) → limit ≤ 2 ^ 32 → is_number limit text (decimal_value text) ≡ false → number_from limit text r ≡ None
no_number limit text (Err e) small fails = refl
no_number limit text (Ok n) small fails = cond-false _ _ _ (false_from_ne_true _ (λ h.
    let parts = and_parts (nat_lt n limit) (bytes_eq (decimal n) text) h in
    let below : n < limit = ltb-true n limit parts.0 in
    let value : decimal_value text ≡ n = ap decimal_value (sym (same_text (decimal n) text parts.1)) ∙ value_back n (omega arith) in
    both_ways (is_number limit text (decimal_value text)) fails (ap (is_number limit text) value ∙ h)))

-- what is read of what `parse` answers is the number that the text spells
pub number_parsed : {E : Type 0} (limit : ℕ) (text : List ℕ) (r : Result ℕ E) → limit ≤ 2 ^ 32 → ParsesUnsigned 32 10 text r → number_below limit text ≡ number_from limit text r
unfolding number_below
number_parsed limit text r small parsed = elim (cases_Bool (is_number limit text (decimal_value text))) [
  | inl holds ↦
      let parts = and_parts (nat_lt (decimal_value text) limit) (bytes_eq (decimal (decimal_value text)) text) holds in
      let below : decimal_value text < limit = ltb-true (decimal_value text) limit parts.0 in
      let spelled : text ≡ decimal (decimal_value text) = sym (same_text (decimal (decimal_value text)) text parts.1) in
      let read = ap (number_from limit text) (parse-decimal 32 (decimal_value text) text r (omega arith) (omega arith) spelled parsed) in
      cond-true _ _ _ holds ∙ sym (read ∙ cond-true _ _ _ holds)
  | inr fails ↦ cond-false _ _ _ fails ∙ sym (no_number limit text r small fails)
]
