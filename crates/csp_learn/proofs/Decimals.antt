-- A port that is written is read as it is.
use Rattle.std.proofs.Common.{arith, ◌≡◌, ◌∙◌, sym, ap, refl, ℕ, ◌+◌, ◌-◌, ◌*◌, ◌/◌, ◌%◌, ◌^◌, ◌<◌, ◌≤◌, Bool, true, false, List, [], ◌∷◌, ◌++◌, Some, cond}
use Rattle.std.specs.Prelude.{codes, bytes_eq, nat_lt, decimal}
use Rattle.std.specs.Char.{is_ascii_digit}
use Rattle.std.specs.List.{list_all}
use Rattle.std.proofs.lemmas.Grind.{common_steps}
use Rattle.std.proofs.lemmas.Bool.{false≢true}
use Rattle.std.proofs.lemmas.Bool.Decides.{nat_tests}
use Rattle.std.proofs.lemmas.Fmt.{decimal_by_steps}
use Rattle.std.proofs.lemmas.List.Folds.{list_all-append}
use Rattle.std.proofs.lemmas.List.Sums.{fold_push}
use Rattle.std.proofs.lemmas.Slice.Eq.{bytes_eq-Decides}
use Rattle.csp_model.specs.Grammar.{are_digits, decimal_value, port_numbered, port_part_of}
use Rattle.csp_model.specs.declared.source.PortPart.TheVariants as port_part
use Rattle.csp_learn.proofs.HostNames.{weaker}

-- the digits spell the number
record Spells (n : ℕ) (digits : List ℕ) : Type 0 where
  good : are_digits digits ≡ true
  value : decimal_value digits ≡ n

digit_is : (d : ℕ) → d < 10 → is_ascii_digit (48 + d) ≡ true
digit_is d h = grind (arith, nat_tests)

are_digits_push : (digits : List ℕ) (c : ℕ) → are_digits digits ≡ true → is_ascii_digit c ≡ true → are_digits (digits ++ c ∷ []) ≡ true
are_digits_push [] c h k = absurd (false≢true h)
are_digits_push (d ∷ digits) c h k = grind (arith, common_steps, nat_tests, list_all-append is_ascii_digit digits (c ∷ []))

one_digit : (n : ℕ) → n < 10 → Spells n ((48 + n) ∷ [])
one_digit n h = record {
  good = let digit = digit_is n h in grind (arith, common_steps, nat_tests);
  value = omega arith;
}

more_digits : (n : ℕ) (digits : List ℕ) → 10 ≤ n → Spells (n / 10) digits → Spells n (digits ++ ((48 + n % 10) ∷ []))
more_digits n digits h before = record {
  good = are_digits_push digits (48 + n % 10) before.good (digit_is (n % 10) (omega arith));
  value = fold_push (λ n d. 10 * n + (d - 48)) 0 digits (48 + n % 10) ∙ (let is = before.value in omega (arith, is));
}

decimal_spells : (n : ℕ) → n < 2 ^ 64 → Spells n (decimal n)
decimal_spells n h = decimal_by_steps Spells one_digit more_digits n h

no_star : (digits : List ℕ) → are_digits digits ≡ true → bytes_eq digits (codes "*") ≡ false
no_star digits h = go (bytes_eq digits (codes "*")) refl where
  go : (b : Bool) → bytes_eq digits (codes "*") ≡ b → b ≡ false
  go true is = absurd (false≢true (sym (ap are_digits ((bytes_eq-Decides digits (codes "*")).0 is)) ∙ h))
  go false is = refl

numbered : (digits : List ℕ) → are_digits digits ≡ true → port_part_of (codes ":" ++ digits) ≡ Some (port_numbered (decimal_value digits))
unfolding port_part_of
numbered digits h = rw (no_star digits h, h) refl

pub port_read : (n : ℕ) → n < 2 ^ 16 → port_part_of (codes ":" ++ decimal n) ≡ Some (port_part.Number n)
port_read n h =
    let spells = decimal_spells n (omega arith) in
    let small : nat_lt n 65536 ≡ true = grind (arith, nat_tests) in
    numbered (decimal n) spells.good ∙ ap (λ m. Some (port_numbered m)) spells.value
    ∙ ap (λ b. Some (cond b (port_part.Number n) port_part.TooLarge)) small

pub decimal_passes : (p : ℕ → Bool) → ((c : ℕ) → is_ascii_digit c ≡ true → p c ≡ true) → (n : ℕ) → n < 2 ^ 16 → list_all p (decimal n) ≡ true
decimal_passes p each n h =
    let good = (decimal_spells n (omega arith)).good in
    weaker is_ascii_digit p each (decimal n) (grind (arith, good))
