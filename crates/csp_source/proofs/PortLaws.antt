-- A port's spelling is read as that port.
use Rattle.std.proofs.Common.{arith, ◌≡◌, ◌∙◌, sym, ap, refl, ℕ, ◌+◌, ◌-◌, ◌*◌, ◌/◌, ◌%◌, ◌^◌, ◌<◌, ◌≤◌, Bool, true, false, not, List, [], ◌∷◌, ◌++◌, Some, None, cond, inl, inr}
use Rattle.std.specs.Prelude.{codes, ◌==◌, bytes_eq, nat_lt, decimal, if◌then◌else◌}
use Rattle.std.specs.Char.{is_ascii_digit}
use Rattle.std.proofs.lemmas.Grind.{common_steps}
use Rattle.std.proofs.lemmas.Bool.{false≢true}
use Rattle.std.proofs.lemmas.Bool.Decides.{nat_tests}
use Rattle.std.proofs.lemmas.Fmt.{decimal_by_steps}
use Rattle.std.proofs.lemmas.List.Folds.{list_all-append}
use Rattle.std.proofs.lemmas.List.Sums.{fold_push}
use Rattle.std.proofs.lemmas.Slice.Eq.{bytes_eq-Decides}
use Rattle.csp_model.specs.Grammar.{are_digits, decimal_value, port_numbered, port_part_of}
use Rattle.csp_source.specs.Types.{PortPart}
use Rattle.csp_source.specs.Spelling.{port_spelling}
use Rattle.csp_source.proofs.HostLaws.{chosen}

-- the digits spell the number
record Spells (n : ℕ) (digits : List ℕ) : Type 0 where
  good : are_digits digits ≡ true
  value : decimal_value digits ≡ n

digit_is : (d : ℕ) → d < 10 → is_ascii_digit (48 + d) ≡ true
digit_is d h = grind (arith, nat_tests)

are_digits_push : (digits : List ℕ) (c : ℕ) → are_digits digits ≡ true → is_ascii_digit c ≡ true → are_digits (digits ++ c ∷ []) ≡ true
are_digits_push [] c h k = absurd (false≢true h)
are_digits_push (d ∷ digits) c h k = grind (arith, common_steps, nat_tests, list_all-append is_ascii_digit digits (c ∷ []))

number_push : (digits : List ℕ) (c : ℕ) → decimal_value (digits ++ c ∷ []) ≡ 10 * decimal_value digits + (c - 48)
number_push digits c = fold_push (λ n d. 10 * n + (d - 48)) 0 digits c

one_digit : (n : ℕ) → n < 10 → Spells n ((48 + n) ∷ [])
one_digit n h = record {
  good = let digit = digit_is n h in grind (arith, common_steps, nat_tests);
  value = omega arith;
}

more_digits : (n : ℕ) (digits : List ℕ) → 10 ≤ n → Spells (n / 10) digits → Spells n (digits ++ ((48 + n % 10) ∷ []))
more_digits n digits h before = record {
  good = are_digits_push digits (48 + n % 10) before.good (digit_is (n % 10) (omega arith));
  value = number_push digits (48 + n % 10) ∙ (let is = before.value in omega (arith, is));
}

decimal_spells : (n : ℕ) → n < 2 ^ 64 → Spells n (decimal n)
decimal_spells n h = decimal_by_steps Spells one_digit more_digits n h

no_star : (digits : List ℕ) → are_digits digits ≡ true → bytes_eq digits (codes "*") ≡ false
no_star digits h = go (bytes_eq digits (codes "*")) refl where
  go : (b : Bool) → bytes_eq digits (codes "*") ≡ b → b ≡ false
  go true is = absurd (false≢true (sym (ap are_digits ((bytes_eq-Decides digits (codes "*")).0 is)) ∙ h))
  go false is = refl

numbered : (digits : List ℕ) → are_digits digits ≡ true → port_part_of (58 ∷ digits) ≡ Some (port_numbered (decimal_value digits))
unfolding port_part_of
numbered digits h = rw (no_star digits h, h) refl

number_spelt : (n : ℕ) → n < 65536 → port_part_of (58 ∷ decimal n) ≡ Some (PortPart.Number n)
number_spelt n h =
    let spells = decimal_spells n (omega arith) in
    let small : nat_lt n 65536 ≡ true = grind (arith, nat_tests) in
    numbered (decimal n) spells.good ∙ ap (λ m. Some (port_numbered m)) spells.value ∙ ap (λ b. Some (cond b (PortPart.Number n) PortPart.TooLarge)) small

large_spelt : port_part_of (codes ":65536") ≡ Some PortPart.TooLarge
unfolding port_part_of
large_spelt = refl

any_spelt : port_part_of (codes ":*") ≡ Some PortPart.Any
unfolding port_part_of
any_spelt = refl

absent_spelt : port_part_of [] ≡ Some PortPart.Absent
unfolding port_part_of
absent_spelt = refl

-- the number of a port is below 65,536
small_numbered : (m n : ℕ) → port_numbered m ≡ PortPart.Number n → n < 65536
small_numbered m n e = go (nat_lt m 65536) refl e where
  go : (b : Bool) → nat_lt m 65536 ≡ b → cond b (PortPart.Number m) PortPart.TooLarge ≡ PortPart.Number n → n < 65536
  go true is e = let same : m ≡ n = cc in let below : m < 65536 = grind (arith, nat_tests) in omega arith
  go false is e = cc

small_port : (text : List ℕ) (n : ℕ) → port_part_of text ≡ Some (PortPart.Number n) → n < 65536
unfolding port_part_of
small_port [] n e = cc
small_port (c ∷ text) n e =
    let behind = if bytes_eq text (codes "*") then Some PortPart.Any else if are_digits text then Some (port_numbered (decimal_value text)) else None in
    elim (chosen (not (c == 58)) None behind (PortPart.Number n) e) [
      | inl other ↦ cc
      | inr one ↦ elim (chosen (bytes_eq text (codes "*")) (Some PortPart.Any) (if are_digits text then Some (port_numbered (decimal_value text)) else None) (PortPart.Number n) one.1) [
        | inl two ↦ cc
        | inr three ↦ elim (chosen (are_digits text) (Some (port_numbered (decimal_value text))) None (PortPart.Number n) three.1) [
          | inl four ↦ let is : port_numbered (decimal_value text) ≡ PortPart.Number n = cc in small_numbered (decimal_value text) n is
          | inr five ↦ cc
        ]
      ]
    ]

pub port_spelt : (text : List ℕ) (p : PortPart) → port_part_of text ≡ Some p → port_part_of (port_spelling p) ≡ Some p
port_spelt text PortPart.Absent e = absent_spelt
port_spelt text PortPart.Any e = any_spelt
port_spelt text (PortPart.Number n) e = number_spelt n (small_port text n e)
port_spelt text PortPart.TooLarge e = large_spelt
