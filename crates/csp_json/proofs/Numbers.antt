-- A number's text, by the numeral in it.
use Rattle.std.proofs.Common.{arith, ◌≡◌, ◌∙◌, ◌+◌, ◌^◌, ◌<◌, ◌&&◌, nat_lt, lt-ltb, length, ℕ, List, drop, get_or, Bool, true, false, cond, ◌==◌, Option, Some, None, is_some, sym, ap, refl}
use Rattle.std.specs.Prelude.{option_and_then}
use Rattle.std.specs.Float.{binary64, float_is_finite}
use Rattle.std.specs.Option.{SomeIff}
use Rattle.fast_float.specs.Text.{Parts, scan, digits_of, nearest, with_sign, IsInteger}
use Rattle.serde_json.specs.Data.{float, negative, unsigned}
use Rattle.serde_json.specs.Find.{as_u64}
use Rattle.serde_json.specs.Read.{is_integer, number_of, number_from, float_of}

pub with_minus : (s : List ℕ) → (get_or s 0 0 == 45) ≡ true
    → number_of s ≡ number_from true (scan (drop 1 s))
unfolding number_of
with_minus s signed = rw signed refl

pub without_minus : (s : List ℕ) → (get_or s 0 0 == 45) ≡ false → number_of s ≡ number_from false (scan s)
unfolding number_of
without_minus s plain = rw plain refl

no_unsigned_float : (sign : Bool) (p : Parts) → option_and_then as_u64 (float_of sign p) ≡ None
no_unsigned_float sign p =
    elim (float_is_finite (nearest binary64 sign p)) as (λ b.
    option_and_then as_u64 (cond b (Some (float (nearest binary64 sign p))) None) ≡ None) [
      | true ↦ refl
      | false ↦ refl
    ]

no_unsigned_of : (b : Bool) (p : Parts)
    → option_and_then as_u64 (cond b (Some (negative (with_sign true (digits_of p)))) (float_of true p)) ≡ None
no_unsigned_of true p = refl
no_unsigned_of false p = no_unsigned_float true p

-- with a minus it is no whole number without a sign
pub no_unsigned : (p : Parts) → option_and_then as_u64 (number_from true p) ≡ None
no_unsigned p = no_unsigned_of _ p

is_whole : (p : Parts) → is_integer p && nat_lt (digits_of p) (2 ^ 64) ≡ true
    → IsInteger p × (digits_of p < 2 ^ 64)
is_whole p both = grind arith

refused : (p : Parts) (b : Bool) → is_integer p && nat_lt (digits_of p) (2 ^ 64) ≡ b
    → (IsInteger p × (digits_of p < 2 ^ 64) → ⊥)
    → None ≡ option_and_then as_u64 (cond b (Some (unsigned (digits_of p))) (float_of false p))
refused p true both other = absurd (other (is_whole p both))
refused p false both other = sym (no_unsigned_float false p)

-- without one it is, where it is an integer of 64 bits
pub is_unsigned : (p : Parts) (found : Option ℕ)
    → SomeIff found (IsInteger p × (digits_of p < 2 ^ 64)) (digits_of p)
    → found ≡ option_and_then as_u64 (number_from false p)
is_unsigned p None other = refused p _ refl other
is_unsigned p (Some n) is =
    rw (lt-ltb 0 (length p.whole) is.0.0.0, is.0.0.1, is.0.0.2, lt-ltb (digits_of p) (2 ^ 64) is.0.1) (ap Some is.1)
