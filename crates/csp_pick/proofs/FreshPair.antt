-- Values of integrity metadata: base64-values are some, and `other` with a number or none.
use Rattle.std.proofs.Common.{◌≡◌, ◌≢◌, refl, sym, subst, ℕ, Bool, true, false, not, ◌&&◌, nat_lt, List, [], ◌∷◌, Some, All, Contains, arith, codes}
use Rattle.std.specs.Prelude.{◌==◌, if◌then◌else◌}
use Rattle.std.specs.Char.{is_ascii_whitespace}
use Rattle.std.specs.List.{list_all}
use Rattle.std.proofs.lemmas.Bool.{and_parts}
use Rattle.std.proofs.lemmas.Bool.Decides.{nat_tests}
use Rattle.std.proofs.lemmas.List.Elements.{All-nil, All-cons, All-append, All-weaker, All-contains}
use Rattle.std.proofs.lemmas.List.Sums.{AllPass-from_list_all, list_all-from_AllPass}
use Rattle.csp_model.proofs.AsciiLaws.{IsUtf8-from_ascii_text}
use Rattle.csp_model.proofs.FinalBytes.{ends_in_front}
use Rattle.csp_model.specs.Ascii.{is_nonempty, ends_in, without_last, without_final}
use Rattle.csp_model.specs.Grammar.{is_base64_char, is_base64_value}
use Rattle.csp_model.specs.Validity.{IsIntegrityValue}
use Rattle.csp_model.specs.declared.source.Hash.{Hash}
use Rattle.csp_pick.specs.Fresh.{IsNumbered}
use Rattle.csp_pick.proofs.Numbered.{numbered_passes}

-- Values

abbrev is_plain_byte : ℕ → Bool
is_plain_byte b = not (is_ascii_whitespace b) && not (b == 63)

-- a byte that may stand in a value
abbrev IsPlain : ℕ → Type 0
IsPlain b = (nat_lt b 128 ≡ true) × (is_plain_byte b ≡ true)

value_of_plain : (text : List ℕ) → All IsPlain text → IsIntegrityValue text
value_of_plain text each = (
  IsUtf8-from_ascii_text text (list_all-from_AllPass (λ b. nat_lt b 128) text (All-weaker IsPlain (λ b. nat_lt b 128 ≡ true) (λ b plain. plain.0) text each)),
  list_all-from_AllPass is_plain_byte text (All-weaker IsPlain (λ b. is_plain_byte b ≡ true) (λ b plain. plain.1) text each),
)

with_last : (c : ℕ) (text : List ℕ) → ends_in c text ≡ true → IsPlain c → All IsPlain (without_last text) → All IsPlain text
with_last c text ends last front =
    subst (All IsPlain) (sym (ends_in_front c text ends))
    (All-append IsPlain (without_last text) (c ∷ []) front (All-cons IsPlain c [] last (All-nil IsPlain)))

with_final : (c : ℕ) (text : List ℕ) → IsPlain c → All IsPlain (without_final c text) → All IsPlain text
with_final c text last front = by (ends_in c text) refl front where
  by : (b : Bool) → ends_in c text ≡ b → All IsPlain (if b then without_last text else text) → All IsPlain text
  by true is h = with_last c text is last h
  by false is h = h

base64_char_small : (c : ℕ) → is_base64_char c ≡ true → nat_lt c 128 ≡ true
unfolding is_base64_char
base64_char_small c h = grind (arith, nat_tests)

base64_char_plain : (c : ℕ) → is_base64_char c ≡ true → is_plain_byte c ≡ true
unfolding is_base64_char
base64_char_plain c h = grind (arith, nat_tests)

pub base64_is_value : (text : List ℕ) → is_base64_value text ≡ true → IsIntegrityValue text
unfolding is_base64_value
base64_is_value text h =
    let inner = without_final 61 text in
    let value = without_final 61 inner in
    let parts = and_parts (is_nonempty value) (list_all is_base64_char value) h in
    let each = All-weaker (λ c. is_base64_char c ≡ true) IsPlain (λ c is. (base64_char_small c is, base64_char_plain c is)) value
    (AllPass-from_list_all is_base64_char value parts.1) in
    value_of_plain text (with_final 61 text (refl, refl) (with_final 61 inner (refl, refl) each))

pub numbered_is_value : (text : List ℕ) → IsNumbered (codes "other") [] text → IsIntegrityValue text
numbered_is_value text is = (
  IsUtf8-from_ascii_text text (numbered_passes (λ b. nat_lt b 128) refl (codes "other") [] text refl refl is),
  numbered_passes is_plain_byte refl (codes "other") [] text refl refl is,
)

pub other_is_fresh : (hashes : List Hash) (pair : Hash) → All (λ (h : Hash). Some h.value ≢ Some pair.value) hashes → ¬ Contains hashes pair
other_is_fresh hashes pair other has = All-contains (λ (h : Hash). Some h.value ≢ Some pair.value) hashes pair other has refl
