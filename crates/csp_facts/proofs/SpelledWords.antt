-- A text is a word where each of its bytes is visible: so are schemes, base64-values, numbers and algorithms.
use Rattle.std.proofs.Common.{arith, ◌≡◌, subst, sym, refl, ℕ, ◌<◌, ◌^◌, Bool, true, false, List, [], ◌∷◌, length, get_or, All, IsTrue}
use Rattle.std.specs.Prelude.{decimal, if◌then◌else◌, bytes_eq}
use Rattle.std.specs.List.{list_all}
use Rattle.std.specs.Char.{is_ascii_alphabetic}
use Rattle.std.specs.Str.Parse.{AllDigits}
use Rattle.std.proofs.lemmas.Bool.{and_from, and_parts, lt-ltb, ltb-true, false≢true}
use Rattle.std.proofs.lemmas.Bool.Decides.{nat_tests}
use Rattle.std.proofs.lemmas.Fmt.{decimal_is_IsNumeral}
use Rattle.std.proofs.lemmas.List.Elements.{All-nil, All-cons, All-append, All-weaker, All-from_get_or}
use Rattle.std.proofs.lemmas.List.Sums.{AllPass-from_list_all, list_all-from_AllPass}
use Rattle.std.proofs.lemmas.Str.Parse.{digit_at}
use Rattle.csp_model.proofs.FinalBytes.{ends_in_front}
use Rattle.csp_model.specs.Ascii.{lower, is_nonempty, ends_in, without_last, without_final}
use Rattle.csp_model.specs.Grammar.{algorithm_text, is_scheme_char, is_scheme, is_base64_char, is_base64_value}
use Rattle.csp_model.specs.Validity.{is_lower_scheme}
use Rattle.csp_model.specs.declared.source.Algorithm.{Algorithm}
use Rattle.csp_model.specs.declared.source.Algorithm.TheVariants.{Sha256, Sha384, Sha512}
use Rattle.csp_facts.specs.Spelling.{is_visible, is_word}

abbrev pub IsWord : List ℕ → Type 0
IsWord text = IsTrue (is_word text)

abbrev pub IsVisible : ℕ → Type 0
IsVisible c = is_visible c ≡ true

pub word : (text : List ℕ) → 0 < length text → All IsVisible text → IsWord text
word text some each = and_from (is_nonempty text) (list_all is_visible text) (lt-ltb 0 (length text) some) (list_all-from_AllPass is_visible text each)

pub each_visible : (p : ℕ → Bool) → ((c : ℕ) → p c ≡ true → IsVisible c) → (text : List ℕ) → list_all p text ≡ true → All IsVisible text
each_visible p seen text h = All-weaker (λ c. p c ≡ true) IsVisible seen text (AllPass-from_list_all p text h)

-- A last byte

pub with_last : (c : ℕ) (text : List ℕ) → ends_in c text ≡ true → IsVisible c → All IsVisible (without_last text) → All IsVisible text
with_last c text ends last front =
    subst (All IsVisible) (sym (ends_in_front c text ends))
    (All-append IsVisible (without_last text) (c ∷ []) front (All-cons IsVisible c [] last (All-nil IsVisible)))

with_final : (c : ℕ) (text : List ℕ) → IsVisible c → All IsVisible (without_final c text) → All IsVisible text
with_final c text last front = by (ends_in c text) refl front where
  by : (b : Bool) → ends_in c text ≡ b → All IsVisible (if b then without_last text else text) → All IsVisible text
  by true is h = with_last c text is last h
  by false is h = h

-- Schemes, base64-values, numbers and algorithms

scheme_char_visible : (c : ℕ) → is_scheme_char c ≡ true → IsVisible c
unfolding is_scheme_char
scheme_char_visible c h = grind (arith, nat_tests)

letter_visible : (c : ℕ) → is_ascii_alphabetic c ≡ true → IsVisible c
letter_visible c h = grind (arith, nat_tests)

pub scheme_word : (text : List ℕ) → is_lower_scheme text ≡ true → IsWord text
unfolding is_lower_scheme
scheme_word [] h = absurd (false≢true h)
scheme_word (c ∷ text) h =
    let scheme = and_parts (is_scheme (c ∷ text)) (bytes_eq (lower (c ∷ text)) (c ∷ text)) h in
    let parts = and_parts (is_ascii_alphabetic c) (list_all is_scheme_char text) scheme.0 in
    let rest = each_visible is_scheme_char scheme_char_visible text parts.1 in
    word (c ∷ text) (omega arith) (All-cons IsVisible c text (letter_visible c parts.0) rest)

base64_char_visible : (c : ℕ) → is_base64_char c ≡ true → IsVisible c
unfolding is_base64_char
base64_char_visible c h = grind (arith, nat_tests)

some_with_final : (c : ℕ) (text : List ℕ) → 0 < length (without_final c text) → 0 < length text
some_with_final c [] some = grind (arith, nat_tests)
some_with_final c (d ∷ text) some = omega arith

pub base64_word : (text : List ℕ) → is_base64_value text ≡ true → IsWord text
unfolding is_base64_value
base64_word text h =
    let inner = without_final 61 text in
    let value = without_final 61 inner in
    let parts = and_parts (is_nonempty value) (list_all is_base64_char value) h in
    let each = with_final 61 text refl (with_final 61 inner refl (each_visible is_base64_char base64_char_visible value parts.1)) in
    word text (some_with_final 61 text (some_with_final 61 inner (ltb-true 0 (length value) parts.0))) each

digit_visible : (text : List ℕ) (i : ℕ) → AllDigits 10 text → i < length text → IsVisible (get_or text i 0)
digit_visible text i digits within = let digit = digit_at text i digits within in grind (arith, nat_tests)

pub decimal_word : (n : ℕ) → n < 2 ^ 16 → IsWord (decimal n)
decimal_word n small =
    let numeral = decimal_is_IsNumeral n (omega arith) in
    word (decimal n) numeral.0.0 (All-from_get_or IsVisible (decimal n) 0 (λ i within. digit_visible (decimal n) i numeral.0.1 within))

pub algorithm_word : (algorithm : Algorithm) → IsWord (algorithm_text algorithm)
algorithm_word Sha256 = refl
algorithm_word Sha384 = refl
algorithm_word Sha512 = refl
