-- The value of a pair is a text without whitespace and "?", where its token has no whitespace.
use Rattle.std.proofs.Common.{arith, ◌≡◌, ◌<◌, ◌+◌, ◌==◌, ◌&&◌, not, ℕ, Bool, true, false, List, length, take, get_or, inl, inr, All, subst}
use Rattle.std.specs.List.{before_first, after_first, position_or_len}
use Rattle.std.specs.Char.{is_ascii_whitespace}
use Rattle.std.specs.Str.{IsUtf8, IsCharBoundary}
use Rattle.std.proofs.lemmas.Bool.{cases_lt}
use Rattle.std.proofs.lemmas.Bool.Decides.{nat_tests}
use Rattle.std.proofs.lemmas.List.{get_or-take, length-take, drop_all}
use Rattle.std.proofs.lemmas.List.Elements.{All-from_get_or, All-get_or, All-drop}
use Rattle.std.proofs.lemmas.List.Sums.{fails_before_first, passes_at_first, prefix_len-le-length, list_all-from_AllPass}
use Rattle.std.proofs.lemmas.Str.{IsUtf8-nil, IsUtf8-take, IsUtf8-drop, IsCharBoundary-end, IsCharBoundary-before_ascii, IsCharBoundary-after_ascii}
use Rattle.csp_model.specs.Ascii.{code}
use Rattle.csp_model.specs.Validity.{IsIntegrityValue}
use Rattle.csp_model.proofs.WordLaws.{IsSolid}
use Rattle.csp_token.specs.Integrity.{is_hyphen, is_question_mark}

-- a test that ASCII characters alone pass
abbrev IsOfAscii : (ℕ → Bool) → Type 0
IsOfAscii p = (b : ℕ) → p b ≡ true → b < 128

front_text : (p : ℕ → Bool) → IsOfAscii p → (text : List ℕ) → IsUtf8 text → IsUtf8 (before_first p text)
front_text p ascii text utf8 =
    let n = position_or_len p text in
    IsUtf8-take text n utf8 (elim (cases_lt n (length text)) [
      | inl lt ↦ IsCharBoundary-before_ascii text n lt (ascii (get_or text n 0) (passes_at_first p text 0 lt))
      | inr ge ↦
          let within = prefix_len-le-length (λ b. not (p b)) text in
          subst (IsCharBoundary text) (omega (arith, ge, within)) (IsCharBoundary-end text)
    ])

back_text : (p : ℕ → Bool) → IsOfAscii p → (text : List ℕ) → IsUtf8 text → IsUtf8 (after_first p text)
back_text p ascii text utf8 =
    let n = position_or_len p text in
    elim (cases_lt n (length text)) [
      | inl lt ↦
          let small = ascii (get_or text n 0) (passes_at_first p text 0 lt) in
          IsUtf8-drop text (n + 1) utf8 (IsCharBoundary-after_ascii text n utf8 lt small)
      | inr ge ↦ rw (drop_all (n + 1) text (omega (arith, ge))) IsUtf8-nil
    ]

hyphen_ascii : IsOfAscii is_hyphen
unfolding is_hyphen
hyphen_ascii b h = grind (arith, nat_tests, h)

question_mark_ascii : IsOfAscii is_question_mark
unfolding is_question_mark
question_mark_ascii b h = grind (arith, nat_tests, h)

-- a byte of a value
abbrev pub is_value_byte : ℕ → Bool
is_value_byte b = not (is_ascii_whitespace b) && not (b == code "?")

value_byte : (b : ℕ) → is_ascii_whitespace b ≡ false → is_question_mark b ≡ false → is_value_byte b ≡ true
unfolding is_question_mark
value_byte b solid other = grind (arith, nat_tests, solid, other)

value_bytes : (token : List ℕ) → IsSolid token → All (λ b. is_value_byte b ≡ true) (before_first is_question_mark token)
value_bytes token solid =
    let n = position_or_len is_question_mark token in
    All-from_get_or (λ b. is_value_byte b ≡ true) (take n token) 0 (λ i within.
    let inside : i < n = omega (arith, within, length-take {A = ℕ}) in
    let whole : i < length token = omega (arith, within, length-take {A = ℕ}) in
    rw (get_or-take n token i 0 inside)
    (value_byte (get_or token i 0) (All-get_or (λ b. is_ascii_whitespace b ≡ false) token i 0 whole solid)
    (fails_before_first is_question_mark token i 0 inside)))

pub value_valid : (token : List ℕ) → IsUtf8 token → IsSolid token
    → IsIntegrityValue (after_first is_hyphen (before_first is_question_mark token))
value_valid token utf8 solid =
    let front = before_first is_question_mark token in (
      back_text is_hyphen hyphen_ascii front (front_text is_question_mark question_mark_ascii token utf8),
      list_all-from_AllPass is_value_byte (after_first is_hyphen front)
          (All-drop (λ b. is_value_byte b ≡ true) (position_or_len is_hyphen front + 1) front (value_bytes token solid)),
    )
