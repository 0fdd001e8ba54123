-- The tokens of a drill are short texts of ASCII.
use Rattle.std.proofs.Common.{◌≡◌, ◌<◌, ◌≤◌, ◌+◌, ◌%◌, ◌^◌, ℕ, zero, suc, true, List, [], ◌∷◌, ◌++◌, length, map, refl, arith, length-append}
use Rattle.std.specs.Prelude.{All, codes, decimal}
use Rattle.std.specs.List.{range_with_len}
use Rattle.std.proofs.lemmas.Bool.Decides.{nat_tests}
use Rattle.std.proofs.lemmas.Fmt.{decimal_by_steps, length-decimal-le}
use Rattle.std.proofs.lemmas.Grind.{common_steps}
use Rattle.std.proofs.lemmas.List.Elements.{All-nil, All-cons}
use Rattle.csp_model.specs.Ascii.{is_ascii_text}
use Rattle.csp_output.specs.Drills.{first_token, second_token, tokens_up_to}

ascii-append : (a b : List ℕ) → is_ascii_text a ≡ true → is_ascii_text b ≡ true → is_ascii_text (a ++ b) ≡ true
ascii-append [] b h k = k
ascii-append (c ∷ a) b h k = grind (arith, common_steps, ascii-append a b)

one_digit : (n : ℕ) → n < 10 → is_ascii_text ((48 + n) ∷ []) ≡ true
one_digit n small = grind (arith, nat_tests)

more_digits : (n : ℕ) (ds : List ℕ) → 10 ≤ n → is_ascii_text ds ≡ true
    → is_ascii_text (ds ++ ((48 + n % 10) ∷ [])) ≡ true
more_digits n ds more h = ascii-append ds _ h (one_digit (n % 10) (omega arith))

decimal_ascii : (n : ℕ) → n < 2 ^ 64 → is_ascii_text (decimal n) ≡ true
decimal_ascii n small = decimal_by_steps (λ m ds. is_ascii_text ds ≡ true) one_digit more_digits n small

-- a text of ASCII of at most so many bytes
pub record IsPlain (most : ℕ) (text : List ℕ) : Type 0 where
  pub ascii : is_ascii_text text ≡ true
  pub short : length text ≤ most

joined : (m n : ℕ) (a b : List ℕ) → IsPlain m a → IsPlain n b → IsPlain (m + n) (a ++ b)
joined m n a b one other = record {
  ascii = ascii-append a b one.ascii other.ascii;
  short = omega (arith, length-append a b, one.short, other.short);
}

numeral : (n : ℕ) → n < 2 ^ 32 → IsPlain 20 (decimal n)
numeral n small = record {
  ascii = decimal_ascii n (omega arith);
  short = length-decimal-le 20 n (omega arith) (omega arith) (omega arith);
}

widened : (m n : ℕ) (text : List ℕ) → m ≤ n → IsPlain m text → IsPlain n text
widened m n text within plain = record { ascii = plain.ascii; short = omega (arith, within, plain.short) }

pub plain_first : (pair : ℕ) → pair < 2 ^ 16 → IsPlain 4096 (first_token pair)
unfolding first_token
plain_first pair small =
    let slash : IsPlain 1 (codes "/") = record { ascii = refl; short = omega arith } in
    let path = joined 20 1 (decimal (pair % 5)) _ (numeral (pair % 5) (omega arith)) slash in
    let middle : IsPlain 2 (codes "/d") = record { ascii = refl; short = omega arith } in
    let behind_port = joined 2 21 (codes "/d") _ middle path in
    let port = joined 20 23 (decimal (8000 + pair % 7)) _ (numeral (8000 + pair % 7) (omega arith)) behind_port in
    let parent : IsPlain 9 (codes ".example:") = record { ascii = refl; short = omega arith } in
    let behind_label = joined 9 43 (codes ".example:") _ parent port in
    let label = joined 20 52 (decimal pair) _ (numeral pair (omega arith)) behind_label in
    let front : IsPlain 9 (codes "https://h") = record { ascii = refl; short = omega arith } in
    widened 81 4096 _ (omega arith) (joined 9 72 (codes "https://h") _ front label)

pub plain_second : (pair : ℕ) → pair < 2 ^ 16 → IsPlain 4096 (second_token pair)
unfolding second_token
plain_second pair small =
    let slash : IsPlain 1 (codes "/") = record { ascii = refl; short = omega arith } in
    let path = joined 20 1 (decimal (pair % 5)) _ (numeral (pair % 5) (omega arith)) slash in
    let middle : IsPlain 12 (codes ".example:*/d") = record { ascii = refl; short = omega arith } in
    let behind_label = joined 12 21 (codes ".example:*/d") _ middle path in
    let label = joined 20 33 (decimal pair) _ (numeral pair (omega arith)) behind_label in
    let front : IsPlain 9 (codes "https://h") = record { ascii = refl; short = omega arith } in
    widened 62 4096 _ (omega arith) (joined 9 53 (codes "https://h") _ front label)

-- what holds of the token of each pair holds of all
each_from : (P : List ℕ → Type 0) (token : ℕ → List ℕ) (from count most : ℕ)
    → ((pair : ℕ) → pair < most → P (token pair)) → from + count ≤ most
    → All P (map token (range_with_len from count))
each_from P token from zero most each within = All-nil P
each_from P token from (suc count) most each within =
    All-cons P _ _ (each from (omega arith)) (each_from P token (from + 1) count most each (omega arith))

pub each_token : (P : List ℕ → Type 0) (token : ℕ → List ℕ) (pairs : ℕ) → pairs < 2 ^ 8
    → ((pair : ℕ) → pair < 2 ^ 16 → P (token pair)) → All P (tokens_up_to token pairs)
each_token P token pairs few each = each_from P token 1 pairs (2 ^ 16) each (omega arith)
