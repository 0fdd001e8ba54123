-- Printed digests read back.
use Rattle.std.proofs.Common.{arith, ◌≡◌, refl, ℕ, ◌<◌, ◌/◌, ◌%◌, ◌&&◌, Bool, true, not, suc, List, [], ◌∷◌, Some, Ok}
use Rattle.std.specs.Prelude.{slice_index}
use Rattle.std.specs.List.{list_all}
use Rattle.std.specs.Char.{is_ascii_uppercase}
use Rattle.std.proofs.lemmas.Bool.{agree_below_at}
use Rattle.hex.specs.Hex.{IsBytes, lower_digits, encode_with, encode_lower}
use Rattle.hex.proofs.HexLemmas.{decode_sized-encode_lower}
use Rattle.csp_model.specs.Validity.{IsOfSize, IsValidDigests}
use Rattle.csp_model.specs.declared.check.Digests.{Digests}
use Rattle.csp_token.proofs.Sizes.{bytes_of_size}
use Rattle.csp_request.specs.Described.{lower_hex, digests}
use Rattle.csp_request.specs.Printed.{digests_data}
use Rattle.csp_request.specs.declared.field.Field.{Field}

digit_lower : (d : ℕ) → d < 16 → not (is_ascii_uppercase (slice_index lower_digits d)) ≡ true
digit_lower d small =
    agree_below_at (λ n. not (is_ascii_uppercase (slice_index lower_digits n))) (λ _. true) 16 d refl small

both : (a b c : Bool) → a ≡ true → b ≡ true → c ≡ true → (a && (b && c)) ≡ true
both a b c first second rest = rw (first, second, rest) refl

hex_lower : (bytes : List ℕ) → IsBytes bytes
    → list_all (λ c. not (is_ascii_uppercase c)) (encode_lower bytes) ≡ true
unfolding encode_with
hex_lower [] small = refl
hex_lower (b ∷ bytes) small =
    let fits : b < 256 = small 0 in
    both _ _ _ (digit_lower (b / 16) (omega arith)) (digit_lower (b % 16) (omega arith))
    (hex_lower bytes (λ i. small (suc i)))

hex_back : (size : ℕ) (bytes : List ℕ) → IsOfSize size bytes
    → lower_hex size (encode_lower bytes) ≡ Some bytes
hex_back size bytes sized =
    let small : IsBytes bytes = bytes_of_size size bytes sized in
    rw (hex_lower bytes small, decode_sized-encode_lower bytes size sized.0 small) refl

pub digests_back : (field : Field) (known : Digests) → IsValidDigests known
    → digests field (digests_data known) ≡ Ok known
digests_back field known valid =
    rw (
      hex_back 32 known.sha256 valid.sha256,
      hex_back 48 known.sha384 valid.sha384,
      hex_back 64 known.sha512 valid.sha512,
    ) refl
