-- A valid digest is spelled by its algorithm and a word of hexadecimal digits, and no other valid digest by the same.
use Rattle.std.proofs.Common.{arith, ◌≡◌, ◌∙◌, sym, ap, ℕ, ◌<◌, ◌/◌, ◌%◌, true, nat_lt, List, [], ◌∷◌, length, zero, suc, Some, All, refl}
use Rattle.std.specs.Prelude.{slice_index}
use Rattle.std.proofs.lemmas.Bool.{and_parts, agree_below_at, ltb-true}
use Rattle.std.proofs.lemmas.List.Elements.{All-nil, All-cons}
use Rattle.hex.specs.Hex.{IsBytes, decode_of, lower_digits, encode_with, encode_lower}
use Rattle.hex.proofs.HexLemmas.{length-encode_with, decode_of-same, decode_of-encode_lower}
use Rattle.csp_model.specs.Grammar.{algorithm_text, algorithm_named}
use Rattle.csp_model.specs.Validity.{are_bytes}
use Rattle.csp_model.specs.declared.check.Digest.{Digest}
use Rattle.csp_model.specs.declared.check.Digest.TheVariants.{Sha256, Sha384, Sha512}
use Rattle.csp_model.specs.declared.source.Algorithm.{Algorithm}
use Rattle.csp_model.specs.declared.source.Algorithm.TheVariants as algorithm
use Rattle.csp_model.specs.declared.source.Hash.{Hash}
use Rattle.csp_model.specs.Tokens.{algorithm_of, bytes_of}
use Rattle.csp_facts.specs.Atoms.{IsValidDigest}
use Rattle.csp_facts.specs.Spelling.{is_visible}
use Rattle.csp_facts.proofs.SpelledWords.{IsWord, IsVisible, word}

named_back : (algorithm : Algorithm) → algorithm_named (algorithm_text algorithm) ≡ Some algorithm
named_back algorithm.Sha256 = refl
named_back algorithm.Sha384 = refl
named_back algorithm.Sha512 = refl

algorithm_told : (first second : Algorithm) → algorithm_text first ≡ algorithm_text second → first ≡ second
algorithm_told first second same = let e = sym (named_back first) ∙ ap algorithm_named same ∙ named_back second in cc e

pub hash_told : (first second : Hash) → algorithm_text first.algorithm ≡ algorithm_text second.algorithm → first.value ≡ second.value → first ≡ second
hash_told first second named same =
    ap (λ (a : Algorithm). record { algorithm = a; value = first.value }) (algorithm_told first.algorithm second.algorithm named)
    ∙ ap (λ (v : List ℕ). record { algorithm = second.algorithm; value = v }) same

valid_bytes : (digest : Digest) → IsValidDigest digest → are_bytes (bytes_of digest) ≡ true
valid_bytes (Sha256 d) valid = valid.1
valid_bytes (Sha384 d) valid = valid.1
valid_bytes (Sha512 d) valid = valid.1

nonempty : (digest : Digest) → IsValidDigest digest → 0 < length (bytes_of digest)
nonempty (Sha256 d) valid = omega (arith, valid.0)
nonempty (Sha384 d) valid = omega (arith, valid.0)
nonempty (Sha512 d) valid = omega (arith, valid.0)

bytes_are : (text : List ℕ) → are_bytes text ≡ true → IsBytes text
bytes_are [] h i = omega arith
bytes_are (b ∷ text) h zero = ltb-true b 256 (and_parts (nat_lt b 256) (are_bytes text) h).0
bytes_are (b ∷ text) h (suc i) = bytes_are text (and_parts (nat_lt b 256) (are_bytes text) h).1 i

digit_visible : (d : ℕ) → d < 16 → IsVisible (slice_index lower_digits d)
digit_visible d small = agree_below_at (λ n. is_visible (slice_index lower_digits n)) (λ _. true) 16 d refl small

hex_visible : (text : List ℕ) → IsBytes text → All IsVisible (encode_lower text)
unfolding encode_with
hex_visible [] bytes = All-nil IsVisible
hex_visible (b ∷ text) bytes =
    let fits : b < 256 = bytes 0 in
    let rest = hex_visible text (λ i. bytes (suc i)) in
    let low = slice_index lower_digits (b % 16) in
    All-cons IsVisible (slice_index lower_digits (b / 16)) (low ∷ encode_lower text) (digit_visible (b / 16) (omega arith))
    (All-cons IsVisible low (encode_lower text) (digit_visible (b % 16) (omega arith)) rest)

hex_word : (text : List ℕ) → 0 < length text → IsBytes text → IsWord (encode_lower text)
hex_word text some bytes = word (encode_lower text) (omega (arith, length-encode_with lower_digits text)) (hex_visible text bytes)

pub digest_word : (digest : Digest) → IsValidDigest digest → IsWord (encode_lower (bytes_of digest))
digest_word digest valid = hex_word (bytes_of digest) (nonempty digest valid) (bytes_are (bytes_of digest) (valid_bytes digest valid))

same_bytes : (first second : Digest) → IsValidDigest first → IsValidDigest second → encode_lower (bytes_of first) ≡ encode_lower (bytes_of second) → bytes_of first ≡ bytes_of second
same_bytes first second valid also same =
    let a = bytes_are (bytes_of first) (valid_bytes first valid) in
    let b = bytes_are (bytes_of second) (valid_bytes second also) in
    decode_of-same (encode_lower (bytes_of second)) (bytes_of first) (bytes_of second)
    (ap decode_of (sym same) ∙ decode_of-encode_lower (bytes_of first) a) (decode_of-encode_lower (bytes_of second) b)

from_parts : (first second : Digest) → algorithm_of first ≡ algorithm_of second → bytes_of first ≡ bytes_of second → first ≡ second
from_parts (Sha256 d) (Sha256 e) algorithm bytes = ap Sha256 bytes
from_parts (Sha384 d) (Sha384 e) algorithm bytes = ap Sha384 bytes
from_parts (Sha512 d) (Sha512 e) algorithm bytes = ap Sha512 bytes
from_parts first second algorithm bytes = cc

pub digest_told : (first second : Digest) → IsValidDigest first → IsValidDigest second → algorithm_text (algorithm_of first) ≡ algorithm_text (algorithm_of second)
    → encode_lower (bytes_of first) ≡ encode_lower (bytes_of second) → first ≡ second
digest_told first second valid also named same =
    from_parts first second (algorithm_told (algorithm_of first) (algorithm_of second) named) (same_bytes first second valid also same)
