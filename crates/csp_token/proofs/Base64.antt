-- Base64-values and the bytes that they stand for.
use Rattle.std.proofs.Common.{◌≡◌, ℕ, ◌+◌, ◌<◌, ◌≤◌, List, length, take, get_or, arith, sym, ap, refl, inl, inr, lit<, ◌∙◌, Ok, Err, length-append}
use Rattle.std.proofs.lemmas.Bool.{cases_lt}
use Rattle.std.proofs.lemmas.List.{length-map, length-replicate, get_or-map, length-take-le, get_or_past}
use Rattle.std.proofs.lemmas.Bool.Decides.{Decides-like, same_from_decides}
use Rattle.std.proofs.lemmas.Grind.{common_steps}
use Rattle.std.proofs.lemmas.Slice.Eq.{bytes_eq-Decides}
use Rattle.std.specs.Str.{bytes_eq}
use Rattle.base64.specs.Engines.{standard}
use Rattle.base64.specs.GeneralPurpose.{encode_of, decode_of, IsBytes, IsDecodedInto}
use Rattle.base64.specs.Rfc4648.{unpadded_len, padding_len}
use Rattle.base64.specs.declared.decode.DecodeError.{DecodeError}
use Rattle.base64.proofs.EngineFacts.{decode_of-encode_of}
use Rattle.base64.proofs.RoundTrip.{length-encode_symbols}
use Rattle.csp_model.specs.Tokens.{plain_symbol, plain_value}

length-encode_of : (d : List ℕ) → length (encode_of standard d) ≡ unpadded_len (length d) + padding_len (length d)
length-encode_of d = simp (length-append, length-encode_symbols, length-replicate)

length-plain_value : (v : List ℕ) → length (plain_value v) ≡ length v
length-plain_value v = simp length-map

pub short : (v d : List ℕ) (n : ℕ) → length d ≡ n → n ≤ 64 → plain_value v ≡ encode_of standard d → length v ≤ 88
short v d n len small eq =
    let a : length v ≡ length (encode_of standard d) = sym (length-plain_value v) ∙ ap length eq in
    let b = length-encode_of d in
    omega arith

-- what decodes to bytes is the encoding of no others
decodes_back : (d : List ℕ) → IsBytes d → decode_of standard (encode_of standard d) ≡ Ok d
decodes_back d bytes = decode_of-encode_of standard d refl bytes

pub refused : (v d : List ℕ) (e : DecodeError) → IsBytes d → plain_value v ≡ encode_of standard d
    → decode_of standard (plain_value v) ≡ Err e → ⊥
refused v d e bytes eq err =
    let a = decodes_back d bytes in
    let b : decode_of standard (encode_of standard d) ≡ Err e = rw eq at err in
    cc (a, b)

plain_small : (b : ℕ) → b < 256 → plain_symbol b < 256
plain_small b h = grind (arith, common_steps)

pub same_size : (v d old new : List ℕ) (n count : ℕ) → IsBytes d → length d ≡ n → length new ≡ length old
    → plain_value v ≡ encode_of standard d → IsDecodedInto standard (plain_value v) count old new → count ≡ n
same_size v d old new n count bytes len same eq into =
    let a = decodes_back d bytes in
    let b : decode_of standard (encode_of standard d) ≡ Ok (take count new) = rw eq at into.0 in
    let e : d ≡ take count new = cc (a, b) in
    let g = into.2 in
    let f : count ≤ length new = omega (arith, g) in
    sym (length-take-le count new f) ∙ (ap length (sym e) ∙ len)

pub IsBytes-plain_value : (v : List ℕ) → IsBytes v → IsBytes (plain_value v)
IsBytes-plain_value v h = λ i. elim (cases_lt i (length v)) [
  | inl lt ↦ rw (get_or-map plain_symbol v i 0 0 lt) (plain_small (get_or v i 0) (h i))
  | inr ge ↦
      let past : length (plain_value v) ≤ i = simp length-map ge in
      rw (get_or_past (plain_value v) i 0 past) (lit< tt)
]

encoded_once : (d e : List ℕ) → IsBytes d → IsBytes e → encode_of standard d ≡ encode_of standard e → d ≡ e
encoded_once d e ds es same =
    let a = decodes_back d ds in
    let b = decodes_back e es in
    let c : decode_of standard (encode_of standard e) ≡ Ok d = rw same at a in
    cc (b, c)

-- a value stands for one digest
pub one_digest : (v d e : List ℕ) → IsBytes d → IsBytes e → plain_value v ≡ encode_of standard d
    → bytes_eq d e ≡ bytes_eq (plain_value v) (encode_of standard e)
one_digest v d e ds es stands =
    same_from_decides (bytes_eq d e) (bytes_eq (plain_value v) (encode_of standard e)) (bytes_eq-Decides d e)
    (Decides-like (bytes_eq (plain_value v) (encode_of standard e))
    (λ (h : plain_value v ≡ encode_of standard e). encoded_once d e ds es (sym stands ∙ h))
    (λ (h : d ≡ e). stands ∙ ap (encode_of standard) h) (bytes_eq-Decides (plain_value v) (encode_of standard e)))
