-- The digest that a hash is found to stand for is its digest.
use Rattle.std.proofs.Common.{◌≡◌, ◌∙◌, sym, ap, refl, ℕ, Bool, true, false, ◌==◌, List, length, Option, Some, None, Result, Ok, Err, IfSome}
use Rattle.std.specs.Prelude.{IsNone, if◌then◌else◌}
use Rattle.std.specs.Option.{option_and_then}
use Rattle.std.specs.Result.{result_ok}
use Rattle.std.proofs.lemmas.Bool.{and_from, and_parts, eq-eqb, eqb-true, cond-true}
use Rattle.base64.specs.Engines.{standard}
use Rattle.base64.specs.GeneralPurpose.{IsBytes, decode_of, encode_of, IsStrict}
use Rattle.base64.specs.declared.decode.DecodeError.{DecodeError}
use Rattle.base64.proofs.EngineFacts.{decode_of-encode_of, decode_of_strict}
use Rattle.csp_model.specs.Tokens.{plain_value, size_of, algorithm_of, bytes_of}
use Rattle.csp_model.specs.Validity.{are_bytes}
use Rattle.csp_model.specs.declared.check.Digest.{Digest}
use Rattle.csp_model.specs.declared.check.Digest.TheVariants as one
use Rattle.csp_model.specs.declared.source.Algorithm.{Algorithm}
use Rattle.csp_model.specs.declared.source.Algorithm.TheVariants.{Sha256, Sha384, Sha512}
use Rattle.csp_model.specs.declared.source.Hash.{Hash}
use Rattle.csp_token.specs.Digests.{IsDigest, IsDigestOf}
use Rattle.csp_token.proofs.Base64.{IsBytes-plain_value}
use Rattle.csp_token.proofs.Sizes.{bytes_of_size}
use Rattle.csp_formula.specs.Compiled.{is_of_size, digest_with, digest_of}

rebuilt : (d : Digest) → digest_with (algorithm_of d) (bytes_of d) ≡ d
rebuilt (one.Sha256 b) = refl
rebuilt (one.Sha384 b) = refl
rebuilt (one.Sha512 b) = refl

with_algorithm : (a : Algorithm) (bytes : List ℕ) → algorithm_of (digest_with a bytes) ≡ a
with_algorithm Sha256 bytes = refl
with_algorithm Sha384 bytes = refl
with_algorithm Sha512 bytes = refl

with_bytes : (a : Algorithm) (bytes : List ℕ) → bytes_of (digest_with a bytes) ≡ bytes
with_bytes Sha256 bytes = refl
with_bytes Sha384 bytes = refl
with_bytes Sha512 bytes = refl

pub sized_digest : (a : Algorithm) (bytes : List ℕ) → is_of_size (size_of a) bytes ≡ true → IsDigest (digest_with a bytes)
sized_digest Sha256 bytes h = let parts = and_parts (length bytes == 32) (are_bytes bytes) h in (eqb-true (length bytes) 32 parts.0, parts.1)
sized_digest Sha384 bytes h = let parts = and_parts (length bytes == 48) (are_bytes bytes) h in (eqb-true (length bytes) 48 parts.0, parts.1)
sized_digest Sha512 bytes h = let parts = and_parts (length bytes == 64) (are_bytes bytes) h in (eqb-true (length bytes) 64 parts.0, parts.1)

-- the digest of bytes that a value decodes to
abbrev of_bytes : Algorithm → List ℕ → Option Digest
of_bytes a bytes = if is_of_size (size_of a) bytes then Some (digest_with a bytes) else None

found : (hash : Hash) (d : Digest) → IsDigestOf hash d → IsDigest d → Some d ≡ digest_of hash
found hash d is sized =
    let bytes = bytes_of d in
    let a = hash.algorithm in
    let decoded : decode_of standard (plain_value hash.value) ≡ Ok bytes =
    ap (decode_of standard) is.1 ∙ decode_of-encode_of standard bytes refl (bytes_of_size (size_of (algorithm_of d)) bytes sized) in
    let size : is_of_size (size_of a) bytes ≡ true =
    and_from (length bytes == size_of a) (are_bytes bytes) (eq-eqb (length bytes) (size_of a) (sized.0 ∙ ap size_of is.0)) sized.1 in
    sym (ap (λ r. option_and_then (of_bytes a) (result_ok r)) decoded
    ∙ cond-true (is_of_size (size_of a) bytes) (Some (digest_with a bytes)) None size
    ∙ ap Some (ap (λ x. digest_with x bytes) (sym is.0) ∙ rebuilt d))

no_size : (hash : Hash) (bytes : List ℕ) → IsBytes hash.value → decode_of standard (plain_value hash.value) ≡ Ok bytes
    → ((d : Digest) → IsDigest d → ¬ IsDigestOf hash d) → (n : Bool) → is_of_size (size_of hash.algorithm) bytes ≡ n
    → None ≡ (if n then Some (digest_with hash.algorithm bytes) else None)
no_size hash bytes small e none true size =
    let strict : IsStrict standard = (refl, refl) in
    let stands = decode_of_strict standard (plain_value hash.value) bytes strict (IsBytes-plain_value hash.value small) e in
    absurd (none (digest_with hash.algorithm bytes) (sized_digest hash.algorithm bytes size)
    (with_algorithm hash.algorithm bytes, stands ∙ ap (encode_of standard) (sym (with_bytes hash.algorithm bytes))))
no_size hash bytes small e none false size = refl

missing : (hash : Hash) → IsBytes hash.value → ((d : Digest) → IsDigest d → ¬ IsDigestOf hash d)
    → (r : Result (List ℕ) DecodeError) → decode_of standard (plain_value hash.value) ≡ r → None ≡ option_and_then (of_bytes hash.algorithm) (result_ok r)
missing hash small none (Ok bytes) e = no_size hash bytes small e none (is_of_size (size_of hash.algorithm) bytes) refl
missing hash small none (Err err) e = refl

pub digest_found : (hash : Hash) (r : Option Digest) → IsBytes hash.value → IfSome r (IsDigestOf hash) → IfSome r IsDigest
    → (IsNone r → (d : Digest) → IsDigest d → ¬ IsDigestOf hash d) → r ≡ digest_of hash
digest_found hash (Some d) small is sized none = found hash d is sized
digest_found hash None small is sized none = missing hash small (none refl) (decode_of standard (plain_value hash.value)) refl
