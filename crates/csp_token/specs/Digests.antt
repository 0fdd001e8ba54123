-- Digests and the hashes that stand for them (Content Security Policy Level 3, section 6.7.3.3; FIPS 180-4).
use Rattle.std.specs.Prelude.{◌≡◌, ℕ, if◌then◌else◌, List, replicate, IsTrue}
use Rattle.sha2.specs.Sha256.{sha256}
use Rattle.sha2.specs.Sha512.{sha384, sha512}
use Rattle.csp_model.specs.Tokens.{StandsFor, algorithm_of, bytes_of, digest_by, size_of}
use Rattle.csp_model.specs.Validity.{IsOfSize}
use Rattle.csp_token.specs.Types.{Digests, Digest, Algorithm, Hash, Source, Algorithms}
use Rattle.csp_token.specs.Algorithms.{names}

-- the three digests of the bytes
abbrev pub digests_of : List ℕ → Digests
digests_of source = record { sha256 = sha256 source; sha384 = sha384 source; sha512 = sha512 source }

-- the digests of the bytes by the wanted algorithms, and zeros in place of each other digest
abbrev pub digests_for : List ℕ → Algorithms → Digests
digests_for source wanted = record {
  sha256 = if wanted.sha256 then sha256 source else replicate 32 0;
  sha384 = if wanted.sha384 then sha384 source else replicate 48 0;
  sha512 = if wanted.sha512 then sha512 source else replicate 64 0;
}

-- the digests are the same for each algorithm that the list names
abbrev pub AgreeWhereNamed : List Source → Digests → Digests → Type 0
AgreeWhereNamed sources a b =
    (algorithm : Algorithm) → IsTrue (names algorithm sources) → digest_by algorithm a ≡ digest_by algorithm b

-- a digest has as many bytes as its algorithm gives
abbrev pub IsDigest : Digest → Type 0
IsDigest digest = IsOfSize (size_of (algorithm_of digest)) (bytes_of digest)

-- the hash has the digest's algorithm, and its value is the digest's base64
abbrev pub IsDigestOf : Hash → Digest → Type 0
IsDigestOf hash digest = (algorithm_of digest ≡ hash.algorithm) × StandsFor hash.value (bytes_of digest)
