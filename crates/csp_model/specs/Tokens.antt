-- Nonces, digests and integrity metadata (Content Security Policy Level 3, sections 6.7.2.3, 6.7.2.4 and
-- 6.7.3.3; Subresource Integrity, section 3.3).
use Rattle.std.specs.Prelude.{◌≡◌, ◌≢◌, ℕ, ◌==◌, if◌then◌else◌, List, [], map, All, Any, Contains}
use Rattle.base64.specs.GeneralPurpose.{encode_of}
use Rattle.base64.specs.Engines.{standard}
use Rattle.csp_model.specs.Ascii.{code}
use Rattle.csp_model.specs.Types.{Algorithm, Hash, Keyword, Source, Digest, Digests}
use Rattle.csp_model.specs.declared.source.Algorithm.TheVariants.{Sha256, Sha384, Sha512}

abbrev pub HasKeyword : Keyword → List Source → Type 0
HasKeyword word sources = Contains sources (Source.Word word)

-- a nonce matches a source list: it isn't empty, and a nonce-source has it
abbrev pub NonceMatches : List ℕ → List Source → Type 0
NonceMatches nonce sources = (nonce ≢ []) × Contains sources (Source.Nonce nonce)

-- integrity metadata matches a source list: it isn't empty, and each of its pairs is a hash-source
abbrev pub IntegrityMatches : List Hash → List Source → Type 0
IntegrityMatches integrity sources =
    (integrity ≢ []) × All (λ h. Contains sources (Source.Digest h)) integrity

-- the digest of one algorithm
abbrev pub digest_by : Algorithm → Digests → List ℕ
digest_by Sha256 digests = digests.sha256
digest_by Sha384 digests = digests.sha384
digest_by Sha512 digests = digests.sha512

abbrev pub algorithm_of : Digest → Algorithm
algorithm_of (Digest.Sha256 d) = Sha256
algorithm_of (Digest.Sha384 d) = Sha384
algorithm_of (Digest.Sha512 d) = Sha512

abbrev pub bytes_of : Digest → List ℕ
bytes_of (Digest.Sha256 d) = d
bytes_of (Digest.Sha384 d) = d
bytes_of (Digest.Sha512 d) = d

-- how many bytes a digest of the algorithm has (FIPS 180-4)
abbrev pub size_of : Algorithm → ℕ
size_of Sha256 = 32
size_of Sha384 = 48
size_of Sha512 = 64

-- a symbol of base64 in the standard alphabet: "-" is read as "+", and "_" as "/"
abbrev pub plain_symbol : ℕ → ℕ
plain_symbol c = if c == code "-" then code "+" else if c == code "_" then code "/" else c

-- a base64-value in the standard alphabet
abbrev pub plain_value : List ℕ → List ℕ
plain_value value = map plain_symbol value

-- a hash's value is the standard base64 of this digest
abbrev pub StandsFor : List ℕ → List ℕ → Type 0
StandsFor value digest = plain_value value ≡ encode_of standard digest

-- a hash is one of these digests
abbrev pub HashMatches : Hash → Digests → Type 0
HashMatches hash digests = StandsFor hash.value (digest_by hash.algorithm digests)

abbrev pub IsHashOf : Digests → Source → Type 0
IsHashOf digests (Source.Digest hash) = HashMatches hash digests
IsHashOf digests other = ⊥

-- some hash-source of the list is one of these digests
abbrev pub DigestsMatch : Digests → List Source → Type 0
DigestsMatch digests sources = Any (IsHashOf digests) sources
