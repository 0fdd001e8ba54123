-- The tests of `DecideTokens` decide what `Tokens` says.
use Rattle.std.proofs.Common.{◌≡◌, ℕ, List, Contains, ap}
use Rattle.std.specs.Bool.{Decides}
use Rattle.std.specs.List.{list_any, list_all}
use Rattle.std.specs.Str.{bytes_eq}
use Rattle.std.proofs.lemmas.Bool.Decides.{Decides-and, Decides-like}
use Rattle.std.proofs.lemmas.Slice.Eq.{bytes_eq-Decides}
use Rattle.base64.specs.GeneralPurpose.{encode_of}
use Rattle.base64.specs.Engines.{standard}
use Rattle.csp_model.specs.Ascii.{is_nonempty}
use Rattle.csp_model.specs.DecideEquality.{same_keyword, same_hash}
use Rattle.csp_model.specs.Tokens.{HasKeyword, NonceMatches, IntegrityMatches, HashMatches, digest_by, plain_value, IsHashOf, DigestsMatch}
use Rattle.csp_model.specs.DecideTokens.{is_keyword, has_keyword, is_nonce, nonce_matches, is_hash, integrity_matches, hash_matches, is_hash_of, digests_match}
use Rattle.csp_model.proofs.Deciding.{no, any_decides, all_decides, has_decides, nonempty_decides}
use Rattle.csp_model.proofs.EqualityDecided.{same_keyword_decides, same_hash_decides}
use Rattle.csp_model.specs.Types.{Hash, Keyword, Source, Digests}

pub is_keyword_decides : (word : Keyword) (s : Source) → Decides (is_keyword word s) (s ≡ Source.Word word)
is_keyword_decides word (Source.Word other) =
    Decides-like (same_keyword other word) (ap Source.Word) (λ (h : Source.Word other ≡ Source.Word word). cc)
    (same_keyword_decides other word)
is_keyword_decides word s = no (λ (h : s ≡ Source.Word word). cc)

pub keyword_decides : (word : Keyword) (sources : List Source) → Decides (has_keyword word sources) (HasKeyword word sources)
keyword_decides word sources = has_decides (is_keyword word) (Source.Word word) (is_keyword_decides word) sources

is_nonce_decides : (nonce : List ℕ) (s : Source) → Decides (is_nonce nonce s) (s ≡ Source.Nonce nonce)
is_nonce_decides nonce (Source.Nonce value) =
    Decides-like (bytes_eq value nonce) (ap Source.Nonce) (λ (h : Source.Nonce value ≡ Source.Nonce nonce). cc)
    (bytes_eq-Decides value nonce)
is_nonce_decides nonce s = no (λ (h : s ≡ Source.Nonce nonce). cc)

pub nonce_decides : (nonce : List ℕ) (sources : List Source) → Decides (nonce_matches nonce sources) (NonceMatches nonce sources)
nonce_decides nonce sources =
    Decides-and (is_nonempty nonce) (list_any (is_nonce nonce) sources) (nonempty_decides nonce)
    (has_decides (is_nonce nonce) (Source.Nonce nonce) (is_nonce_decides nonce) sources)

is_hash_decides : (hash : Hash) (s : Source) → Decides (is_hash hash s) (s ≡ Source.Digest hash)
is_hash_decides hash (Source.Digest other) =
    Decides-like (same_hash other hash) (ap Source.Digest) (λ (h : Source.Digest other ≡ Source.Digest hash). cc)
    (same_hash_decides other hash)
is_hash_decides hash s = no (λ (h : s ≡ Source.Digest hash). cc)

pub integrity_decides : (integrity : List Hash) (sources : List Source)
    → Decides (integrity_matches integrity sources) (IntegrityMatches integrity sources)
integrity_decides integrity sources =
    Decides-and (is_nonempty integrity) (list_all (λ h. list_any (is_hash h) sources) integrity) (nonempty_decides integrity)
    (all_decides (λ h. list_any (is_hash h) sources) (λ h. Contains sources (Source.Digest h))
    (λ h. has_decides (is_hash h) (Source.Digest h) (is_hash_decides h) sources) integrity)

pub hash_decides : (hash : Hash) (digests : Digests) → Decides (hash_matches hash digests) (HashMatches hash digests)
hash_decides hash digests = bytes_eq-Decides (plain_value hash.value) (encode_of standard (digest_by hash.algorithm digests))

is_hash_of_decides : (digests : Digests) (s : Source) → Decides (is_hash_of digests s) (IsHashOf digests s)
is_hash_of_decides digests (Source.Digest hash) = hash_decides hash digests
is_hash_of_decides digests s = no (λ h. h)

pub digests_decide : (digests : Digests) (sources : List Source) → Decides (digests_match digests sources) (DigestsMatch digests sources)
digests_decide digests sources = any_decides (is_hash_of digests) (IsHashOf digests) (is_hash_of_decides digests) sources
