-- Whether keywords, nonces, integrity metadata and digests match a source list, as tests. They say what
-- `Tokens` says.
use Rattle.std.specs.Prelude.{ℕ, Bool, false, ◌&&◌, List}
use Rattle.std.specs.List.{list_any, list_all}
use Rattle.std.specs.Str.{bytes_eq}
use Rattle.base64.specs.GeneralPurpose.{encode_of}
use Rattle.base64.specs.Engines.{standard}
use Rattle.csp_model.specs.Ascii.{is_nonempty}
use Rattle.csp_model.specs.DecideEquality.{same_keyword, same_hash}
use Rattle.csp_model.specs.Tokens.{digest_by, plain_value}
use Rattle.csp_model.specs.Types.{Hash, Keyword, Source, Digests}

abbrev pub is_keyword : Keyword → Source → Bool
is_keyword word (Source.Word other) = same_keyword other word
is_keyword word s = false

abbrev pub has_keyword : Keyword → List Source → Bool
has_keyword word sources = list_any (is_keyword word) sources

abbrev pub is_nonce : List ℕ → Source → Bool
is_nonce nonce (Source.Nonce value) = bytes_eq value nonce
is_nonce nonce s = false

abbrev pub nonce_matches : List ℕ → List Source → Bool
nonce_matches nonce sources = is_nonempty nonce && list_any (is_nonce nonce) sources

abbrev pub is_hash : Hash → Source → Bool
is_hash hash (Source.Digest other) = same_hash other hash
is_hash hash s = false

abbrev pub integrity_matches : List Hash → List Source → Bool
integrity_matches integrity sources =
    is_nonempty integrity && list_all (λ h. list_any (is_hash h) sources) integrity

abbrev pub hash_matches : Hash → Digests → Bool
hash_matches hash digests =
    bytes_eq (plain_value hash.value) (encode_of standard (digest_by hash.algorithm digests))

-- a hash-source that stands for one of these digests
abbrev pub is_hash_of : Digests → Source → Bool
is_hash_of digests (Source.Digest hash) = hash_matches hash digests
is_hash_of digests s = false

abbrev pub digests_match : Digests → List Source → Bool
digests_match digests sources = list_any (is_hash_of digests) sources
