-- What an index holds of a source list.
use Rattle.std.specs.Prelude.{◌≡◌, ◌&&◌, ◌||◌, ◌==◌, ℕ, Bool, List}
use Rattle.std.specs.Borrow.{Bor}
use Rattle.std.specs.BTreeSet.{BTreeSet, btree_set_len, contains_by}
use Rattle.std.specs.Cmp.Lexicographic.{slice_cmp}
use Rattle.std.specs.List.{list_any}
use Rattle.std.specs.Ordering.{nat_cmp}
use Rattle.csp_model.specs.DecideTokens.{has_keyword, is_nonce, is_hash, digests_match}
use Rattle.csp_model.specs.Validity.{IsValidDigests}
use Rattle.csp_model.specs.declared.check.Digests.{Digests}
use Rattle.csp_model.specs.declared.source.Algorithm.{Algorithm}
use Rattle.csp_model.specs.declared.source.Algorithm.TheVariants.{Sha256, Sha384, Sha512}
use Rattle.csp_model.specs.declared.source.Hash.{Hash}
use Rattle.csp_model.specs.declared.source.Keyword.{Keyword}
use Rattle.csp_model.specs.declared.source.Source.{Source}
use Rattle.csp_token.specs.Keywords as keywords
use Rattle.csp_token.specs.declared.hash_sets.DigestSets.{DigestSets}
use Rattle.csp_token.specs.declared.hash_sets.PairSets.{PairSets}
use Rattle.csp_token.specs.declared.keyword.Keywords.{Keywords}

-- the set has a text
abbrev pub has_text : List ℕ → BTreeSet (Bor (List ℕ)) → Bool
has_text text set = contains_by (λ key. slice_cmp nat_cmp text key.now) set

-- the set has these bytes
abbrev pub has_bytes : List ℕ → BTreeSet (List ℕ) → Bool
has_bytes bytes set = contains_by (slice_cmp nat_cmp bytes) set

-- the values beside an algorithm
abbrev pub values_of : Algorithm → PairSets → BTreeSet (Bor (List ℕ))
values_of Sha256 pairs = pairs.sha256
values_of Sha384 pairs = pairs.sha384
values_of Sha512 pairs = pairs.sha512

-- the sets have no pair
abbrev pub is_empty : PairSets → Bool
is_empty pairs =
    (btree_set_len pairs.sha256 == 0)
    && ((btree_set_len pairs.sha384 == 0) && (btree_set_len pairs.sha512 == 0))

-- the sets have this pair of algorithm and value
abbrev pub has_pair : Hash → PairSets → Bool
has_pair pair pairs = has_text pair.value (values_of pair.algorithm pairs)

-- the sets have one of these digests
abbrev pub has_digest : Digests → DigestSets → Bool
has_digest digests sets =
    has_bytes digests.sha256 sets.sha256
    || (has_bytes digests.sha384 sets.sha384 || has_bytes digests.sha512 sets.sha512)

-- these are the keywords, nonces and hash-sources of the list, and the digests that the latter stand for
pub record IsIndexOf (sources : List Source) (words : Keywords) (nonces : BTreeSet (Bor (List ℕ)))
    (pairs : PairSets) (digests : DigestSets) : Type 0 where
  pub has_words : (word : Keyword) → keywords.has word words ≡ has_keyword word sources
  pub has_nonces : (nonce : List ℕ) → has_text nonce nonces ≡ list_any (is_nonce nonce) sources
  pub has_pairs : (pair : Hash) → has_pair pair pairs ≡ list_any (is_hash pair) sources
  pub has_digests : (asked : Digests) → IsValidDigests asked
      → has_digest asked digests ≡ digests_match asked sources
