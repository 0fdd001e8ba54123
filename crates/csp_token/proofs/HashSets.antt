-- One more hash in the sets of pairs and digests.
use Rattle.std.proofs.Common.{◌≡◌, ◌∙◌, sym, ap, refl, ℕ, Bool, true, false, ◌||◌, cond, List, [], Bor}
use Rattle.std.specs.BTreeMap.{is_at}
use Rattle.std.specs.BTreeSet.{BTreeSet, Updates}
use Rattle.std.specs.Cmp.Lexicographic.{slice_cmp}
use Rattle.std.specs.List.{list_any}
use Rattle.std.specs.Ordering.{nat_cmp}
use Rattle.std.specs.Str.{bytes_eq}
use Rattle.std.specs.declared.cmp.Ordering.{Ordering}
use Rattle.std.proofs.lemmas.Bool.{false_from_ne_true}
use Rattle.std.proofs.lemmas.Map.Text.{is_eq-slice_cmp}
use Rattle.std.proofs.lemmas.Slice.Eq.{bytes_eq-Decides}
use Rattle.base64.specs.Engines.{standard}
use Rattle.base64.specs.GeneralPurpose.{encode_of}
use Rattle.csp_model.specs.DecideTokens.{hash_matches}
use Rattle.csp_model.specs.DecideEquality.{same_hash}
use Rattle.csp_model.specs.Tokens.{StandsFor, digest_by, plain_value, size_of}
use Rattle.csp_model.specs.Validity.{IsOfSize, IsValidDigests}
use Rattle.csp_token.specs.Types.{Digest, Digests, Algorithm, Hash, DigestSets, PairSets}
use Rattle.csp_model.specs.declared.source.Algorithm.TheVariants.{Sha256, Sha384, Sha512}
use Rattle.csp_token.specs.Digests.{IsDigest, IsDigestOf}
use Rattle.csp_token.specs.Index.{has_text, has_bytes, has_pair, has_digest, values_of}
use Rattle.csp_token.proofs.Base64.{one_digest}
use Rattle.csp_token.proofs.Sizes.{bytes_of_size}

pub or_none : (t : Bool) → t ≡ (t || false)
or_none true = refl
or_none false = refl

pub turned : (t before : Bool) → cond t true before ≡ (before || t)
turned true true = refl
turned true false = refl
turned false before = or_none before

-- the order of texts
abbrev pub text_cmp : Bor (List ℕ) → Bor (List ℕ) → Ordering
text_cmp x y = slice_cmp nat_cmp x.now y.now

pub no_text : (set : BTreeSet (Bor (List ℕ))) → set.keys ≡ [] → (text : List ℕ) → has_text text set ≡ false
no_text set none text = ap (list_any (is_at (λ (key : Bor (List ℕ)). slice_cmp nat_cmp text key.now))) none

pub more_text : (seen now : BTreeSet (Bor (List ℕ))) (key : Bor (List ℕ)) → Updates text_cmp seen now key true
    → (text : List ℕ) → has_text text now ≡ (has_text text seen || bytes_eq key.now text)
more_text seen now key updates text =
    updates.0 (record { ref_ptr = key.ref_ptr; now = text })
    ∙ ap (λ t. cond t true (has_text text seen)) (is_eq-slice_cmp key.now text)
    ∙ turned (bytes_eq key.now text) (has_text text seen)

more_bytes : (seen now : BTreeSet (List ℕ)) (key : List ℕ) → Updates (slice_cmp nat_cmp) seen now key true
    → (bytes : List ℕ) → has_bytes bytes now ≡ (has_bytes bytes seen || bytes_eq key bytes)
more_bytes seen now key updates bytes =
    updates.0 bytes ∙ ap (λ t. cond t true (has_bytes bytes seen)) (is_eq-slice_cmp key bytes)
    ∙ turned (bytes_eq key bytes) (has_bytes bytes seen)

-- sets of pairs, one of whose sets has one more value
abbrev more_pairs : Algorithm → PairSets → BTreeSet (Bor (List ℕ)) → PairSets
more_pairs Sha256 old set = record { sha256 = set; sha384 = old.sha384; sha512 = old.sha512 }
more_pairs Sha384 old set = record { sha256 = old.sha256; sha384 = set; sha512 = old.sha512 }
more_pairs Sha512 old set = record { sha256 = old.sha256; sha384 = old.sha384; sha512 = set }

abbrev of_parts : Algorithm → List ℕ → Hash
of_parts algorithm value = record { algorithm = algorithm; value = value }

by_parts : (a b : Algorithm) (old : PairSets) (set : BTreeSet (Bor (List ℕ))) (key : Bor (List ℕ)) (value : List ℕ)
    → Updates text_cmp (values_of a old) set key true
    → has_pair (of_parts b value) (more_pairs a old set)
    ≡ (has_pair (of_parts b value) old || same_hash (of_parts a key.now) (of_parts b value))
by_parts Sha256 Sha256 old set key value updates = more_text old.sha256 set key updates value
by_parts Sha384 Sha384 old set key value updates = more_text old.sha384 set key updates value
by_parts Sha512 Sha512 old set key value updates = more_text old.sha512 set key updates value
by_parts Sha256 Sha384 old set key value updates = or_none (has_text value old.sha384)
by_parts Sha256 Sha512 old set key value updates = or_none (has_text value old.sha512)
by_parts Sha384 Sha256 old set key value updates = or_none (has_text value old.sha256)
by_parts Sha384 Sha512 old set key value updates = or_none (has_text value old.sha512)
by_parts Sha512 Sha256 old set key value updates = or_none (has_text value old.sha256)
by_parts Sha512 Sha384 old set key value updates = or_none (has_text value old.sha384)

pub with_pair : (a : Algorithm) (old : PairSets) (set : BTreeSet (Bor (List ℕ))) (pair : Hash) (key : Bor (List ℕ))
    → pair.algorithm ≡ a → key.now ≡ pair.value → Updates text_cmp (values_of a old) set key true
    → (asked : Hash) → has_pair asked (more_pairs a old set) ≡ (has_pair asked old || same_hash pair asked)
with_pair a old set pair key algorithm value updates asked =
    by_parts a asked.algorithm old set key asked.value updates
    ∙ ap (λ v. has_pair asked old || same_hash (of_parts a v) asked) value
    ∙ ap (λ b. has_pair asked old || same_hash (of_parts b pair.value) asked) (sym algorithm)

-- the digest for which a hash stands is one of those asked for, or not
pub same_digest : (hash : Hash) (a : Algorithm) (digest : List ℕ) (asked : Digests) → a ≡ hash.algorithm
    → IsOfSize (size_of a) digest → StandsFor hash.value digest → IsOfSize (size_of a) (digest_by a asked)
    → bytes_eq digest (digest_by a asked) ≡ hash_matches hash asked
same_digest hash a digest asked is size stands sized =
    one_digest hash.value digest (digest_by a asked) (bytes_of_size (size_of a) digest size)
    (bytes_of_size (size_of a) (digest_by a asked) sized) stands
    ∙ ap (λ b. hash_matches (of_parts b hash.value) asked) is

first : (t x y z : Bool) → ((x || t) || (y || z)) ≡ ((x || (y || z)) || t)
first t true y z = refl
first true false true z = refl
first true false false true = refl
first true false false false = refl
first false false y z = or_none (y || z)

second : (t x y z : Bool) → (x || ((y || t) || z)) ≡ ((x || (y || z)) || t)
second t true y z = refl
second t false true z = refl
second true false false true = refl
second true false false false = refl
second false false false z = or_none z

third : (t x y z : Bool) → (x || (y || (z || t))) ≡ ((x || (y || z)) || t)
third t true y z = refl
third t false true z = refl
third t false false z = refl

module _ (old : DigestSets) (hash : Hash) (digest : List ℕ) (stands : StandsFor hash.value digest) where
  pub with_sha256 : (set : BTreeSet (List ℕ)) → Sha256 ≡ hash.algorithm → IsOfSize 32 digest
      → Updates (slice_cmp nat_cmp) old.sha256 set digest true → (asked : Digests) → IsValidDigests asked
      → has_digest asked (record { sha256 = set; sha384 = old.sha384; sha512 = old.sha512 })
      ≡ (has_digest asked old || hash_matches hash asked)
  with_sha256 set is size updates asked valid =
      let same = same_digest hash Sha256 digest asked is size stands valid.sha256 in
      let more : has_bytes asked.sha256 set ≡ (has_bytes asked.sha256 old.sha256 || hash_matches hash asked) =
      more_bytes old.sha256 set digest updates asked.sha256 ∙ ap (λ t. has_bytes asked.sha256 old.sha256 || t) same in
      ap (λ t. t || (has_bytes asked.sha384 old.sha384 || has_bytes asked.sha512 old.sha512)) more
      ∙ first (hash_matches hash asked) (has_bytes asked.sha256 old.sha256) (has_bytes asked.sha384 old.sha384)
      (has_bytes asked.sha512 old.sha512)

  pub with_sha384 : (set : BTreeSet (List ℕ)) → Sha384 ≡ hash.algorithm → IsOfSize 48 digest
      → Updates (slice_cmp nat_cmp) old.sha384 set digest true → (asked : Digests) → IsValidDigests asked
      → has_digest asked (record { sha256 = old.sha256; sha384 = set; sha512 = old.sha512 })
      ≡ (has_digest asked old || hash_matches hash asked)
  with_sha384 set is size updates asked valid =
      let same = same_digest hash Sha384 digest asked is size stands valid.sha384 in
      let more : has_bytes asked.sha384 set ≡ (has_bytes asked.sha384 old.sha384 || hash_matches hash asked) =
      more_bytes old.sha384 set digest updates asked.sha384 ∙ ap (λ t. has_bytes asked.sha384 old.sha384 || t) same in
      ap (λ t. has_bytes asked.sha256 old.sha256 || (t || has_bytes asked.sha512 old.sha512)) more
      ∙ second (hash_matches hash asked) (has_bytes asked.sha256 old.sha256) (has_bytes asked.sha384 old.sha384)
      (has_bytes asked.sha512 old.sha512)

  pub with_sha512 : (set : BTreeSet (List ℕ)) → Sha512 ≡ hash.algorithm → IsOfSize 64 digest
      → Updates (slice_cmp nat_cmp) old.sha512 set digest true → (asked : Digests) → IsValidDigests asked
      → has_digest asked (record { sha256 = old.sha256; sha384 = old.sha384; sha512 = set })
      ≡ (has_digest asked old || hash_matches hash asked)
  with_sha512 set is size updates asked valid =
      let same = same_digest hash Sha512 digest asked is size stands valid.sha512 in
      let more : has_bytes asked.sha512 set ≡ (has_bytes asked.sha512 old.sha512 || hash_matches hash asked) =
      more_bytes old.sha512 set digest updates asked.sha512 ∙ ap (λ t. has_bytes asked.sha512 old.sha512 || t) same in
      ap (λ t. has_bytes asked.sha256 old.sha256 || (has_bytes asked.sha384 old.sha384 || t)) more
      ∙ third (hash_matches hash asked) (has_bytes asked.sha256 old.sha256) (has_bytes asked.sha384 old.sha384)
      (has_bytes asked.sha512 old.sha512)

-- the digest of one algorithm
abbrev digest_of : Algorithm → Digests → Digest
digest_of Sha256 digests = Digest.Sha256 digests.sha256
digest_of Sha384 digests = Digest.Sha384 digests.sha384
digest_of Sha512 digests = Digest.Sha512 digests.sha512

no_match : (a : Algorithm) (value : List ℕ) (asked : Digests) → IsValidDigests asked
    → ((digest : Digest) → IsDigest digest → ¬ IsDigestOf (of_parts a value) digest)
    → hash_matches (of_parts a value) asked ≡ true → ⊥
no_match Sha256 value asked valid none h =
    none (digest_of Sha256 asked) valid.sha256 (refl, (bytes_eq-Decides (plain_value value) (encode_of standard asked.sha256)).0 h)
no_match Sha384 value asked valid none h =
    none (digest_of Sha384 asked) valid.sha384 (refl, (bytes_eq-Decides (plain_value value) (encode_of standard asked.sha384)).0 h)
no_match Sha512 value asked valid none h =
    none (digest_of Sha512 asked) valid.sha512 (refl, (bytes_eq-Decides (plain_value value) (encode_of standard asked.sha512)).0 h)

pub with_none : (old : DigestSets) (hash : Hash) → ((digest : Digest) → IsDigest digest → ¬ IsDigestOf hash digest)
    → (asked : Digests) → IsValidDigests asked → has_digest asked old ≡ (has_digest asked old || hash_matches hash asked)
with_none old hash none asked valid =
    or_none (has_digest asked old)
    ∙ ap (λ t. has_digest asked old || t)
    (sym (false_from_ne_true (hash_matches hash asked) (no_match hash.algorithm hash.value asked valid none)))
