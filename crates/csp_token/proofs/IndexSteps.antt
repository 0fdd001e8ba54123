-- What an index holds once it has one more source.
use Rattle.std.proofs.Common.{◌≡◌, ◌≢◌, ◌∙◌, sym, ap, refl, ℕ, Bool, true, false, ◌||◌, ◌&&◌, List, [], ◌∷◌, ◌++◌, Bor}
use Rattle.std.specs.BTreeSet.{BTreeSet, Updates}
use Rattle.std.specs.List.{list_any, list_all}
use Rattle.std.proofs.lemmas.List.Folds.{list_any-append}
use Rattle.csp_model.specs.DecideTokens.{is_keyword, is_nonce, is_hash, is_hash_of, hash_matches}
use Rattle.csp_model.specs.DecideEquality.{same_hash, same_keyword}
use Rattle.csp_model.specs.Validity.{IsValidDigests}
use Rattle.csp_token.specs.Types.{Digests, Hash, Keyword, Source, DigestSets, PairSets, Keywords}
use Rattle.csp_token.specs.Index.{has_text, has_pair, has_digest, IsIndexOf}
use Rattle.csp_token.specs.Keywords as keywords
use Rattle.csp_token.proofs.HashSets.{or_none, text_cmp, more_text}

one_more : (p : Source → Bool) (sources : List Source) (s : Source)
    → list_any p (sources ++ s ∷ []) ≡ (list_any p sources || p s)
one_more p sources s =
    list_any-append p sources (s ∷ []) ∙ ap (λ t. list_any p sources || t) (sym (or_none (p s)))

-- a source that passes the test where the index now holds more
gained : (p : Source → Bool) (sources : List Source) (s : Source) (before now : Bool) → now ≡ (before || p s)
    → before ≡ list_any p sources → now ≡ list_any p (sources ++ s ∷ [])
gained p sources s before now is was = is ∙ ap (λ t. t || p s) was ∙ sym (one_more p sources s)

-- a source that fails the test
passed : (p : Source → Bool) (sources : List Source) (s : Source) (now : Bool) → p s ≡ false
    → now ≡ list_any p sources → now ≡ list_any p (sources ++ s ∷ [])
passed p sources s now fails was =
    gained p sources s now now (or_none now ∙ ap (λ t. now || t) (sym fails)) was

module _ (sources : List Source) (words : Keywords) (nonces : BTreeSet (Bor (List ℕ))) (pairs : PairSets) (digests : DigestSets)
    (was : IsIndexOf sources words nonces pairs digests) where
  pub with_word : (word : Keyword) (now : Keywords)
      → ((asked : Keyword) → keywords.has asked now ≡ (keywords.has asked words || same_keyword word asked))
      → IsIndexOf (sources ++ Source.Word word ∷ []) now nonces pairs digests
  with_word word now more = record {
    has_words = λ asked.
        gained (is_keyword asked) sources (Source.Word word) (keywords.has asked words) (keywords.has asked now) (more asked)
        (was.has_words asked);
    has_nonces = λ asked. passed (is_nonce asked) sources (Source.Word word) (has_text asked nonces) refl (was.has_nonces asked);
    has_pairs = λ asked. passed (is_hash asked) sources (Source.Word word) (has_pair asked pairs) refl (was.has_pairs asked);
    has_digests = λ asked valid.
        passed (is_hash_of asked) sources (Source.Word word) (has_digest asked digests) refl (was.has_digests asked valid);
  }

  pub with_nonce : (key : Bor (List ℕ)) (now : BTreeSet (Bor (List ℕ))) → Updates text_cmp nonces now key true
      → IsIndexOf (sources ++ Source.Nonce key.now ∷ []) words now pairs digests
  with_nonce key now updates = record {
    has_words = λ asked. passed (is_keyword asked) sources (Source.Nonce key.now) (keywords.has asked words) refl (was.has_words asked);
    has_nonces = λ asked.
        gained (is_nonce asked) sources (Source.Nonce key.now) (has_text asked nonces) (has_text asked now)
        (more_text nonces now key updates asked) (was.has_nonces asked);
    has_pairs = λ asked. passed (is_hash asked) sources (Source.Nonce key.now) (has_pair asked pairs) refl (was.has_pairs asked);
    has_digests = λ asked valid.
        passed (is_hash_of asked) sources (Source.Nonce key.now) (has_digest asked digests) refl (was.has_digests asked valid);
  }

  pub with_hash : (hash : Hash) (now : PairSets) (then : DigestSets)
      → ((asked : Hash) → has_pair asked now ≡ (has_pair asked pairs || same_hash hash asked))
      → ((asked : Digests) → IsValidDigests asked → has_digest asked then ≡ (has_digest asked digests || hash_matches hash asked))
      → IsIndexOf (sources ++ Source.Digest hash ∷ []) words nonces now then
  with_hash hash now then more_pairs more_digests = record {
    has_words = λ asked. passed (is_keyword asked) sources (Source.Digest hash) (keywords.has asked words) refl (was.has_words asked);
    has_nonces = λ asked. passed (is_nonce asked) sources (Source.Digest hash) (has_text asked nonces) refl (was.has_nonces asked);
    has_pairs = λ asked.
        gained (is_hash asked) sources (Source.Digest hash) (has_pair asked pairs) (has_pair asked now) (more_pairs asked)
        (was.has_pairs asked);
    has_digests = λ asked valid.
        gained (is_hash_of asked) sources (Source.Digest hash) (has_digest asked digests) (has_digest asked then)
        (more_digests asked valid) (was.has_digests asked valid);
  }

  -- a source that is nothing of these
  pub with_other : (s : Source) → ((word : Keyword) → s ≢ Source.Word word) → ((value : List ℕ) → s ≢ Source.Nonce value)
      → ((hash : Hash) → s ≢ Source.Digest hash) → IsIndexOf (sources ++ s ∷ []) words nonces pairs digests
  with_other (Source.Word word) no_word no_nonce no_hash = absurd (no_word word refl)
  with_other (Source.Nonce value) no_word no_nonce no_hash = absurd (no_nonce value refl)
  with_other (Source.Digest hash) no_word no_nonce no_hash = absurd (no_hash hash refl)
  with_other s no_word no_nonce no_hash = record {
    has_words = λ asked. passed (is_keyword asked) sources s (keywords.has asked words) refl (was.has_words asked);
    has_nonces = λ asked. passed (is_nonce asked) sources s (has_text asked nonces) refl (was.has_nonces asked);
    has_pairs = λ asked. passed (is_hash asked) sources s (has_pair asked pairs) refl (was.has_pairs asked);
    has_digests = λ asked valid.
        passed (is_hash_of asked) sources s (has_digest asked digests) refl (was.has_digests asked valid);
  }

-- each pair is a hash-source
pub all_pairs : (asked : List Hash) (sources : List Source) (pairs : PairSets)
    → ((pair : Hash) → has_pair pair pairs ≡ list_any (is_hash pair) sources)
    → list_all (λ pair. has_pair pair pairs) asked ≡ list_all (λ h. list_any (is_hash h) sources) asked
all_pairs [] sources pairs each = refl
all_pairs (pair ∷ asked) sources pairs each =
    ap (λ t. t && list_all (λ h. has_pair h pairs) asked) (each pair)
    ∙ ap (λ t. list_any (is_hash pair) sources && t) (all_pairs asked sources pairs each)
