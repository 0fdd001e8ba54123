-- Sets are empty where the list has no such source.
use Rattle.std.proofs.Common.{arith, ◌≡◌, ◌∙◌, sym, ap, refl, ℕ, ◌==◌, Bool, true, false, not, ◌||◌, ◌&&◌, List, [], ◌∷◌, length, Bor, inl, inr}
use Rattle.std.specs.BTreeMap.{is_at}
use Rattle.std.specs.BTreeSet.{BTreeSet, btree_set_len}
use Rattle.std.specs.Cmp.Lexicographic.{slice_cmp}
use Rattle.std.specs.List.{list_any}
use Rattle.std.specs.Ordering.{nat_cmp}
use Rattle.std.specs.Str.{bytes_eq}
use Rattle.std.proofs.lemmas.Bool.{false≢true, and_from, and_parts, or_cases, or_left, or_right, false_from_ne_true, ne_eqb}
use Rattle.std.proofs.lemmas.Map.Text.{is_eq-slice_cmp}
use Rattle.std.proofs.lemmas.Slice.Eq.{bytes_eq-Decides}
use Rattle.csp_model.specs.DecideTokens.{is_nonce, is_hash}
use Rattle.csp_model.specs.Inline.{is_nonce_or_hash}
use Rattle.csp_model.specs.DecideEquality.{same_algorithm}
use Rattle.csp_token.specs.Types.{Algorithm, Hash, Source, PairSets}
use Rattle.csp_model.specs.declared.source.Algorithm.TheVariants.{Sha256, Sha384, Sha512}
use Rattle.csp_token.specs.Algorithms.{is_of_algorithm, names}
use Rattle.csp_token.specs.Index.{has_text, has_pair, is_empty, values_of}
use Rattle.csp_token.proofs.AnyOf.{any_of_two, any_of_three}

-- a source has the texts for which a test passes
module _ (p : List ℕ → Source → Bool) (r : Source → Bool)
    (has : (s : Source) → r s ≡ true → (text : List ℕ) × (p text s ≡ true))
    (is : (text : List ℕ) (s : Source) → p text s ≡ true → r s ≡ true) where
  some_text : (sources : List Source) → list_any r sources ≡ true → (text : List ℕ) × (list_any (p text) sources ≡ true)
  some_text [] h = absurd (false≢true h)
  some_text (s ∷ sources) h = elim (or_cases (r s) (list_any r sources) h) [
    | inl here ↦ let one = has s here in (one.0, or_left (p one.0 s) (list_any (p one.0) sources) one.1)
    | inr later ↦ let one = some_text sources later in (one.0, or_right (p one.0 s) (list_any (p one.0) sources) one.1)
  ]

  some_source : (text : List ℕ) (sources : List Source) → list_any (p text) sources ≡ true → list_any r sources ≡ true
  some_source text [] h = h
  some_source text (s ∷ sources) h = elim (or_cases (p text s) (list_any (p text) sources) h) [
    | inl here ↦ or_left (r s) (list_any r sources) (is text s here)
    | inr later ↦ or_right (r s) (list_any r sources) (some_source text sources later)
  ]

  same_keys : (keys : List (Bor (List ℕ))) (sources : List Source)
      → ((text : List ℕ) → list_any (is_at (λ (key : Bor (List ℕ)). slice_cmp nat_cmp text key.now)) keys ≡ list_any (p text) sources)
      → (length keys == 0) ≡ not (list_any r sources)
  same_keys [] sources same =
      sym (ap not (false_from_ne_true (list_any r sources)
      (λ h. let one = some_text sources h in false≢true (same one.0 ∙ one.1))))
  same_keys (key ∷ keys) sources same =
      let found : bytes_eq key.now key.now ≡ true = (bytes_eq-Decides key.now key.now).1 refl in
      let first = is_eq-slice_cmp key.now key.now ∙ found in
      let there = or_left (is_at (λ (k : Bor (List ℕ)). slice_cmp nat_cmp key.now k.now) key) (list_any (is_at (λ (k : Bor (List ℕ)). slice_cmp nat_cmp key.now k.now)) keys) first in
      let some : (length (key ∷ keys) == 0) ≡ false = ne_eqb (length (key ∷ keys)) 0 (λ h. omega (arith, h)) in
      some ∙ sym (ap not (some_source key.now sources (sym (same key.now) ∙ there)))

  -- a set of texts is empty where no source has one
  pub same_empty : (set : BTreeSet (Bor (List ℕ))) (sources : List Source)
      → ((text : List ℕ) → has_text text set ≡ list_any (p text) sources)
      → (btree_set_len set == 0) ≡ not (list_any r sources)
  same_empty set sources same = same_keys set.keys sources same

abbrev is_nonce_source : Source → Bool
is_nonce_source (Source.Nonce value) = true
is_nonce_source s = false

some_nonce : (s : Source) → is_nonce_source s ≡ true → (text : List ℕ) × (is_nonce text s ≡ true)
some_nonce (Source.Nonce value) h = (value, (bytes_eq-Decides value value).1 refl)
some_nonce s h = absurd (false≢true h)

nonce_source : (text : List ℕ) (s : Source) → is_nonce text s ≡ true → is_nonce_source s ≡ true
nonce_source text (Source.Nonce value) h = refl
nonce_source text s h = h

-- a hash-source of this algorithm and value
abbrev is_pair : Algorithm → List ℕ → Source → Bool
is_pair algorithm value = is_hash (record { algorithm = algorithm; value = value })

some_value : (a : Algorithm) (s : Source) → is_of_algorithm a s ≡ true → (text : List ℕ) × (is_pair a text s ≡ true)
some_value a (Source.Digest hash) h =
    (hash.value, and_from (same_algorithm hash.algorithm a) (bytes_eq hash.value hash.value) h ((bytes_eq-Decides hash.value hash.value).1 refl))
some_value a s h = absurd (false≢true h)

value_source : (a : Algorithm) (text : List ℕ) (s : Source) → is_pair a text s ≡ true → is_of_algorithm a s ≡ true
value_source a text (Source.Digest hash) h = (and_parts (same_algorithm hash.algorithm a) (bytes_eq hash.value text) h).0
value_source a text s h = h

unnamed : (a : Algorithm) (sources : List Source) (pairs : PairSets)
    → ((pair : Hash) → has_pair pair pairs ≡ list_any (is_hash pair) sources)
    → (btree_set_len (values_of a pairs) == 0) ≡ not (names a sources)
unnamed a sources pairs each =
    same_empty (is_pair a) (is_of_algorithm a) (some_value a) (value_source a) (values_of a pairs) sources
    (λ value. each (record { algorithm = a; value = value }))

-- a nonce-source, or a hash-source of one of the algorithms
by_kind : (s : Source) → is_nonce_or_hash s
    ≡ (is_nonce_source s || (is_of_algorithm Sha256 s || (is_of_algorithm Sha384 s || is_of_algorithm Sha512 s)))
by_kind (Source.Digest hash) = by_algorithm hash.algorithm where
  by_algorithm : (a : Algorithm) → true ≡ (same_algorithm a Sha256 || (same_algorithm a Sha384 || same_algorithm a Sha512))
  by_algorithm Sha256 = refl
  by_algorithm Sha384 = refl
  by_algorithm Sha512 = refl
by_kind s = refl

nonce_or_hash : (sources : List Source) → list_any is_nonce_or_hash sources
    ≡ (list_any is_nonce_source sources || (names Sha256 sources || (names Sha384 sources || names Sha512 sources)))
nonce_or_hash sources =
    let hashes = λ (s : Source). is_of_algorithm Sha256 s || (is_of_algorithm Sha384 s || is_of_algorithm Sha512 s) in
    any_of_two is_nonce_source hashes is_nonce_or_hash by_kind sources
    ∙ ap (λ t. list_any is_nonce_source sources || t)
    (any_of_three (is_of_algorithm Sha256) (is_of_algorithm Sha384) (is_of_algorithm Sha512) hashes (λ _. refl) sources)

none_of : (a b c d x y z w : Bool) → a ≡ not x → b ≡ not y → c ≡ not z → d ≡ not w
    → (not a || not (b && (c && d))) ≡ (x || (y || (z || w)))
none_of a b c d x y z w e f g h = rw (e, f, g, h) (turned x y z w) where
  turned : (x y z w : Bool) → (not (not x) || not (not y && (not z && not w))) ≡ (x || (y || (z || w)))
  turned true y z w = refl
  turned false true z w = refl
  turned false false true w = refl
  turned false false false true = refl
  turned false false false false = refl

pub nonce_or_hash_known : (sources : List Source) (nonces : BTreeSet (Bor (List ℕ))) (pairs : PairSets)
    → ((nonce : List ℕ) → has_text nonce nonces ≡ list_any (is_nonce nonce) sources)
    → ((pair : Hash) → has_pair pair pairs ≡ list_any (is_hash pair) sources)
    → (not (btree_set_len nonces == 0) || not (is_empty pairs)) ≡ list_any is_nonce_or_hash sources
nonce_or_hash_known sources nonces pairs has_nonces has_pairs =
    let none = same_empty is_nonce is_nonce_source some_nonce nonce_source nonces sources has_nonces in
    none_of _ _ _ _ _ _ _ _ none (unnamed Sha256 sources pairs has_pairs) (unnamed Sha384 sources pairs has_pairs)
    (unnamed Sha512 sources pairs has_pairs)
    ∙ sym (nonce_or_hash sources)
