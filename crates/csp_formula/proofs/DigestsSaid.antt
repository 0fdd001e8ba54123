-- What a source list says of digests is whether they match.
use Rattle.std.proofs.Common.{◌≡◌, ◌∙◌, sym, ap, refl, ℕ, Bool, true, false, ◌||◌, ◌==◌, List, [], ◌∷◌, length, Option, Some, None, Result, Ok, Err, All}
use Rattle.std.specs.Prelude.{if◌then◌else◌}
use Rattle.std.specs.List.{filter_map, cons_option}
use Rattle.std.specs.Option.{option_and_then, option_map}
use Rattle.std.specs.Result.{result_ok}
use Rattle.std.specs.Str.{bytes_eq}
use Rattle.std.proofs.lemmas.Bool.{false_from_ne_true, both_ways, and_from, eq-eqb}
use Rattle.std.proofs.lemmas.List.Elements.{All-head, All-tail}
use Rattle.std.proofs.lemmas.Slice.Eq.{bytes_eq-Decides}
use Rattle.base64.specs.Engines.{standard}
use Rattle.base64.specs.GeneralPurpose.{IsBytes, decode_of, encode_of, IsStrict}
use Rattle.base64.specs.declared.decode.DecodeError.{DecodeError}
use Rattle.base64.proofs.EngineFacts.{decode_of-encode_of, decode_of_strict}
use Rattle.csp_model.proofs.Deciding.{same_bool}
use Rattle.csp_model.specs.DecideTokens.{hash_matches, digests_match}
use Rattle.csp_model.specs.Parts.{checked_digests}
use Rattle.csp_model.specs.Tokens.{plain_value, size_of, digest_by}
use Rattle.csp_model.specs.Validity.{IsOfSize, IsValidDigests, are_bytes}
use Rattle.csp_model.specs.declared.check.Check.{Check}
use Rattle.csp_model.specs.declared.check.Digest.{Digest}
use Rattle.csp_model.specs.declared.check.Digests.{Digests}
use Rattle.csp_model.specs.declared.source.Algorithm.{Algorithm}
use Rattle.csp_model.specs.declared.source.Algorithm.TheVariants.{Sha256, Sha384, Sha512}
use Rattle.csp_model.specs.declared.source.Hash.{Hash}
use Rattle.csp_model.specs.declared.source.Source.{Source}
use Rattle.csp_model.specs.declared.source.Source.TheVariants as source
use Rattle.csp_token.proofs.Base64.{IsBytes-plain_value}
use Rattle.csp_token.proofs.Sizes.{bytes_of_size}
use Rattle.csp_facts.specs.Holding.{on_part, has_digest}
use Rattle.csp_facts.specs.declared.atom.Atom.TheVariants.{DigestIs}
use Rattle.csp_formula.specs.Sentences.{Sentence, Fact, any_of}
use Rattle.csp_formula.specs.Compiled.{is_of_size, digest_with, digest_fact, digests_sentence}
use Rattle.csp_formula.specs.Values.{is_true_for}
use Rattle.csp_formula.proofs.SourcesSaid.{IsReadSource}

module _ (digests : Digests) (valid : IsValidDigests digests) where
  sized : (a : Algorithm) → IsOfSize (size_of a) (digest_by a digests)
  sized Sha256 = valid.sha256
  sized Sha384 = valid.sha384
  sized Sha512 = valid.sha512

  sized_test : (a : Algorithm) → is_of_size (size_of a) (digest_by a digests) ≡ true
  sized_test a = and_from (length (digest_by a digests) == size_of a) (are_bytes (digest_by a digests)) (eq-eqb (length (digest_by a digests)) (size_of a) (sized a).0) (sized a).1

  has_one : (a : Algorithm) (bytes : List ℕ) → has_digest digests (digest_with a bytes) ≡ bytes_eq (digest_by a digests) bytes
  has_one Sha256 bytes = refl
  has_one Sha384 bytes = refl
  has_one Sha512 bytes = refl

  -- a hash stands for the digest that its value decodes to
  stands : (hash : Hash) → IsBytes hash.value → decode_of standard (plain_value hash.value) ≡ Ok (digest_by hash.algorithm digests) → hash_matches hash digests ≡ true
  stands hash small e =
      let strict : IsStrict standard = (refl, refl) in
      (bytes_eq-Decides (plain_value hash.value) (encode_of standard (digest_by hash.algorithm digests))).1
      (decode_of_strict standard (plain_value hash.value) (digest_by hash.algorithm digests) strict (IsBytes-plain_value hash.value small) e)

  decodes : (hash : Hash) → hash_matches hash digests ≡ true → decode_of standard (plain_value hash.value) ≡ Ok (digest_by hash.algorithm digests)
  decodes hash e =
      let bytes = digest_by hash.algorithm digests in
      ap (decode_of standard) ((bytes_eq-Decides (plain_value hash.value) (encode_of standard bytes)).0 e)
      ∙ decode_of-encode_of standard bytes refl (bytes_of_size (size_of hash.algorithm) bytes (sized hash.algorithm))

  one_value : (hash : Hash) → IsBytes hash.value → (bytes : List ℕ) → decode_of standard (plain_value hash.value) ≡ Ok bytes
      → bytes_eq (digest_by hash.algorithm digests) bytes ≡ hash_matches hash digests
  one_value hash small bytes e =
      let whole = digest_by hash.algorithm digests in
      same_bool (bytes_eq whole bytes) (hash_matches hash digests)
      (λ same. stands hash small (e ∙ ap Ok (sym ((bytes_eq-Decides whole bytes).0 same))))
      (λ matched. let ok : Ok whole ≡ Ok bytes = sym (decodes hash matched) ∙ e in (bytes_eq-Decides whole bytes).1 (cc ok))

  -- of another size it is no digest
  no_value : (hash : Hash) (bytes : List ℕ) → decode_of standard (plain_value hash.value) ≡ Ok bytes → is_of_size (size_of hash.algorithm) bytes ≡ false
      → hash_matches hash digests ≡ false
  no_value hash bytes e other = false_from_ne_true (hash_matches hash digests) (λ matched.
      let ok : Ok (digest_by hash.algorithm digests) ≡ Ok bytes = sym (decodes hash matched) ∙ e in
      let same : digest_by hash.algorithm digests ≡ bytes = cc ok in
      both_ways (is_of_size (size_of hash.algorithm) bytes) other (ap (is_of_size (size_of hash.algorithm)) (sym same) ∙ sized_test hash.algorithm))

  no_bytes : (hash : Hash) (err : DecodeError) → decode_of standard (plain_value hash.value) ≡ Err err → hash_matches hash digests ≡ false
  no_bytes hash err e = false_from_ne_true (hash_matches hash digests) (λ matched.
      let ok : Ok (digest_by hash.algorithm digests) ≡ Err err = sym (decodes hash matched) ∙ e in cc ok)

module _ (hashes : List Hash) (asked : Check) (digests : Digests) (at : checked_digests asked ≡ Some digests) (valid : IsValidDigests digests) where
  -- the sentences of the sources, the first one's if it stands for a digest
  abbrev Says : Option Digest → List Sentence → Bool
  Says d rest = is_true_for hashes asked (any_of (cons_option (option_map (λ x. Fact (DigestIs x)) d) rest))

  by_size : (hash : Hash) → IsBytes hash.value → (bytes : List ℕ) → decode_of standard (plain_value hash.value) ≡ Ok bytes
      → (n : Bool) → is_of_size (size_of hash.algorithm) bytes ≡ n → (rest : List Sentence)
      → Says (if n then Some (digest_with hash.algorithm bytes) else None) rest ≡ (hash_matches hash digests || is_true_for hashes asked (any_of rest))
  by_size hash small bytes e true size rest =
      ap (λ b. b || is_true_for hashes asked (any_of rest))
      (ap (λ part. on_part part (λ found. has_digest found (digest_with hash.algorithm bytes))) at
      ∙ has_one digests valid hash.algorithm bytes ∙ one_value digests valid hash small bytes e)
  by_size hash small bytes e false size rest =
      ap (λ b. b || is_true_for hashes asked (any_of rest)) (sym (no_value digests valid hash bytes e size))

  by_value : (hash : Hash) → IsBytes hash.value → (r : Result (List ℕ) DecodeError) → decode_of standard (plain_value hash.value) ≡ r → (rest : List Sentence)
      → Says (option_and_then (λ bytes. if is_of_size (size_of hash.algorithm) bytes then Some (digest_with hash.algorithm bytes) else None) (result_ok r)) rest
      ≡ (hash_matches hash digests || is_true_for hashes asked (any_of rest))
  by_value hash small (Ok bytes) e rest = by_size hash small bytes e (is_of_size (size_of hash.algorithm) bytes) refl rest
  by_value hash small (Err err) e rest = ap (λ b. b || is_true_for hashes asked (any_of rest)) (sym (no_bytes digests valid hash err e))

  pub digests_said : (sources : List Source) → All IsReadSource sources → is_true_for hashes asked (digests_sentence sources) ≡ digests_match digests sources
  digests_said [] read = refl
  digests_said (source.Digest hash ∷ sources) read =
      by_value hash (All-head IsReadSource (source.Digest hash) sources read) (decode_of standard (plain_value hash.value)) refl (filter_map digest_fact sources)
      ∙ ap (λ b. hash_matches hash digests || b) (digests_said sources (All-tail IsReadSource (source.Digest hash) sources read))
  digests_said (other ∷ sources) read = digests_said sources (All-tail IsReadSource other sources read)
