-- Digests match a source list by those alone whose algorithms it names.
use Rattle.std.proofs.Common.{◌≡◌, ◌∙◌, ap, refl, ℕ, true, ◌||◌, List, [], ◌∷◌, replicate}
use Rattle.std.specs.Str.{bytes_eq}
use Rattle.std.proofs.lemmas.Bool.{cond-true, or_left, or_right}
use Rattle.base64.specs.Engines.{standard}
use Rattle.base64.specs.GeneralPurpose.{encode_of}
use Rattle.sha2.specs.Sha256.{sha256}
use Rattle.sha2.specs.Sha512.{sha384, sha512}
use Rattle.csp_model.specs.DecideTokens.{is_hash_of, digests_match}
use Rattle.csp_model.specs.DecideEquality.{same_algorithm}
use Rattle.csp_model.specs.Tokens.{digest_by, plain_value}
use Rattle.csp_token.specs.Types.{Digests, Algorithm, Source, Algorithms}
use Rattle.csp_model.specs.declared.source.Algorithm.TheVariants.{Sha256, Sha384, Sha512}
use Rattle.csp_token.specs.Algorithms.{is_of_algorithm, names, Covers}
use Rattle.csp_token.specs.Digests.{AgreeWhereNamed, digests_for, digests_of}

pub same_algorithm_refl : (a : Algorithm) → same_algorithm a a ≡ true
same_algorithm_refl Sha256 = refl
same_algorithm_refl Sha384 = refl
same_algorithm_refl Sha512 = refl

-- at one source, digests that agree on its algorithm
one_matches : (a b : Digests) (s : Source) → ((x : Algorithm) → is_of_algorithm x s ≡ true → digest_by x a ≡ digest_by x b)
    → is_hash_of a s ≡ is_hash_of b s
one_matches a b (Source.Digest hash) agree =
    ap (λ d. bytes_eq (plain_value hash.value) (encode_of standard d))
    (agree hash.algorithm (same_algorithm_refl hash.algorithm))
one_matches a b s agree = refl

pub agreeing_match : (sources : List Source) (a b : Digests) → AgreeWhereNamed sources a b
    → digests_match a sources ≡ digests_match b sources
agreeing_match [] a b agree = refl
agreeing_match (s ∷ sources) a b agree =
    ap (λ t. t || digests_match a sources)
    (one_matches a b s (λ x h. agree x (or_left (is_of_algorithm x s) (names x sources) h)))
    ∙ ap (λ t. is_hash_of b s || t)
    (agreeing_match sources a b (λ x h. agree x (or_right (is_of_algorithm x s) (names x sources) h)))

wanted_agree : (source : List ℕ) (wanted : Algorithms) (sources : List Source) → Covers wanted sources
    → AgreeWhereNamed sources (digests_for source wanted) (digests_of source)
wanted_agree source wanted sources covers Sha256 named = cond-true wanted.sha256 (sha256 source) (replicate 32 0) (covers Sha256 named)
wanted_agree source wanted sources covers Sha384 named = cond-true wanted.sha384 (sha384 source) (replicate 48 0) (covers Sha384 named)
wanted_agree source wanted sources covers Sha512 named = cond-true wanted.sha512 (sha512 source) (replicate 64 0) (covers Sha512 named)

pub wanted_match : (source : List ℕ) (wanted : Algorithms) (sources : List Source) → Covers wanted sources
    → digests_match (digests_for source wanted) sources ≡ digests_match (digests_of source) sources
wanted_match source wanted sources covers =
    agreeing_match sources (digests_for source wanted) (digests_of source) (wanted_agree source wanted sources covers)
