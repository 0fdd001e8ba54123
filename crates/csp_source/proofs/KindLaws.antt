-- A token that is built as a kind is read as it, and back; "*" apart.
use Rattle.std.proofs.Common.{arith, ◌≡◌, ◌∙◌, sym, ap, refl, subst, ℕ, ◌-◌, suc, false, length, take, drop, List, [], ◌∷◌, ◌++◌, Some, None, Option, inl, inr}
use Rattle.std.specs.Prelude.{codes, ◌⊎◌, ◌≢◌}
use Rattle.std.specs.Char.{to_ascii_lowercase}
use Rattle.std.specs.Option.{option_map}
use Rattle.csp_model.specs.Ascii.{lower, without_last}
use Rattle.csp_model.specs.Grammar.{is_scheme, IsKind, IsQuoted, keyword_text, algorithm_text, is_scheme_char, is_label_char, is_name, host_part_of}
use Rattle.csp_model.specs.Reading.{first_of, kind_of, scheme_source, host_source, keyword_source, nonce_source, hash_source, quoted_value, authority, is_host_char}
use Rattle.csp_source.specs.Types.{Algorithm, Hash, Keyword, Source}
use Rattle.csp_model.specs.declared.source.Algorithm.TheVariants.{Sha256, Sha384, Sha512}
use Rattle.csp_source.proofs.HostLaws.{and_false, host_again, host_takes}
use Rattle.csp_source.proofs.SchemeLaws.{scheme_again, scheme_takes, no_host}
use Rattle.csp_source.proofs.QuotedLaws.{keyword_is, keyword_from, keyword_again, keyword_takes, quoted_again, quoted_takes, quoted_lower, quoted_none}

-- ---- what begins with "'" is neither a scheme-source nor a host-source

no_scheme_quoted : (rest : List ℕ) → scheme_source (39 ∷ rest) ≡ None
unfolding scheme_source
no_scheme_quoted [] = refl
no_scheme_quoted (c ∷ rest) =
    let less : length (39 ∷ c ∷ rest) - 1 ≡ suc (length rest) = omega arith in
    let none : is_scheme (without_last (39 ∷ c ∷ rest)) ≡ false = ap (λ n. is_scheme (take n (39 ∷ c ∷ rest))) less in
    rw (none, and_false) refl

no_host_quoted : (rest : List ℕ) → host_source (39 ∷ rest) ≡ None
unfolding host_source authority is_scheme_char is_label_char is_host_char host_part_of is_name
no_host_quoted rest = refl

apostrophe : (c : ℕ) → to_ascii_lowercase c ≡ 39 → c ≡ 39
apostrophe c e = grind arith

begins_quoted : (token rest : List ℕ) → lower token ≡ 39 ∷ rest → (more : List ℕ) × (token ≡ 39 ∷ more)
begins_quoted [] rest e = cc
begins_quoted (c ∷ token) rest e = let first : to_ascii_lowercase c ≡ 39 = cc in (token, ap (λ x. x ∷ token) (apostrophe c first))

-- neither a scheme-source nor a host-source: the later kinds decide
quoted_kind : (token rest : List ℕ) → lower token ≡ 39 ∷ rest → kind_of token ≡ first_of (keyword_source token ∷ nonce_source token
    ∷ hash_source Sha256 token ∷ hash_source Sha384 token ∷ hash_source Sha512 token ∷ [])
unfolding kind_of
quoted_kind token rest e =
    let (more, is) = begins_quoted token rest e in
    let s : scheme_source token ≡ None = ap scheme_source is ∙ no_scheme_quoted more in
    let h : host_source token ≡ None = ap host_source is ∙ no_host_quoted more in
    rw (s, h) refl

nonce_none : (token : List ℕ) → quoted_value (codes "'nonce-") token ≡ None → nonce_source token ≡ None
unfolding nonce_source
nonce_none token e = rw e refl

hash_none : (algorithm : Algorithm) (token : List ℕ) → quoted_value (39 ∷ algorithm_text algorithm ++ codes "-") token ≡ None → hash_source algorithm token ≡ None
unfolding hash_source
hash_none algorithm token e = rw e refl

nonce_again : (token value : List ℕ) → IsQuoted (codes "'nonce-") token value → nonce_source token ≡ Some (Source.Nonce value)
unfolding nonce_source
nonce_again token value h = rw (quoted_again (codes "'nonce-") token value h) refl

hash_again : (hash : Hash) (token : List ℕ) → IsQuoted (39 ∷ algorithm_text hash.algorithm ++ codes "-") token hash.value → hash_source hash.algorithm token ≡ Some (Source.Digest hash)
unfolding hash_source
hash_again hash token h = rw (quoted_again (39 ∷ algorithm_text hash.algorithm ++ codes "-") token hash.value h) refl

nonce_kind : (token value : List ℕ) → IsQuoted (codes "'nonce-") token value → kind_of token ≡ Some (Source.Nonce value)
nonce_kind token value h =
    let low = quoted_lower (codes "'nonce-") token value h in
    let k : keyword_source token ≡ None = keyword_is token ∙ ap keyword_from low in
    quoted_kind token _ low ∙ rw (k, nonce_again token value h) refl

digest_kind : (algorithm : Algorithm) (value token : List ℕ) → IsQuoted (39 ∷ algorithm_text algorithm ++ codes "-") token value
    → kind_of token ≡ Some (Source.Digest (record { algorithm = algorithm; value = value }))
digest_kind Sha256 value token h =
    let low = quoted_lower (codes "'sha256-") token value h in
    let k : keyword_source token ≡ None = keyword_is token ∙ ap keyword_from low in
    let n = nonce_none token (quoted_none (codes "'nonce-") token _ low refl) in
    quoted_kind token _ low ∙ rw (k, n, hash_again (record { algorithm = Sha256; value = value }) token h) refl
digest_kind Sha384 value token h =
    let low = quoted_lower (codes "'sha384-") token value h in
    let k : keyword_source token ≡ None = keyword_is token ∙ ap keyword_from low in
    let n = nonce_none token (quoted_none (codes "'nonce-") token _ low refl) in
    let a = hash_none Sha256 token (quoted_none (codes "'sha256-") token _ low refl) in
    quoted_kind token _ low ∙ rw (k, n, a, hash_again (record { algorithm = Sha384; value = value }) token h) refl
digest_kind Sha512 value token h =
    let low = quoted_lower (codes "'sha512-") token value h in
    let k : keyword_source token ≡ None = keyword_is token ∙ ap keyword_from low in
    let n = nonce_none token (quoted_none (codes "'nonce-") token _ low refl) in
    let a = hash_none Sha256 token (quoted_none (codes "'sha256-") token _ low refl) in
    let b = hash_none Sha384 token (quoted_none (codes "'sha384-") token _ low refl) in
    quoted_kind token _ low ∙ rw (k, n, a, b, hash_again (record { algorithm = Sha512; value = value }) token h) refl

-- the keywords begin with "'"
keyword_begins : (word : Keyword) → (rest : List ℕ) × (keyword_text word ≡ 39 ∷ rest)
keyword_begins word = (drop 1 (keyword_text word), grind arith)

word_kind : (token : List ℕ) (word : Keyword) → lower token ≡ keyword_text word → kind_of token ≡ Some (Source.Word word)
word_kind token word e =
    let (rest, is) = keyword_begins word in
    quoted_kind token rest (e ∙ is) ∙ rw (keyword_again token word e) refl

-- no scheme-source is a host-source
no_scheme_hosted : (token : List ℕ) (s : Source) → host_source token ≡ Some s → scheme_source token ≡ None
no_scheme_hosted token s e = go (scheme_source token) refl where
  go : (o : Option Source) → scheme_source token ≡ o → o ≡ None
  go None is = refl
  go (Some t) is =
      let (scheme, same, built) = scheme_takes token t is in
      let none = no_host token scheme built in cc

scheme_kind : (token : List ℕ) (s : Source) → scheme_source token ≡ Some s → kind_of token ≡ Some s
unfolding kind_of
scheme_kind token s e = rw e refl

host_kind : (token : List ℕ) (s : Source) → host_source token ≡ Some s → kind_of token ≡ Some s
unfolding kind_of
host_kind token s e = rw (no_scheme_hosted token s e, e) refl

abbrev pub IsNoStar : Source → Type 0
IsNoStar Source.Star = ⊥
IsNoStar kind = Unit {0}

-- a token that is built as some kind but "*" is of that kind
pub kind_built : (token : List ℕ) (kind : Source) → IsNoStar kind → IsKind token kind → kind_of token ≡ Some kind
kind_built token Source.Star some h = absurd some
kind_built token (Source.SchemeOnly scheme) some h = scheme_kind token _ (scheme_again token scheme h)
kind_built token (Source.Hosted scheme host_part port_part path_part) some h = host_kind token _ (host_again token scheme host_part port_part path_part h.1)
kind_built token (Source.Word word) some h = word_kind token word h
kind_built token (Source.Nonce value) some h = nonce_kind token value h
kind_built token (Source.Digest hash) some h = digest_kind hash.algorithm hash.value token h
kind_built token (Source.Other text) some h = absurd h

-- ---- and back

nonce_takes : (token : List ℕ) (s : Source) → nonce_source token ≡ Some s → IsKind token s
unfolding nonce_source
nonce_takes token s e = go (quoted_value (codes "'nonce-") token) refl e where
  go : (o : Option (List ℕ)) → quoted_value (codes "'nonce-") token ≡ o → option_map (λ value. Source.Nonce value) o ≡ Some s → IsKind token s
  go None is e = cc
  go (Some value) is e = let same : Source.Nonce value ≡ s = cc in subst (IsKind token) same (quoted_takes (codes "'nonce-") token value is)

hash_takes : (algorithm : Algorithm) (token : List ℕ) (s : Source) → hash_source algorithm token ≡ Some s → IsKind token s
unfolding hash_source
hash_takes algorithm token s e = go (quoted_value (39 ∷ algorithm_text algorithm ++ codes "-") token) refl e where
  go : (o : Option (List ℕ)) → quoted_value (39 ∷ algorithm_text algorithm ++ codes "-") token ≡ o
      → option_map (λ value. Source.Digest (record { algorithm = algorithm; value = value })) o ≡ Some s → IsKind token s
  go None is e = cc
  go (Some value) is e =
      let same : Source.Digest (record { algorithm = algorithm; value = value }) ≡ s = cc in
      subst (IsKind token) same (quoted_takes (39 ∷ algorithm_text algorithm ++ codes "-") token value is)

first_takes : {A : Type 0} (o : Option A) (rest : List (Option A)) (a : A) → first_of (o ∷ rest) ≡ Some a → (o ≡ Some a) ⊎ (first_of rest ≡ Some a)
first_takes None rest a e = inr e
first_takes (Some b) rest a e = inl e

scheme_is : (token : List ℕ) (s : Source) → scheme_source token ≡ Some s → IsKind token s
scheme_is token s e = let (scheme, is, built) = scheme_takes token s e in subst (IsKind token) (sym is) built

host_is : (token : List ℕ) (s : Source) → token ≢ codes "*" → host_source token ≡ Some s → IsKind token s
host_is token s apart e = let (scheme, host_part, port_part, path_part, is, built) = host_takes token s e in subst (IsKind token) (sym is) (apart, built)

word_is : (token : List ℕ) (s : Source) → keyword_source token ≡ Some s → IsKind token s
word_is token s e = let (word, is, spelt) = keyword_takes token s e in subst (IsKind token) (sym is) spelt

none_found : {A : Type 0} (a : A) → first_of [] ≡ Some a → ⊥
none_found a e = cc

pub kind_takes : (token : List ℕ) (s : Source) → token ≢ codes "*" → kind_of token ≡ Some s → IsKind token s
unfolding kind_of
kind_takes token s apart e = elim (first_takes _ _ s e) [
  | inl one ↦ scheme_is token s one
  | inr e1 ↦ elim (first_takes _ _ s e1) [
    | inl two ↦ host_is token s apart two
    | inr e2 ↦ elim (first_takes _ _ s e2) [
      | inl three ↦ word_is token s three
      | inr e3 ↦ elim (first_takes _ _ s e3) [
        | inl four ↦ nonce_takes token s four
        | inr e4 ↦ elim (first_takes _ _ s e4) [
          | inl five ↦ hash_takes Sha256 token s five
          | inr e5 ↦ elim (first_takes _ _ s e5) [
            | inl six ↦ hash_takes Sha384 token s six
            | inr e6 ↦ elim (first_takes _ _ s e6) [ inl seven ↦ hash_takes Sha512 token s seven | inr e7 ↦ absurd (none_found s e7) ]
          ]
        ]
      ]
    ]
  ]
]
