-- What a source list says of nonces, integrity metadata and digests is whether they match.
use Rattle.std.proofs.Common.{◌≡◌, ◌∙◌, sym, ap, refl, ℕ, Bool, true, false, ◌&&◌, ◌||◌, not, List, [], ◌∷◌, ◌++◌, map, Some, All}
use Rattle.std.specs.List.{list_any, list_all, filter_map}
use Rattle.std.specs.Str.{bytes_eq}
use Rattle.std.proofs.Math.Bool.{and_assoc}
use Rattle.std.proofs.lemmas.Bool.{false≢true, false_from_ne_true, or_from, or_left, and_from, and_parts, both_ways, not_from_false, not-true, true_from_ne_false}
use Rattle.std.proofs.lemmas.List.Elements.{All-head, All-tail}
use Rattle.std.proofs.lemmas.Slice.Eq.{bytes_eq-Decides}
use Rattle.csp_model.proofs.Deciding.{same_bool}
use Rattle.csp_model.specs.Ascii.{is_nonempty}
use Rattle.csp_model.specs.DecideEquality.{same_hash}
use Rattle.csp_model.proofs.EqualityDecided.{same_hash_decides}
use Rattle.csp_model.specs.DecideTokens.{is_nonce, nonce_matches, is_hash, integrity_matches}
use Rattle.csp_model.specs.Parts.{checked_nonce, checked_integrity}
use Rattle.csp_model.specs.declared.check.Check.{Check}
use Rattle.csp_model.specs.declared.source.Hash.{Hash}
use Rattle.csp_model.specs.declared.source.Source.{Source}
use Rattle.csp_model.specs.declared.source.Source.TheVariants as source
use Rattle.csp_facts.specs.Holding.{on_part, has_hash, has_other}
use Rattle.csp_facts.specs.Vocabulary.{hash_of_source}
use Rattle.csp_formula.specs.Sentences.{Sentence, Not, all_of, any_of}
use Rattle.csp_formula.specs.Compiled.{nonces_sentence, has_pair, other_hashes, integrity_sentence}
use Rattle.csp_formula.specs.Values.{is_true_for}
use Rattle.csp_formula.proofs.MembersOf.{own_has, filter_has, all_from, all_at, any_from, any_at}
use Rattle.csp_formula.proofs.SourcesSaid.{IsReadSource, and_true}
use Rattle.csp_formula.proofs.SuffixDomain.{nonempty}
use Rattle.csp_formula.proofs.UrlPartsSaid.{same_text}

-- Nonces

no_empty_nonce : (sources : List Source) → All IsReadSource sources → list_any (is_nonce []) sources ≡ false
no_empty_nonce [] read = refl
no_empty_nonce (source.Nonce value ∷ sources) read =
    or_from (bytes_eq value []) (list_any (is_nonce []) sources)
    (false_from_ne_true (bytes_eq value []) (λ e. All-head IsReadSource (source.Nonce value) sources read ((bytes_eq-Decides value []).0 e)))
    (no_empty_nonce sources (All-tail IsReadSource (source.Nonce value) sources read))
no_empty_nonce (other ∷ sources) read = no_empty_nonce sources (All-tail IsReadSource other sources read)

some_nonce : (nonce : List ℕ) (sources : List Source) → All IsReadSource sources → list_any (is_nonce nonce) sources ≡ nonce_matches nonce sources
some_nonce [] sources read = no_empty_nonce sources read
some_nonce (c ∷ nonce) sources read =
    ap (λ b. b && list_any (is_nonce (c ∷ nonce)) sources) (sym (nonempty (c ∷ nonce) (λ (e : c ∷ nonce ≡ []). cc)))

module _ (hashes : List Hash) (asked : Check) (nonce : List ℕ) (at : checked_nonce asked ≡ Some nonce) where
  any_nonce : (sources : List Source) → is_true_for hashes asked (nonces_sentence sources) ≡ list_any (is_nonce nonce) sources
  any_nonce [] = refl
  any_nonce (source.Nonce value ∷ sources) =
      ap (λ b. b || is_true_for hashes asked (nonces_sentence sources)) (ap (λ part. on_part part (λ n. bytes_eq n value)) at ∙ same_text nonce value)
      ∙ ap (λ b. bytes_eq value nonce || b) (any_nonce sources)
  any_nonce (other ∷ sources) = any_nonce sources

  pub nonces_said : (sources : List Source) → All IsReadSource sources → is_true_for hashes asked (nonces_sentence sources) ≡ nonce_matches nonce sources
  nonces_said sources read = any_nonce sources ∙ some_nonce nonce sources read

-- Integrity metadata

module _ (hashes : List Hash) (asked : Check) (pairs : List Hash) (at : checked_integrity asked ≡ Some pairs) where
  pair_said : (h : Hash) → is_true_for hashes asked (has_pair h) ≡ has_hash pairs h
  pair_said h = ap (λ part. on_part part (λ found. has_hash found h)) at

  any_pair : (hs : List Hash) → is_true_for hashes asked (any_of (map has_pair hs)) ≡ list_any (has_hash pairs) hs
  any_pair [] = refl
  any_pair (h ∷ hs) =
      ap (λ b. b || is_true_for hashes asked (any_of (map has_pair hs))) (pair_said h)
      ∙ ap (λ b. has_hash pairs h || b) (any_pair hs)

  denials : (hs : List Hash) (last : Sentence) → is_true_for hashes asked (all_of (map (λ h. Not (has_pair h)) hs ++ last ∷ []))
      ≡ (list_all (λ h. not (has_hash pairs h)) hs && is_true_for hashes asked last)
  denials [] last = and_true (is_true_for hashes asked last)
  denials (h ∷ hs) last =
      ap (λ b. not b && is_true_for hashes asked (all_of (map (λ x. Not (has_pair x)) hs ++ last ∷ []))) (pair_said h)
      ∙ ap (λ b. not (has_hash pairs h) && b) (denials hs last)
      ∙ sym (and_assoc (not (has_hash pairs h)) (list_all (λ x. not (has_hash pairs x)) hs) (is_true_for hashes asked last))

module _ (hashes pairs : List Hash) (sources : List Source)
    (held : (h : Hash) → has_hash (filter_map hash_of_source sources) h ≡ true → has_hash hashes h ≡ true) where
  abbrev own : List Hash
  own = filter_map hash_of_source sources

  abbrev in_list : Hash → Bool
  in_list h = list_any (is_hash h) sources

  -- the pairs are some, and each is a hash-source
  matched : (has_other hashes pairs ≡ false) → list_all (λ h. not (has_hash pairs h)) (other_hashes hashes sources) ≡ true
      → list_any (has_hash pairs) own ≡ true → integrity_matches pairs sources ≡ true
  matched inside others some =
      let (h, mine, there) = any_at (has_hash pairs) own some in
      and_from (is_nonempty pairs) (list_all in_list pairs)
      (nonempty pairs (λ none. false≢true (sym (ap (λ xs. has_hash xs h) none) ∙ there)))
      (all_from in_list pairs (λ p has. true_from_ne_false (in_list p) (λ out. both_ways (has_hash pairs p)
      (not-true (has_hash pairs p) (all_at (λ x. not (has_hash pairs x)) (other_hashes hashes sources) p others
      (filter_has (λ x. not (in_list x)) hashes p
      ∙ and_from (has_hash hashes p) (not (in_list p)) (known p has) (not_from_false (in_list p) out)))) has)))
    where
      known : (p : Hash) → has_hash pairs p ≡ true → has_hash hashes p ≡ true
      known p has = true_from_ne_false (has_hash hashes p) (λ out.
          both_ways (has_other hashes pairs) inside (any_from (λ x. not (has_hash hashes x)) pairs p has (not_from_false (has_hash hashes p) out)))

  in_own : (h : Hash) → in_list h ≡ true → has_hash own h ≡ true
  in_own h e = sym (own_has sources h) ∙ e

  none_outside : list_all in_list pairs ≡ true → has_other hashes pairs ≡ false
  none_outside all = false_from_ne_true (has_other hashes pairs) (λ some.
      let (h, has, out) = any_at (λ x. not (has_hash hashes x)) pairs some in
      both_ways (has_hash hashes h) (not-true (has_hash hashes h) out) (held h (in_own h (all_at in_list pairs h all has))))

  none_other : list_all in_list pairs ≡ true → list_all (λ h. not (has_hash pairs h)) (other_hashes hashes sources) ≡ true
  none_other all = all_from (λ h. not (has_hash pairs h)) (other_hashes hashes sources) (λ h other.
      let parts = and_parts (has_hash hashes h) (not (in_list h)) (sym (filter_has (λ x. not (in_list x)) hashes h) ∙ other) in
      not_from_false (has_hash pairs h) (false_from_ne_true (has_hash pairs h) (λ has.
      both_ways (in_list h) (not-true (in_list h) parts.1) (all_at in_list pairs h all has))))

  one_own : (ps : List Hash) → pairs ≡ ps → is_nonempty ps ≡ true → list_all in_list pairs ≡ true → list_any (has_hash pairs) own ≡ true
  one_own [] e some all = absurd (false≢true some)
  one_own (p ∷ ps) e some all =
      let has : has_hash pairs p ≡ true = ap (λ xs. has_hash xs p) e ∙ or_left (same_hash p p) (has_hash ps p) ((same_hash_decides p p).1 refl) in
      any_from (has_hash pairs) own p (in_own p (all_at in_list pairs p all has)) has

  integrity_by : (not (has_other hashes pairs) && (list_all (λ h. not (has_hash pairs h)) (other_hashes hashes sources) && list_any (has_hash pairs) own))
      ≡ integrity_matches pairs sources
  integrity_by =
      same_bool (not (has_other hashes pairs) && (list_all (λ h. not (has_hash pairs h)) (other_hashes hashes sources) && list_any (has_hash pairs) own))
      (integrity_matches pairs sources)
      (λ e. let parts = and_parts (not (has_other hashes pairs)) (list_all (λ h. not (has_hash pairs h)) (other_hashes hashes sources) && list_any (has_hash pairs) own) e in
      let rest = and_parts (list_all (λ h. not (has_hash pairs h)) (other_hashes hashes sources)) (list_any (has_hash pairs) own) parts.1 in
      matched (not-true (has_other hashes pairs) parts.0) rest.0 rest.1)
      (λ e. let parts = and_parts (is_nonempty pairs) (list_all in_list pairs) e in
      and_from (not (has_other hashes pairs)) (list_all (λ h. not (has_hash pairs h)) (other_hashes hashes sources) && list_any (has_hash pairs) own)
      (not_from_false (has_other hashes pairs) (none_outside parts.1))
      (and_from (list_all (λ h. not (has_hash pairs h)) (other_hashes hashes sources)) (list_any (has_hash pairs) own) (none_other parts.1) (one_own pairs refl parts.0 parts.1)))

module _ (hashes : List Hash) (asked : Check) (pairs : List Hash) (at : checked_integrity asked ≡ Some pairs) where
  pub integrity_said : (sources : List Source) → ((h : Hash) → has_hash (filter_map hash_of_source sources) h ≡ true → has_hash hashes h ≡ true)
      → is_true_for hashes asked (integrity_sentence hashes sources) ≡ integrity_matches pairs sources
  integrity_said sources held =
      let mine = any_of (map has_pair (filter_map hash_of_source sources)) in
      ap (λ b. not b && is_true_for hashes asked (all_of (map (λ h. Not (has_pair h)) (other_hashes hashes sources) ++ mine ∷ []))) (ap (λ part. on_part part (has_other hashes)) at)
      ∙ ap (λ b. not (has_other hashes pairs) && b)
      (denials hashes asked pairs at (other_hashes hashes sources) mine
      ∙ ap (λ b. list_all (λ h. not (has_hash pairs h)) (other_hashes hashes sources) && b) (any_pair hashes asked pairs at (filter_map hash_of_source sources)))
      ∙ integrity_by hashes pairs sources held
