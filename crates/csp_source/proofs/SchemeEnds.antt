-- Where a token's scheme ends: at its first colon.
use Rattle.std.proofs.Common.{arith, ◌≡◌, ◌∙◌, ◌&&◌, ◌==◌, ◌<◌, sym, ap, refl, subst, ℕ, Bool, true, false, List, ◌++◌, length, take, drop, Option, Some, None, nat_eq, get_or, get_or-drop, length-drop}
use Rattle.std.specs.Prelude.{codes}
use Rattle.std.specs.List.{starts_with, prefix_len, take_while}
use Rattle.std.proofs.lemmas.List.{take-append-drop}
use Rattle.std.proofs.lemmas.Bool.{eqb-true}
use Rattle.std.proofs.lemmas.List.Sums.{prefix_len_passes}
use Rattle.memchr.specs.Find.{IsFirstByte, is_byte}
use Rattle.csp_model.specs.Ascii.{skip_while}
use Rattle.csp_model.specs.Grammar.{is_scheme_char, is_scheme}
use Rattle.csp_source.specs.Schemes.{has_scheme}
use Rattle.csp_source.proofs.HostLaws.{Stops, take_while-append, skip_while-append, scheme_chars, scheme_end}

-- a scheme before "://" is the token's
module _ (at : ℕ) (token : List ℕ) (good : is_scheme (take at token) ≡ true) (ends : starts_with nat_eq (drop at token) (codes "://") ≡ true) where
  whole : token ≡ take at token ++ drop at token
  whole = sym (take-append-drop at token)

  stops : Stops is_scheme_char (drop at token)
  unfolding is_scheme_char
  stops = subst (Stops is_scheme_char) (sym (scheme_end (drop at token) ends)) refl

  pub letters_are : take_while is_scheme_char token ≡ take at token
  letters_are = ap (take_while is_scheme_char) whole ∙ take_while-append is_scheme_char (take at token) (drop at token) (scheme_chars (take at token) good) stops

  pub after_is : skip_while is_scheme_char token ≡ drop at token
  after_is = ap (skip_while is_scheme_char) whole ∙ skip_while-append is_scheme_char (take at token) (drop at token) (scheme_chars (take at token) good) stops

  pub scheme_there : has_scheme token ≡ true
  scheme_there = rw (letters_are, after_is, good, ends) refl

char_apart : (c : ℕ) → c ≡ 58 → is_scheme_char c ≡ true → ⊥
unfolding is_scheme_char
char_apart c e h = let no = sym h ∙ ap is_scheme_char e in cc

-- a scheme's "://" stands at the first colon
pub scheme_place : (token : List ℕ) (r : Option ℕ) → has_scheme token ≡ true → IsFirstByte (is_byte 58) token r → r ≡ Some (prefix_len is_scheme_char token)
scheme_place token r h found = go r found where
  n : ℕ
  n = prefix_len is_scheme_char token

  rest : drop n token ≡ codes "://" ++ drop 3 (drop n token)
  rest = scheme_end (drop n token) (grind (arith, h))

  colon : get_or token n 0 ≡ 58
  colon = ap (λ i. get_or token i 0) (omega arith) ∙ sym (get_or-drop n token 0 0) ∙ ap (λ t. get_or t 0 0) rest

  within : n < length token
  within = let some = ap length rest in let long = length-drop n token in omega arith

  go : (r : Option ℕ) → IsFirstByte (is_byte 58) token r → r ≡ Some n
  go None none = absurd (none n (omega arith) within (ap (λ x. x == 58) colon))
  go (Some at) found =
      let not_after : n < at → ⊥ = λ below. found.0.before n (omega arith) below (ap (λ x. x == 58) colon) in
      let not_before : at < n → ⊥ = λ below. char_apart (get_or token at 0) (eqb-true _ 58 found.1) (prefix_len_passes is_scheme_char token at 0 below) in
      ap Some (omega (arith, not_after, not_before))

clash : (x y : Bool) → (x && y) ≡ true → (y && x) ≡ false → true ≡ false
clash true true h k = k
clash true false h k = sym h
clash false y h k = sym h

-- a token without a colon has no scheme
pub no_colon : (token : List ℕ) → IsFirstByte (is_byte 58) token None → has_scheme token ≡ false
no_colon token none = elim (has_scheme token) as (λ b. has_scheme token ≡ b → b ≡ false) [
  | true ↦ λ h. let place = scheme_place token None h none in cc
  | false ↦ λ h. refl
] refl

-- nor has one with something else around its first colon
pub no_scheme : (token : List ℕ) (at : ℕ) → IsFirstByte (is_byte 58) token (Some at) → (starts_with nat_eq (drop at token) (codes "://") && is_scheme (take at token)) ≡ false → has_scheme token ≡ false
no_scheme token at found other = elim (has_scheme token) as (λ b. has_scheme token ≡ b → b ≡ false) [
  | true ↦ λ h.
      let place : at ≡ prefix_len is_scheme_char token = let same = scheme_place token (Some at) h found in cc in
      clash (is_scheme (take_while is_scheme_char token)) (starts_with nat_eq (skip_while is_scheme_char token) (codes "://")) h (subst (λ n. (starts_with nat_eq (drop n token) (codes "://") && is_scheme (take n token)) ≡ false) place other)
  | false ↦ λ h. refl
] refl
