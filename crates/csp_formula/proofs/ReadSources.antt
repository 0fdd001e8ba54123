-- What the grammar says of a source that is read.
use Rattle.std.proofs.Common.{◌≡◌, ◌≢◌, ◌∙◌, sym, ap, refl, subst, ℕ, Bool, true, false, ◌&&◌, ◌==◌, List, [], ◌∷◌, ◌-◌, ◌<◌, ◌⊎◌, suc, map, drop, take, length, Option, Some, None, cond, inl, inr, nat_eq, nat_lt, arith}
use Rattle.std.specs.Prelude.{if◌then◌else◌, codes}
use Rattle.std.specs.List.{list_all, starts_with, join_with_byte, onto_first}
use Rattle.std.specs.Char.{to_ascii_lowercase}
use Rattle.std.specs.Str.{bytes_eq}
use Rattle.std.proofs.lemmas.Bool.{false≢true, and_parts, and_from, and_left, and_right, both_ways, false_from_ne_true, eqb-true}
use Rattle.std.proofs.lemmas.Bool.Decides.{nat_tests}
use Rattle.std.proofs.lemmas.List.Splits.{join_with_byte-slice_split, length-slice_split}
use Rattle.percent_encoding.specs.Percent.{percent_decode, is_escape}
use Rattle.base64.specs.GeneralPurpose.{IsBytes}
use Rattle.csp_model.proofs.FinalBytes.{one_byte}
use Rattle.csp_model.specs.Ascii.{lower, is_nonempty, ends_in, without_last, split_at}
use Rattle.csp_model.specs.Grammar.{is_name, is_label, is_label_char, host_part_of, path_part_of, are_segments, pieces_of, is_base64_value, IsSource}
use Rattle.csp_model.specs.Validity.{is_bracketed, is_group_char}
use Rattle.csp_model.specs.declared.source.HostPart.{HostPart}
use Rattle.csp_model.specs.declared.source.HostPart.TheVariants as host
use Rattle.csp_model.specs.declared.source.PathPart.{PathPart}
use Rattle.csp_model.specs.declared.source.PathPart.TheVariants as path
use Rattle.csp_model.specs.declared.source.Source.{Source}
use Rattle.csp_model.specs.declared.source.Source.TheVariants as source
use Rattle.csp_token.proofs.Sizes.{bytes_of_size}
use Rattle.csp_facts.specs.Spelling.{is_visible}
use Rattle.csp_facts.proofs.SpelledWords.{base64_word}
use Rattle.csp_formula.proofs.SuffixDomain.{some_part}
use Rattle.csp_formula.proofs.SourcesSaid.{IsReadSource}
use Rattle.csp_formula.proofs.UrlPartsSaid.{IsReadHost, IsReadPath}

chosen : {A : Type 0} (b : Bool) (x y : Option A) (v : A) → cond b x y ≡ Some v → ((b ≡ true) × (x ≡ Some v)) ⊎ ((b ≡ false) × (y ≡ Some v))
chosen true x y v e = inl (refl, e)
chosen false x y v e = inr (refl, e)

first_part : (parts : List (List ℕ)) → 0 < length parts → (q : List ℕ) × (qs : List (List ℕ)) × (parts ≡ q ∷ qs)
first_part [] some = absurd (omega arith)
first_part (q ∷ qs) some = (q, qs, refl)

-- Hosts

no_empty_name : is_name [] ≡ false
unfolding is_name
no_empty_name = refl

some_name : (text : List ℕ) → is_name text ≡ true → lower text ≢ []
some_name [] name e = false≢true (sym no_empty_name ∙ name)
some_name (c ∷ text) name e = cc e

no_label : (parts : List (List ℕ)) → 0 < length parts → list_all is_label (onto_first 91 parts) ≡ false
unfolding is_label_char
no_label [] some = absurd (omega arith)
no_label (q ∷ qs) some = and_left (is_label (91 ∷ q)) (list_all is_label qs) (and_right (is_nonempty (91 ∷ q)) false refl)

without_last-cons : (x y : ℕ) (text : List ℕ) → without_last (x ∷ y ∷ text) ≡ x ∷ without_last (y ∷ text)
without_last-cons x y text =
    let more : length (x ∷ y ∷ text) - 1 ≡ suc (length (y ∷ text) - 1) = omega arith in
    ap (λ n. take n (x ∷ y ∷ text)) more

bracket_no_name : (text : List ℕ) → is_name (91 ∷ text) ≡ false
unfolding is_name
bracket_no_name [] = no_label (split_at 46 []) (some_part [])
bracket_no_name (d ∷ text) = by (ends_in 46 (91 ∷ d ∷ text)) where
  by : (b : Bool) → list_all is_label (split_at 46 (cond b (without_last (91 ∷ d ∷ text)) (91 ∷ d ∷ text))) ≡ false
  by true = ap (λ t. list_all is_label (split_at 46 t)) (without_last-cons 91 d text) ∙ no_label (split_at 46 (without_last (d ∷ text))) (some_part (without_last (d ∷ text)))
  by false = no_label (split_at 46 (d ∷ text)) (some_part (d ∷ text))

lower_bracket : (c : ℕ) → to_ascii_lowercase c ≡ 91 → c ≡ 91
lower_bracket c h = grind (arith, nat_tests)

first_bracket : (c : ℕ) (text : List ℕ) → is_bracketed (c ∷ text) ≡ true → c ≡ 91
unfolding is_bracketed
first_bracket c text h =
    let three = and_parts ((c == 91) && ends_in 93 (c ∷ text) && is_nonempty (without_last text)) (list_all is_group_char (without_last text)) h in
    let two = and_parts ((c == 91) && ends_in 93 (c ∷ text)) (is_nonempty (without_last text)) three.0 in
    eqb-true c 91 (and_parts (c == 91) (ends_in 93 (c ∷ text)) two.0).0

name_no_bracket : (text : List ℕ) → is_name text ≡ true → is_bracketed (lower text) ≡ false
name_no_bracket [] name = absurd (false≢true (sym no_empty_name ∙ name))
name_no_bracket (c ∷ text) name = false_from_ne_true (is_bracketed (lower (c ∷ text))) (λ h.
    let is = lower_bracket c (first_bracket (to_ascii_lowercase c) (lower text) h) in
    both_ways (is_name (c ∷ text)) (ap (λ b. is_name (b ∷ text)) is ∙ bracket_no_name text) name)

read_host : (text : List ℕ) (part : HostPart) → host_part_of text ≡ Some part → IsReadHost part
unfolding host_part_of
read_host text part e =
    let exact = if is_name text then Some (host.Exact (lower text)) else None in
    let under = if starts_with nat_eq text (codes "*.") && is_name (drop 2 text) then Some (host.Under (lower (drop 2 text))) else exact in
    elim (chosen (bytes_eq text (codes "*")) (Some host.Any) under part e) [
      | inl any ↦ let is : host.Any ≡ part = cc any.1 in subst IsReadHost is tt
      | inr more ↦ elim (chosen (starts_with nat_eq text (codes "*.") && is_name (drop 2 text)) (Some (host.Under (lower (drop 2 text)))) exact part more.1) [
        | inl wild ↦
            let name = (and_parts (starts_with nat_eq text (codes "*.")) (is_name (drop 2 text)) wild.0).1 in
            let is : host.Under (lower (drop 2 text)) ≡ part = cc wild.1 in
            subst IsReadHost is (some_name (drop 2 text) name)
        | inr last ↦ elim (chosen (is_name text) (Some (host.Exact (lower text))) None part last.1) [
          | inl named ↦
              let is : host.Exact (lower text) ≡ part = cc named.1 in
              subst IsReadHost is (name_no_bracket text named.0)
          | inr none ↦ cc none.1
        ]
      ]
    ]

-- Paths

decodes_some : (b : ℕ) (rest : List ℕ) → percent_decode (b ∷ rest) ≡ [] → ⊥
unfolding percent_decode
decodes_some b [] e = cc
decodes_some b (c ∷ []) e = cc
decodes_some b (high ∷ low ∷ rest) e = by (is_escape b high low) _ _ _ _ e where
  by : (escape : Bool) (x y : ℕ) (xs ys : List ℕ) → cond escape (x ∷ xs) (y ∷ ys) ≡ [] → ⊥
  by true x y xs ys e = cc
  by false x y xs ys e = cc

no_decoded : (text : List ℕ) → percent_decode text ≡ [] → text ≡ []
no_decoded [] e = refl
no_decoded (b ∷ rest) e = absurd (decodes_some b rest e)

one_piece : (q : List ℕ) (qs : List (List ℕ)) → map percent_decode (q ∷ qs) ≡ [] ∷ [] → q ∷ qs ≡ [] ∷ []
one_piece q [] e = ap (λ x. x ∷ []) (no_decoded q (cc e))
one_piece q (r ∷ qs) e = cc e

no_text : (text : List ℕ) → pieces_of text ≡ [] ∷ [] → text ≡ []
no_text text e =
    let (q, qs, parts) = first_part (split_at 47 text) (omega (arith, length-slice_split (λ c. c == 47) text)) in
    sym (join_with_byte-slice_split 47 text)
    ∙ ap (join_with_byte 47) (parts ∙ one_piece q qs (ap (map percent_decode) (sym parts) ∙ e))

exact_by : (c : ℕ) (text : List ℕ) (slash : Bool) → ends_in 47 (c ∷ text) ≡ slash → (c == 47) ≡ true → (part : PathPart)
    → (if slash then path.Prefix (without_last (pieces_of text)) else path.Exact (pieces_of text)) ≡ part → IsReadPath part
exact_by c text true ends begins part e = subst IsReadPath e tt
exact_by c text false ends begins part e =
    subst IsReadPath e (λ (one : pieces_of text ≡ [] ∷ []).
    both_ways (c == 47) (sym (sym (ap (λ t. ends_in 47 (c ∷ t)) (sym (no_text text one)) ∙ ends) ∙ one_byte 47 c)) begins)

read_path : (text : List ℕ) (part : PathPart) → path_part_of text ≡ Some part → IsReadPath part
unfolding path_part_of
read_path [] part e = let is : path.Absent ≡ part = cc e in subst IsReadPath is tt
read_path (c ∷ text) part e =
    let found = if ends_in 47 (c ∷ text) then path.Prefix (without_last (pieces_of text)) else path.Exact (pieces_of text) in
    elim (chosen ((c == 47) && are_segments (split_at 47 text)) (Some found) None part e) [
      | inl some ↦
          let is : found ≡ part = cc some.1 in
          exact_by c text (ends_in 47 (c ∷ text)) refl (and_parts (c == 47) (are_segments (split_at 47 text)) some.0).0 part is
      | inr none ↦ cc none.1
    ]

-- Base64-values

no_empty_value : is_base64_value [] ≡ false
unfolding is_base64_value
no_empty_value = refl

some_value : (value : List ℕ) → is_base64_value value ≡ true → value ≢ []
some_value value valid e = false≢true (sym no_empty_value ∙ ap is_base64_value (sym e) ∙ valid)

weaker : (p q : ℕ → Bool) → ((c : ℕ) → p c ≡ true → q c ≡ true) → (text : List ℕ) → list_all p text ≡ true → list_all q text ≡ true
weaker p q each [] all = refl
weaker p q each (c ∷ text) all =
    let parts = and_parts (p c) (list_all p text) all in
    and_from (q c) (list_all q text) (each c parts.0) (weaker p q each text parts.1)

visible_small : (c : ℕ) → is_visible c ≡ true → nat_lt c 256 ≡ true
visible_small c h = grind (arith, nat_tests)

value_bytes : (value : List ℕ) → is_base64_value value ≡ true → IsBytes value
value_bytes value valid =
    let visible = (and_parts (is_nonempty value) (list_all is_visible value) (base64_word value valid)).1 in
    bytes_of_size (length value) value (refl, weaker is_visible (λ c. nat_lt c 256) visible_small value visible)

pub read_as : (token : List ℕ) (s : Source) → IsSource token s → IsReadSource s
read_as token source.Star h = tt
read_as token (source.SchemeOnly scheme) h = tt
read_as token (source.Hosted scheme host_part port_part path_part) h =
    let (a, b, c, d, e, scheme_read, host_read, port_read, path_read) = h.1 in
    (read_host b host_part host_read, read_path d path_part path_read)
read_as token (source.Word word) h = tt
read_as token (source.Nonce value) h = some_value value h.3
read_as token (source.Digest hash) h = value_bytes hash.value h.3
read_as token (source.Other text) h = tt
