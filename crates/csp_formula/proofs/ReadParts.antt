-- What the grammar says of the parts of a source that is read, as far as atoms are made of them.
use Rattle.std.proofs.Common.{◌≡◌, ◌≢◌, ◌∙◌, sym, ap, refl, subst, arith, ℕ, ◌<◌, ◌-◌, zero, suc, Bool, true, false, ◌&&◌, ◌==◌, not, nat_lt, List, [], ◌∷◌, map, take, length, Option, Some, None, All, cond, ◌⊎◌, inl, inr}
use Rattle.std.specs.Prelude.{if◌then◌else◌, codes}
use Rattle.std.specs.List.{list_all}
use Rattle.std.specs.Char.{is_ascii_alphabetic, to_ascii_lowercase}
use Rattle.std.specs.Str.{bytes_eq}
use Rattle.std.proofs.lemmas.Bool.{and_parts, and_from, eqb-true, lt-ltb, ltb-true}
use Rattle.std.proofs.lemmas.Bool.Decides.{nat_tests}
use Rattle.std.proofs.lemmas.List.{length-map}
use Rattle.std.proofs.lemmas.List.Elements.{All-nil, All-cons, All-head, All-tail}
use Rattle.std.proofs.lemmas.List.Splits.{length-slice_split}
use Rattle.std.proofs.lemmas.Slice.Eq.{bytes_eq-Decides}
use Rattle.std.proofs.lemmas.Str.Ascii.{lowercase-lowercase}
use Rattle.percent_encoding.specs.Percent.{percent_decode}
use Rattle.percent_encoding.proofs.PercentLemmas.{IsByte, All-percent_decode}
use Rattle.csp_model.specs.Ascii.{lower, ends_in, without_last, split_at}
use Rattle.csp_model.specs.Grammar.{is_scheme, is_scheme_char, is_path_char, is_segment, are_segments, begins_hex_pair, pieces_of, path_part_of, port_part_of, port_numbered, are_digits, decimal_value, IsSource}
use Rattle.csp_model.specs.Validity.{are_bytes, is_lower_scheme}
use Rattle.csp_model.specs.declared.source.PathPart.{PathPart}
use Rattle.csp_model.specs.declared.source.PathPart.TheVariants as path
use Rattle.csp_model.specs.declared.source.PortPart.{PortPart}
use Rattle.csp_model.specs.declared.source.PortPart.TheVariants as port
use Rattle.csp_model.specs.declared.source.Source.{Source}
use Rattle.csp_model.specs.declared.source.Source.TheVariants as source
use Rattle.csp_formula.proofs.AtomsOfSources.{ReadsPort, ReadsPath, ReadsSource}

chosen : {A : Type 0} (b : Bool) (x y : Option A) (v : A) → cond b x y ≡ Some v → ((b ≡ true) × (x ≡ Some v)) ⊎ ((b ≡ false) × (y ≡ Some v))
chosen true x y v e = inl (refl, e)
chosen false x y v e = inr (refl, e)

-- Paths

path_char_small : (c : ℕ) → is_path_char c ≡ true → c < 256
unfolding is_path_char
path_char_small c h = grind (arith, nat_tests)

segment_char : (c : ℕ) (hex : Bool) → (if c == 37 then hex else is_path_char c) ≡ true → c < 256
segment_char c hex h = by (c == 37) refl h where
  by : (b : Bool) → (c == 37) ≡ b → (if b then hex else is_path_char c) ≡ true → c < 256
  by true e h = let is : c ≡ 37 = eqb-true c 37 e in omega (arith, is)
  by false e h = path_char_small c h

segment_bytes : (s : List ℕ) → is_segment s ≡ true → All IsByte s
segment_bytes [] h = All-nil IsByte
segment_bytes (c ∷ cs) h =
    let parts = and_parts (if c == 37 then begins_hex_pair cs else is_path_char c) (is_segment cs) h in
    All-cons IsByte c cs (segment_char c (begins_hex_pair cs) parts.0) (segment_bytes cs parts.1)

all_bytes : (text : List ℕ) → All IsByte text → are_bytes text ≡ true
all_bytes [] all = refl
all_bytes (b ∷ text) all = and_from (nat_lt b 256) (are_bytes text) (lt-ltb b 256 (All-head IsByte b text all)) (all_bytes text (All-tail IsByte b text all))

decoded_bytes : (parts : List (List ℕ)) → list_all is_segment parts ≡ true → list_all are_bytes (map percent_decode parts) ≡ true
decoded_bytes [] h = refl
decoded_bytes (s ∷ parts) h =
    let both = and_parts (is_segment s) (list_all is_segment parts) h in
    and_from (are_bytes (percent_decode s)) (list_all are_bytes (map percent_decode parts))
    (all_bytes (percent_decode s) (All-percent_decode s (segment_bytes s both.0))) (decoded_bytes parts both.1)

each_segment : (parts : List (List ℕ)) → are_segments parts ≡ true → list_all is_segment parts ≡ true
each_segment [] h = refl
each_segment (s ∷ []) h = and_from (is_segment s) true h refl
each_segment (s ∷ t ∷ rest) h = (and_parts _ (list_all is_segment (s ∷ t ∷ rest)) h).1

front_bytes : (n : ℕ) (pieces : List (List ℕ)) → list_all are_bytes pieces ≡ true → list_all are_bytes (take n pieces) ≡ true
front_bytes zero pieces h = refl
front_bytes (suc n) [] h = refl
front_bytes (suc n) (p ∷ ps) h =
    let both = and_parts (are_bytes p) (list_all are_bytes ps) h in
    and_from (are_bytes p) (list_all are_bytes (take n ps)) both.0 (front_bytes n ps both.1)

some_pieces : (text : List ℕ) → pieces_of text ≢ []
some_pieces text e =
    let none : length (pieces_of text) ≡ 0 = ap (λ (pieces : List (List ℕ)). length pieces) e in
    let same : length (pieces_of text) ≡ length (split_at 47 text) = rw length-map refl in
    omega (arith, none, same, length-slice_split (λ c. c == 47) text)

path_by : (slash : Bool) (text : List ℕ) (p : PathPart) → list_all are_bytes (pieces_of text) ≡ true
    → (if slash then path.Prefix (without_last (pieces_of text)) else path.Exact (pieces_of text)) ≡ p → ReadsPath p
path_by true text p bytes e = subst ReadsPath e (front_bytes (length (pieces_of text) - 1) (pieces_of text) bytes)
path_by false text p bytes e = subst ReadsPath e (some_pieces text, bytes)

reads_path : (text : List ℕ) (p : PathPart) → path_part_of text ≡ Some p → ReadsPath p
unfolding path_part_of
reads_path [] p e = let is : path.Absent ≡ p = cc e in subst ReadsPath is tt
reads_path (c ∷ text) p e =
    let found = if ends_in 47 (c ∷ text) then path.Prefix (without_last (pieces_of text)) else path.Exact (pieces_of text) in
    elim (chosen ((c == 47) && are_segments (split_at 47 text)) (Some found) None p e) [
      | inl some ↦
          let is : found ≡ p = cc some.1 in
          let segments = (and_parts (c == 47) (are_segments (split_at 47 text)) some.0).1 in
          path_by (ends_in 47 (c ∷ text)) text p (decoded_bytes (split_at 47 text) (each_segment (split_at 47 text) segments)) is
      | inr none ↦ cc none.1
    ]

-- Ports

numbered : (n : ℕ) (small : Bool) → nat_lt n 65536 ≡ small → ReadsPort (if small then port.Number n else port.TooLarge)
numbered n true e = ltb-true n 65536 e
numbered n false e = tt

reads_port : (text : List ℕ) (p : PortPart) → port_part_of text ≡ Some p → ReadsPort p
unfolding port_part_of
reads_port [] p e = let is : port.Absent ≡ p = cc e in subst ReadsPort is tt
reads_port (c ∷ text) p e =
    let digits = if are_digits text then Some (port_numbered (decimal_value text)) else None in
    let any = if bytes_eq text (codes "*") then Some port.Any else digits in
    elim (chosen (not (c == 58)) None any p e) [
      | inl none ↦ cc none.1
      | inr colon ↦ elim (chosen (bytes_eq text (codes "*")) (Some port.Any) digits p colon.1) [
        | inl star ↦ let is : port.Any ≡ p = cc star.1 in subst ReadsPort is tt
        | inr other ↦ elim (chosen (are_digits text) (Some (port_numbered (decimal_value text))) None p other.1) [
          | inl number ↦
              let is : port_numbered (decimal_value text) ≡ p = cc number.1 in
              subst ReadsPort is (numbered (decimal_value text) (nat_lt (decimal_value text) 65536) refl)
          | inr none ↦ cc none.1
        ]
      ]
    ]

-- Schemes

lower_again : (text : List ℕ) → lower (lower text) ≡ lower text
lower_again [] = refl
lower_again (c ∷ text) = ap (λ x. x ∷ lower (lower text)) (lowercase-lowercase c) ∙ ap (λ x. to_ascii_lowercase c ∷ x) (lower_again text)

lower_letter : (c : ℕ) → is_ascii_alphabetic c ≡ true → is_ascii_alphabetic (to_ascii_lowercase c) ≡ true
lower_letter c h = grind (arith, nat_tests)

lower_char : (c : ℕ) → is_scheme_char c ≡ true → is_scheme_char (to_ascii_lowercase c) ≡ true
unfolding is_scheme_char
lower_char c h = grind (arith, nat_tests)

lower_chars : (text : List ℕ) → list_all is_scheme_char text ≡ true → list_all is_scheme_char (lower text) ≡ true
lower_chars [] h = refl
lower_chars (c ∷ text) h =
    let both = and_parts (is_scheme_char c) (list_all is_scheme_char text) h in
    and_from (is_scheme_char (to_ascii_lowercase c)) (list_all is_scheme_char (lower text)) (lower_char c both.0) (lower_chars text both.1)

lower_is_scheme : (letters : List ℕ) → is_scheme letters ≡ true → is_scheme (lower letters) ≡ true
lower_is_scheme [] h = h
lower_is_scheme (c ∷ letters) h =
    let both = and_parts (is_ascii_alphabetic c) (list_all is_scheme_char letters) h in
    and_from (is_ascii_alphabetic (to_ascii_lowercase c)) (list_all is_scheme_char (lower letters)) (lower_letter c both.0) (lower_chars letters both.1)

lower_scheme : (letters : List ℕ) → is_scheme letters ≡ true → is_lower_scheme (lower letters) ≡ true
unfolding is_lower_scheme
lower_scheme letters scheme =
    and_from (is_scheme (lower letters)) (bytes_eq (lower (lower letters)) (lower letters)) (lower_is_scheme letters scheme)
    ((bytes_eq-Decides (lower (lower letters)) (lower letters)).1 (lower_again letters))

pub reads : (token : List ℕ) (s : Source) → IsSource token s → ReadsSource s
reads token source.Star h = tt
reads token (source.SchemeOnly scheme) h =
    let (letters, spelt, valid, is) = h in
    subst (λ text. is_lower_scheme text ≡ true) (sym is) (lower_scheme letters valid)
reads token (source.Hosted scheme host_part port_part path_part) h =
    let (a, b, c, d, e, scheme_read, host_read, port_read, path_read) = h.1 in
    (reads_port c port_part port_read, reads_path d path_part path_read)
reads token (source.Word word) h = tt
reads token (source.Nonce value) h = h.3
reads token (source.Digest hash) h = tt
reads token (source.Other text) h = tt
