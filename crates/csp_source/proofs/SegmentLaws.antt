-- A path's spelling is read as that path.
use Rattle.std.proofs.Common.{arith, ◌≡◌, ◌∙◌, sym, ap, refl, subst, ℕ, ◌/◌, ◌%◌, ◌<◌, Bool, true, false, ◌&&◌, ◌||◌, List, [], ◌∷◌, ◌++◌, map, Some, None, Option, cond, inl, inr, zero, suc}
use Rattle.std.specs.Prelude.{codes, ◌==◌, not, if◌then◌else◌}
use Rattle.std.specs.List.{list_all, onto_first, All}
use Rattle.std.specs.Char.{is_ascii_hexdigit}
use Rattle.std.specs.Fmt.{digit_glyph}
use Rattle.std.proofs.lemmas.Bool.{false≢true}
use Rattle.std.proofs.lemmas.Bool.Decides.{nat_tests, eqb_tells}
use Rattle.std.proofs.lemmas.List.Concat.{flat_map-append}
use Rattle.std.proofs.lemmas.List.Elements.{All-nil, All-cons, All-head, All-tail, All-map, All-weaker}
use Rattle.percent_encoding.specs.AsciiSet.{should_percent_encode}
use Rattle.percent_encoding.specs.Percent.{percent_encode, percent_encode_byte, percent_decode}
use Rattle.percent_encoding.proofs.AsciiSetLemmas.{ascii_from_kept}
use Rattle.percent_encoding.proofs.PercentLemmas.{IsByte, All-percent_decode, percent_encode-nil, percent_encode_escaped, percent_encode_kept, percent_encode_nonempty, length-percent_decode}
use Rattle.csp_model.specs.Ascii.{split_at, is_nonempty, is_ascii_text, ends_in, without_last}
use Rattle.csp_model.specs.Grammar.{is_path_char, is_segment, are_segments, path_part_of}
use Rattle.csp_model.specs.Paths.{path_text}
use Rattle.csp_source.specs.Types.{PathPart}
use Rattle.csp_model.specs.declared.path.TheConstants.{ESCAPED}
use Rattle.csp_model.proofs.PathText.{split_at-path_text, decoded_again}
use Rattle.csp_source.specs.Spelling.{path_spelling}
use Rattle.csp_model.proofs.FinalBytes.{ends_in-cons, one_byte, without_last-push}
use Rattle.csp_source.proofs.HostLaws.{chosen, path_slash}
use Rattle.csp_source.proofs.PathLaws.{first_part, nonempty}

-- a test that holds of every number below a bound, tried one by one
below : (ℕ → Bool) → ℕ → Bool
below p zero = true
below p (suc n) = p n && below p n

from_below : (p : ℕ → Bool) (n : ℕ) → below p n ≡ true → (b : ℕ) → b < n → p b ≡ true
unfolding below
from_below p zero h b small = absurd (omega arith)
from_below p (suc n) h b small = elim (eqb_tells b n) [
  | inl is ↦ let here : p n ≡ true = grind (arith, h) in rw is.1 here
  | inr other ↦ let rest : below p n ≡ true = grind (arith, h) in let apart = other.1 in from_below p n rest b (omega arith)
]

-- ---- what a piece is written as is a segment

is_kept_good : ℕ → Bool
is_kept_good b = should_percent_encode ESCAPED b || (is_path_char b && not (b == 37))

kept_table : below is_kept_good 128 ≡ true
unfolding below is_kept_good should_percent_encode is_path_char
kept_table = refl

is_glyph_good : ℕ → Bool
is_glyph_good d = is_ascii_hexdigit (digit_glyph true d) && (is_path_char (digit_glyph true d) && not (digit_glyph true d == 37))

glyph_table : below is_glyph_good 16 ≡ true
unfolding below is_glyph_good is_path_char
glyph_table = refl

kept_good : (b : ℕ) → should_percent_encode ESCAPED b ≡ false → (is_path_char b ≡ true) × ((b == 37) ≡ false)
unfolding is_kept_good
kept_good b h = let good = from_below is_kept_good 128 kept_table b (ascii_from_kept ESCAPED b h) in (grind (arith, good), grind (arith, good))

glyph_good : (d : ℕ) → d < 16 → (is_ascii_hexdigit (digit_glyph true d) ≡ true) × (is_path_char (digit_glyph true d) ≡ true) × ((digit_glyph true d == 37) ≡ false)
unfolding is_glyph_good
glyph_good d h = let good = from_below is_glyph_good 16 glyph_table d h in (grind (arith, good), grind (arith, good), grind (arith, good))

segment_char : (c : ℕ) (rest : List ℕ) → is_path_char c ≡ true → (c == 37) ≡ false → is_segment rest ≡ true → is_segment (c ∷ rest) ≡ true
segment_char c rest good apart h = rw (apart, good) h

segment_escape : (a b : ℕ) (rest : List ℕ) → is_ascii_hexdigit a ≡ true → is_ascii_hexdigit b ≡ true → is_segment (a ∷ b ∷ rest) ≡ true → is_segment (37 ∷ a ∷ b ∷ rest) ≡ true
segment_escape a b rest ha hb h = rw (ha, hb) h

escaped_segment : (b : ℕ) (rest : List ℕ) → is_segment rest ≡ true → is_segment (percent_encode_byte b ++ rest) ≡ true
unfolding percent_encode_byte
escaped_segment b rest h =
    let high = glyph_good (b / 16 % 16) (omega arith) in
    let low = glyph_good (b % 16) (omega arith) in
    let a = digit_glyph true (b / 16 % 16) in
    let c = digit_glyph true (b % 16) in
    segment_escape a c rest high.0 low.0 (segment_char a (c ∷ rest) high.1 high.2 (segment_char c rest low.1 low.2 h))

encoded_segment : (piece : List ℕ) → is_segment (percent_encode ESCAPED piece) ≡ true
encoded_segment [] = ap is_segment (percent_encode-nil ESCAPED)
encoded_segment (b ∷ piece) = go (should_percent_encode ESCAPED b) refl (encoded_segment piece) where
  go : (e : Bool) → should_percent_encode ESCAPED b ≡ e → is_segment (percent_encode ESCAPED piece) ≡ true → is_segment (percent_encode ESCAPED (b ∷ piece)) ≡ true
  go true is h = ap is_segment (percent_encode_escaped ESCAPED b piece is) ∙ escaped_segment b (percent_encode ESCAPED piece) h
  go false is h = let good = kept_good b is in ap is_segment (percent_encode_kept ESCAPED b piece is) ∙ segment_char b (percent_encode ESCAPED piece) good.0 good.1 h

encoded_segments : (pieces : List (List ℕ)) → list_all is_segment (map (percent_encode ESCAPED) pieces) ≡ true
encoded_segments [] = refl
encoded_segments (piece ∷ pieces) = rw (encoded_segment piece) (encoded_segments pieces)

-- ---- how a path's text splits

-- the last of the parts is empty
last_empty : List (List ℕ) → Bool
last_empty [] = true
last_empty (s ∷ []) = not (is_nonempty s)
last_empty (s ∷ t ∷ parts) = last_empty (t ∷ parts)

grown : (c x : ℕ) (q : List ℕ) (qs : List (List ℕ)) → last_empty ((c ∷ x ∷ q) ∷ qs) ≡ last_empty ((x ∷ q) ∷ qs)
unfolding last_empty
grown c x q [] = ap not (nonempty c (x ∷ q)) ∙ sym (ap not (nonempty x q))
grown c x q (r ∷ qs) = refl

-- one more byte before the first of the parts of a text leaves the last
before_by : (b : Bool) (c x : ℕ) (parts : List (List ℕ)) (q : List ℕ) (qs : List (List ℕ)) → parts ≡ q ∷ qs
    → last_empty (onto_first c (cond b ([] ∷ parts) (onto_first x parts))) ≡ last_empty (cond b ([] ∷ parts) (onto_first x parts))
unfolding last_empty
before_by true c x parts q qs e = rw e refl
before_by false c x parts q qs e = rw e (grown c x q qs)

slash_by : (parts : List (List ℕ)) (q : List ℕ) (qs : List (List ℕ)) → parts ≡ q ∷ qs → last_empty ([] ∷ parts) ≡ last_empty parts
unfolding last_empty
slash_by parts q qs e = rw e refl

more_by : (b : Bool) (c : ℕ) (parts : List (List ℕ)) → last_empty (onto_first c parts) ≡ last_empty parts → last_empty ([] ∷ parts) ≡ last_empty parts
    → last_empty (cond b ([] ∷ parts) (onto_first c parts)) ≡ last_empty parts
more_by true c parts h k = k
more_by false c parts h k = h

one_by : (b : Bool) (c : ℕ) → b ≡ last_empty (cond b ([] ∷ [] ∷ []) (onto_first c ([] ∷ [])))
unfolding last_empty
one_by true c = refl
one_by false c = sym (ap not (nonempty c []))

-- a text ends in "/" where its last part is empty
last_slash : (c : ℕ) (text : List ℕ) → ends_in 47 (c ∷ text) ≡ last_empty (split_at 47 (c ∷ text))
last_slash c [] = one_byte 47 c ∙ one_by (c == 47) c
last_slash c (x ∷ text) =
    let (q, qs, e) = first_part (λ b. b == 47) text in
    let (r, rs, k) = first_part (λ b. b == 47) (x ∷ text) in
    ends_in-cons 47 c x text ∙ last_slash x text ∙ sym (more_by (c == 47) c (split_at 47 (x ∷ text)) (before_by (x == 47) c x (split_at 47 text) q qs e) (slash_by (split_at 47 (x ∷ text)) r rs k))

ends_slash : (text : List ℕ) → ends_in 47 (47 ∷ text) ≡ last_empty (split_at 47 text)
ends_slash text =
    let (q, qs, e) = first_part (λ b. b == 47) text in
    last_slash 47 text ∙ slash_by (split_at 47 text) q qs e

-- ---- pieces and parts

-- what the parts of a path say, which is the path
path_from : List (List ℕ) → Option PathPart
path_from parts = if are_segments parts then Some (if last_empty parts then PathPart.Prefix (without_last (map percent_decode parts)) else PathPart.Exact (map percent_decode parts)) else None

path_is : (text : List ℕ) → path_part_of (47 ∷ text) ≡ path_from (split_at 47 text)
unfolding path_part_of path_from
path_is text = rw (ends_slash text) refl

decoded_nonempty : (s : List ℕ) → is_nonempty (percent_decode s) ≡ is_nonempty s
decoded_nonempty s = let long = length-percent_decode s in grind (arith, nat_tests)

encoded_nonempty : (piece : List ℕ) → is_nonempty (percent_encode ESCAPED piece) ≡ is_nonempty piece
encoded_nonempty [] = ap is_nonempty (percent_encode-nil ESCAPED)
encoded_nonempty (b ∷ piece) = let some = percent_encode_nonempty ESCAPED (b ∷ piece) (omega arith) in grind (arith, nat_tests)

last_by : (f : List ℕ → List ℕ) → ((s : List ℕ) → is_nonempty (f s) ≡ is_nonempty s) → (parts : List (List ℕ)) → last_empty (map f parts) ≡ last_empty parts
unfolding last_empty
last_by f same [] = refl
last_by f same (s ∷ []) = ap not (same s)
last_by f same (s ∷ t ∷ parts) = last_by f same (t ∷ parts)

-- the segments of a path are such, written again
segments_again : (parts : List (List ℕ)) → are_segments parts ≡ true → are_segments (map (percent_encode ESCAPED) (map percent_decode parts)) ≡ true
segments_again [] h = h
segments_again (s ∷ []) h = encoded_segment (percent_decode s)
segments_again (s ∷ t ∷ parts) h =
    let first : is_nonempty s ≡ true = grind (arith, h) in
    let some : is_nonempty (percent_encode ESCAPED (percent_decode s)) ≡ true = encoded_nonempty (percent_decode s) ∙ decoded_nonempty s ∙ first in
    rw some (encoded_segments (map percent_decode (s ∷ t ∷ parts)))

decoded_bytes : (parts : List (List ℕ)) → All (All IsByte) parts → All (All IsByte) (map percent_decode parts)
decoded_bytes parts h = All-map (All IsByte) percent_decode parts (All-weaker (All IsByte) (λ s. All IsByte (percent_decode s)) All-percent_decode parts h)

path_again : (parts : List (List ℕ)) (q : PathPart) → All (All IsByte) parts → path_from parts ≡ Some q → path_from (map (percent_encode ESCAPED) (map percent_decode parts)) ≡ Some q
unfolding path_from
path_again parts q bytes e =
    elim (chosen (are_segments parts) (Some (if last_empty parts then PathPart.Prefix (without_last (map percent_decode parts)) else PathPart.Exact (map percent_decode parts))) None q e) [
      | inl one ↦
          let good = segments_again parts one.0 in
          let last = last_by (percent_encode ESCAPED) encoded_nonempty (map percent_decode parts) ∙ last_by percent_decode decoded_nonempty parts in
          rw (good, last, decoded_again (map percent_decode parts) (decoded_bytes parts bytes)) one.1
      | inr two ↦ cc
    ]

-- a path's last piece, where it is empty
last_of : (piece : List ℕ) (pieces : List (List ℕ)) → last_empty (piece ∷ pieces) ≡ true → (front : List (List ℕ)) × (piece ∷ pieces ≡ front ++ [] ∷ [])
unfolding last_empty
last_of [] [] h = ([], refl)
last_of (c ∷ piece) [] h = absurd (false≢true (sym (ap not (nonempty c piece)) ∙ h))
last_of piece (next ∷ pieces) h = let (front, e) = last_of next pieces h in (piece ∷ front, ap (λ x. piece ∷ x) e)

pieces_end : (front : List (List ℕ)) → path_text (front ++ [] ∷ []) ≡ path_text front ++ codes "/"
pieces_end front =
    flat_map-append (λ piece. 47 ∷ percent_encode ESCAPED piece) front ([] ∷ [])
    ∙ ap (λ x. path_text front ++ ((47 ∷ x) ++ [])) (percent_encode-nil ESCAPED)

spelt_by : (b : Bool) (piece : List ℕ) (pieces : List (List ℕ)) → last_empty (piece ∷ pieces) ≡ b
    → path_spelling (cond b (PathPart.Prefix (without_last (piece ∷ pieces))) (PathPart.Exact (piece ∷ pieces))) ≡ path_text (piece ∷ pieces)
spelt_by true piece pieces h =
    let (front, e) = last_of piece pieces h in
    ap (λ x. path_text (without_last x) ++ codes "/") e ∙ ap (λ x. path_text x ++ codes "/") (without_last-push front [])
    ∙ sym (pieces_end front) ∙ sym (ap path_text e)
spelt_by false piece pieces h = refl

-- the spelling of the path that the parts are
spelling_is : (s : List ℕ) (parts : List (List ℕ)) (q : PathPart) → path_from (s ∷ parts) ≡ Some q → path_spelling q ≡ path_text (map percent_decode (s ∷ parts))
unfolding path_from
spelling_is s parts q e =
    elim (chosen (are_segments (s ∷ parts)) (Some (if last_empty (s ∷ parts) then PathPart.Prefix (without_last (map percent_decode (s ∷ parts))) else PathPart.Exact (map percent_decode (s ∷ parts)))) None q e) [
      | inl one ↦
          let is : (if last_empty (s ∷ parts) then PathPart.Prefix (without_last (map percent_decode (s ∷ parts))) else PathPart.Exact (map percent_decode (s ∷ parts))) ≡ q = cc in
          sym (ap path_spelling is) ∙ spelt_by (last_empty (s ∷ parts)) (percent_decode s) (map percent_decode parts) (last_by percent_decode decoded_nonempty (s ∷ parts))
      | inr two ↦ cc
    ]

spelt_parts : (s : List ℕ) (parts : List (List ℕ)) (q : PathPart) → All (All IsByte) (s ∷ parts) → path_from (s ∷ parts) ≡ Some q → path_part_of (path_spelling q) ≡ Some q
spelt_parts s parts q bytes e =
    ap path_part_of (spelling_is s parts q e) ∙ path_is (percent_encode ESCAPED (percent_decode s) ++ path_text (map percent_decode parts))
    ∙ ap path_from (split_at-path_text (percent_decode s) (map percent_decode parts)) ∙ path_again (s ∷ parts) q bytes e

onto_bytes : (c : ℕ) (parts : List (List ℕ)) → IsByte c → All (All IsByte) parts → All (All IsByte) (onto_first c parts)
onto_bytes c [] h k = All-cons (All IsByte) (c ∷ []) [] (All-cons IsByte c [] h (All-nil IsByte)) k
onto_bytes c (part ∷ parts) h k =
    All-cons (All IsByte) (c ∷ part) parts (All-cons IsByte c part h (All-head (All IsByte) part parts k)) (All-tail (All IsByte) part parts k)

bytes_by : (b : Bool) (c : ℕ) (parts : List (List ℕ)) → IsByte c → All (All IsByte) parts → All (All IsByte) (cond b ([] ∷ parts) (onto_first c parts))
bytes_by true c parts h k = All-cons (All IsByte) [] parts (All-nil IsByte) k
bytes_by false c parts h k = onto_bytes c parts h k

split_bytes : (text : List ℕ) → is_ascii_text text ≡ true → All (All IsByte) (split_at 47 text)
split_bytes [] h = All-cons (All IsByte) [] [] (All-nil IsByte) (All-nil (All IsByte))
split_bytes (c ∷ text) h = let small : c < 256 = grind (arith, h) in bytes_by (c == 47) c (split_at 47 text) small (split_bytes text (grind (arith, h)))

behind_slash : (text : List ℕ) (q : PathPart) → is_ascii_text text ≡ true → path_part_of (47 ∷ text) ≡ Some q → path_part_of (path_spelling q) ≡ Some q
behind_slash text q ascii e =
    let (s, parts, is) = first_part (λ b. b == 47) text in
    spelt_parts s parts q (subst (All (All IsByte)) is (split_bytes text ascii)) (sym (ap path_from is) ∙ sym (path_is text) ∙ e)

absent_spelt : path_part_of [] ≡ Some PathPart.Absent
unfolding path_part_of
absent_spelt = refl

absent_is : (q : PathPart) → path_part_of [] ≡ Some q → PathPart.Absent ≡ q
unfolding path_part_of
absent_is q e = cc

pub path_spelt : (text : List ℕ) (q : PathPart) → is_ascii_text text ≡ true → path_part_of text ≡ Some q → path_part_of (path_spelling q) ≡ Some q
path_spelt [] q ascii e = let Spelt : PathPart → Type 0 = λ part. path_part_of (path_spelling part) ≡ Some part in subst Spelt (absent_is q e) absent_spelt
path_spelt (c ∷ text) q ascii e =
    let slash = path_slash c text q e in
    let rest : is_ascii_text text ≡ true = grind (arith, ascii) in
    behind_slash text q rest (sym (ap (λ x. path_part_of (x ∷ text)) slash) ∙ e)
