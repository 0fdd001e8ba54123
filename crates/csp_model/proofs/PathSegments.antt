-- The parts of a path's text between slashes: how many there are, and whether one is "." or "..".
use Rattle.std.proofs.Common.{arith, ◌≡◌, ◌<◌, ◌∙◌, sym, ap, refl, subst, ℕ, ◌==◌, Bool, true, false, not, ◌&&◌, ◌||◌, List, [], ◌∷◌, ◌++◌, length, map, All, inl, inr}
use Rattle.std.specs.Prelude.{◌⊎◌, codes}
use Rattle.std.specs.Bool.{Decides}
use Rattle.std.specs.List.{count_by, filter, list_any, list_all}
use Rattle.std.specs.Str.{bytes_eq}
use Rattle.std.proofs.lemmas.Bool.{lt-ltb}
use Rattle.std.proofs.lemmas.Bool.Decides.{Decides-or, Decides-like, same_from_decides}
use Rattle.std.proofs.lemmas.List.Elements.{All-nil, All-cons, All-head, All-tail, All-weaker, filter-append}
use Rattle.std.proofs.lemmas.List.Folds.{list_any-append}
use Rattle.std.proofs.lemmas.List.Sums.{length-filter}
use Rattle.std.proofs.lemmas.Slice.Eq.{bytes_eq-Decides}
use Rattle.percent_encoding.specs.AsciiSet.{should_percent_encode}
use Rattle.percent_encoding.specs.Percent.{percent_encode, percent_decode}
use Rattle.percent_encoding.proofs.PercentLemmas.{IsByte, All-percent_decode}
use Rattle.csp_model.specs.Ascii.{split_at}
use Rattle.csp_model.specs.Paths.{path_text, front_text, is_dot_segment, has_dot_segment}
use Rattle.csp_model.specs.Validity.{are_bytes, is_piece}
use Rattle.csp_model.specs.declared.path.TheConstants.{ESCAPED}
use Rattle.csp_model.proofs.PathFronts.{IsRead, read_text, split_slash}
use Rattle.csp_model.proofs.PathPush.{encoded_ascii}
use Rattle.csp_model.proofs.PathText.{split_at-path_text, no_slash_in}

-- ---- how many pieces there are

abbrev is_slash : ℕ → Bool
is_slash b = b == 47

no_slash_kept : (text : List ℕ) → All (λ b. (b == 47) ≡ false) text → filter is_slash text ≡ []
no_slash_kept [] none = refl
no_slash_kept (b ∷ text) none =
    rw (All-head (λ b. (b == 47) ≡ false) b text none) (no_slash_kept text (All-tail (λ b. (b == 47) ≡ false) b text none))

slashes_kept : (pieces : List (List ℕ)) → length (filter is_slash (path_text pieces)) ≡ length pieces
slashes_kept [] = refl
slashes_kept (piece ∷ pieces) =
    let encoded = percent_encode ESCAPED piece in
    let behind : filter is_slash (encoded ++ path_text pieces) ≡ filter is_slash (path_text pieces) =
    filter-append is_slash encoded (path_text pieces) ∙ ap (λ front. front ++ filter is_slash (path_text pieces)) (no_slash_kept encoded (no_slash_in piece)) in
    omega (arith, ap length behind, slashes_kept pieces)

pub slashes : (pieces : List (List ℕ)) → count_by (λ b. b == 47) (path_text pieces) ≡ length pieces
slashes pieces = sym (length-filter is_slash (path_text pieces)) ∙ slashes_kept pieces

-- ---- the parts of the text

parts_of : (pieces : List (List ℕ)) → split_at 47 (path_text pieces) ≡ [] ∷ map (percent_encode ESCAPED) pieces
parts_of [] = refl
parts_of (piece ∷ pieces) = ap (λ parts. [] ∷ parts) (split_at-path_text piece pieces)

front_parts : (pieces : List (List ℕ)) → split_at 47 (front_text pieces) ≡ ([] ∷ map (percent_encode ESCAPED) pieces) ++ [] ∷ []
front_parts pieces = split_slash (path_text pieces) [] ∙ ap (λ parts. parts ++ [] ∷ []) (parts_of pieces)

-- ---- pieces that are decoded as they were

abbrev IsKept : List ℕ → Type 0
IsKept piece = percent_decode (percent_encode ESCAPED piece) ≡ piece

pub all_decoded : (pieces : List (List ℕ)) → IsRead pieces → map percent_decode (map (percent_encode ESCAPED) pieces) ≡ pieces
all_decoded [] read = refl
all_decoded (piece ∷ pieces) read = sym (ap (map percent_decode) (split_at-path_text piece pieces)) ∙ read_text (piece ∷ pieces) read

each_kept : (pieces : List (List ℕ)) → map percent_decode (map (percent_encode ESCAPED) pieces) ≡ pieces → All IsKept pieces
each_kept [] same = All-nil IsKept
each_kept (piece ∷ pieces) same =
    let rest : map percent_decode (map (percent_encode ESCAPED) pieces) ≡ pieces = cc in
    All-cons IsKept piece pieces (cc) (each_kept pieces rest)

-- ---- "." and ".."

dot_encoded : percent_encode ESCAPED (codes ".") ≡ codes "."
unfolding percent_encode should_percent_encode
dot_encoded = refl

dots_encoded : percent_encode ESCAPED (codes "..") ≡ codes ".."
unfolding percent_encode should_percent_encode
dots_encoded = refl

dot_decoded : percent_decode (codes ".") ≡ codes "."
unfolding percent_decode
dot_decoded = refl

dots_decoded : percent_decode (codes "..") ≡ codes ".."
unfolding percent_decode
dots_decoded = refl

abbrev IsDots : List ℕ → Type 0
IsDots piece = (piece ≡ codes ".") ⊎ (piece ≡ codes "..")

dots_Decides : (piece : List ℕ) → Decides (is_dot_segment piece) (IsDots piece)
dots_Decides piece = Decides-or (bytes_eq piece (codes ".")) (bytes_eq piece (codes "..")) (bytes_eq-Decides piece (codes ".")) (bytes_eq-Decides piece (codes ".."))

dots_from_encoded : (piece : List ℕ) → IsKept piece → IsDots (percent_encode ESCAPED piece) → IsDots piece
dots_from_encoded piece kept (inl dot) = inl (sym kept ∙ ap percent_decode dot ∙ dot_decoded)
dots_from_encoded piece kept (inr dots) = inr (sym kept ∙ ap percent_decode dots ∙ dots_decoded)

dots_to_encoded : (piece : List ℕ) → IsDots piece → IsDots (percent_encode ESCAPED piece)
dots_to_encoded piece (inl dot) = inl (ap (percent_encode ESCAPED) dot ∙ dot_encoded)
dots_to_encoded piece (inr dots) = inr (ap (percent_encode ESCAPED) dots ∙ dots_encoded)

same_dots : (piece : List ℕ) → IsKept piece → is_dot_segment (percent_encode ESCAPED piece) ≡ is_dot_segment piece
same_dots piece kept = same_from_decides (is_dot_segment (percent_encode ESCAPED piece)) (is_dot_segment piece)
    (Decides-like (is_dot_segment (percent_encode ESCAPED piece)) (dots_from_encoded piece kept) (dots_to_encoded piece) (dots_Decides (percent_encode ESCAPED piece)))
    (dots_Decides piece)

any_dots : (pieces : List (List ℕ)) → All IsKept pieces → list_any is_dot_segment (map (percent_encode ESCAPED) pieces) ≡ has_dot_segment pieces
any_dots [] kept = refl
any_dots (piece ∷ pieces) kept =
    rw (same_dots piece (All-head IsKept piece pieces kept), any_dots pieces (All-tail IsKept piece pieces kept)) refl

-- nothing more is found in the text, which begins and ends with a slash
pub dots_in_text : (pieces : List (List ℕ)) → IsRead pieces → list_any is_dot_segment (split_at 47 (front_text pieces)) ≡ has_dot_segment pieces
dots_in_text pieces read =
    let found = list_any is_dot_segment (map (percent_encode ESCAPED) pieces) in
    ap (list_any is_dot_segment) (front_parts pieces)
    ∙ list_any-append is_dot_segment ([] ∷ map (percent_encode ESCAPED) pieces) ([] ∷ [])
    ∙ elim found as (λ b. (b || false) ≡ b) [ true ↦ refl | false ↦ refl ]
    ∙ any_dots pieces (each_kept pieces (all_decoded pieces read))

-- ---- valid pieces

ascii_bytes : (b : ℕ) → b < 128 → IsByte b
ascii_bytes b h = omega arith

bytes_of : (piece : List ℕ) → IsKept piece → All IsByte piece
bytes_of piece kept =
    let P : List ℕ → Type 0 = All IsByte in
    subst P kept (All-percent_decode (percent_encode ESCAPED piece) (All-weaker (λ b. b < 128) IsByte ascii_bytes (percent_encode ESCAPED piece) (encoded_ascii piece)))

all_bytes : (piece : List ℕ) → All IsByte piece → are_bytes piece ≡ true
all_bytes [] bytes = refl
all_bytes (b ∷ piece) bytes =
    rw (lt-ltb b 256 (All-head IsByte b piece bytes)) (all_bytes piece (All-tail IsByte b piece bytes))

turned : (a b d : Bool) → a ≡ true → (a && not b && not d) ≡ not (b || d)
turned a true d e = rw e refl
turned a false d e = rw e refl

piece_turned : (piece : List ℕ) → IsKept piece → is_piece piece ≡ not (is_dot_segment piece)
unfolding is_piece
piece_turned piece kept = turned (are_bytes piece) (bytes_eq piece (codes ".")) (bytes_eq piece (codes "..")) (all_bytes piece (bytes_of piece kept))

both_turned : (a b : Bool) → (not a && not b) ≡ not (a || b)
both_turned true b = refl
both_turned false b = refl

each_turned : (pieces : List (List ℕ)) → All IsKept pieces → list_all is_piece pieces ≡ not (has_dot_segment pieces)
each_turned [] kept = refl
each_turned (piece ∷ pieces) kept =
    rw (piece_turned piece (All-head IsKept piece pieces kept), each_turned pieces (All-tail IsKept piece pieces kept))
    (both_turned (is_dot_segment piece) (has_dot_segment pieces))

pub pieces_turned : (pieces : List (List ℕ)) → IsRead pieces → list_all is_piece pieces ≡ not (has_dot_segment pieces)
pieces_turned pieces read = each_turned pieces (each_kept pieces (all_decoded pieces read))
