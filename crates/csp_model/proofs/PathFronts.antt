-- The text of a path that ends in "/": its pieces, one more of them, and that a path begins with another's pieces
-- where their texts do so.
use Rattle.std.proofs.Common.{arith, ◌≡◌, ◌≢◌, ◌<◌, ◌+◌, ◌∙◌, sym, ap, refl, subst, ℕ, ◌==◌, Bool, true, false, cond, List, [], ◌∷◌, ◌++◌, length, map, take, drop, All, append-nil, append_assoc, length-append, ◌≤◌, inl, inr, nat_eq}
use Rattle.std.specs.Prelude.{Result, Ok, Err, OnOk, OnErr}
use Rattle.std.specs.Bool.{Decides}
use Rattle.std.specs.Cmp.Lexicographic.{pointwise}
use Rattle.std.specs.List.{onto_first, list_all}
use Rattle.std.specs.Str.{bytes_eq}
use Rattle.std.proofs.lemmas.Bool.Decides.{Decides-eqb, Decides-like, same_from_decides}
use Rattle.std.proofs.lemmas.List.{length-map, map-append}
use Rattle.std.proofs.lemmas.List.Concat.{flat_map-append}
use Rattle.std.proofs.lemmas.List.Elements.{All-cons, All-nil}
use Rattle.std.proofs.lemmas.List.Splits.{length-slice_split}
use Rattle.std.proofs.lemmas.Slice.Eq.{starts_is, slice_eq-Decides, bytes_eq-Decides}
use Rattle.percent_encoding.specs.Percent.{percent_encode, percent_decode}
use Rattle.percent_encoding.proofs.PercentLemmas.{IsByte, percent_decode-nil}
use Rattle.csp_model.specs.Ascii.{split_at, without_last}
use Rattle.csp_model.specs.Paths.{path_text, pieces_of, text_pieces, front_text, front_pieces}
use Rattle.csp_model.specs.Validity.{is_piece}
use Rattle.csp_model.specs.Types.{Memory}
use Rattle.csp_model.specs.declared.path.TheConstants.{ESCAPED}
use Rattle.csp_model.proofs.FinalBytes.{without_last-push, last_view}
use Rattle.csp_model.proofs.PathText.{split_at-path_text, decoded_again}
use Rattle.csp_model.proofs.PieceBytes.{pieces_bytes}

-- ---- the parts of a text, and of one more behind a slash

parts_view : {A : Type 0} (xs : List A) → 0 < length xs → (q : A) × (qs : List A) × (xs ≡ q ∷ qs)
parts_view [] some = absurd (omega arith)
parts_view (q ∷ qs) some = (q, qs, refl)

split_view : (text : List ℕ) → (q : List ℕ) × (qs : List (List ℕ)) × (split_at 47 text ≡ q ∷ qs)
split_view text = parts_view (split_at 47 text) (omega (arith, length-slice_split (λ b. b == 47) text))

onto_front : (x : ℕ) (parts more : List (List ℕ)) (q : List ℕ) (qs : List (List ℕ)) → parts ≡ q ∷ qs → onto_first x (parts ++ more) ≡ onto_first x parts ++ more
onto_front x parts more q qs e = rw e refl

pub split_slash : (text rest : List ℕ) → split_at 47 (text ++ 47 ∷ rest) ≡ split_at 47 text ++ split_at 47 rest
split_slash [] rest = refl
split_slash (x ∷ text) rest =
    let (q, qs, e) = split_view text in
    let behind = split_slash text rest in
    elim (x == 47) as (λ b. cond b ([] ∷ split_at 47 (text ++ 47 ∷ rest)) (onto_first x (split_at 47 (text ++ 47 ∷ rest)))
    ≡ cond b ([] ∷ split_at 47 text) (onto_first x (split_at 47 text)) ++ split_at 47 rest) [
      | true ↦ ap (λ parts. [] ∷ parts) behind
      | false ↦ ap (onto_first x) behind ∙ onto_front x (split_at 47 text) (split_at 47 rest) q qs e
    ]

-- the pieces of a text and of one more behind a slash
pub pieces_behind : (text rest : List ℕ) → text_pieces (text ++ 47 ∷ rest) ≡ text_pieces text ++ pieces_of rest
pieces_behind [] rest = refl
pieces_behind (slash ∷ text) rest = ap (map percent_decode) (split_slash text rest) ∙ map-append percent_decode (split_at 47 text) (split_at 47 rest)

-- ---- pieces that their text gives back, as those of every path

abbrev pub IsRead : List (List ℕ) → Type 0
IsRead pieces = front_pieces (front_text pieces) ≡ pieces

front_is : (text : List ℕ) → front_pieces (text ++ 47 ∷ []) ≡ text_pieces text
front_is text = ap text_pieces (without_last-push text 47)

pub read_text : (pieces : List (List ℕ)) → IsRead pieces → text_pieces (path_text pieces) ≡ pieces
read_text pieces is = sym (front_is (path_text pieces)) ∙ is

-- the pieces of a text that is theirs
pub is_read : (text : List ℕ) → text ≡ front_text (front_pieces text) → IsRead (front_pieces text)
is_read text is = ap front_pieces (sym is)

-- that is, pieces that are decoded as they were
pub read_from : (pieces : List (List ℕ)) → map percent_decode (map (percent_encode ESCAPED) pieces) ≡ pieces → IsRead pieces
read_from [] same = refl
read_from (piece ∷ pieces) same =
    front_is (path_text (piece ∷ pieces)) ∙ ap (map percent_decode) (split_at-path_text piece pieces) ∙ same

-- as those of a valid path
pub valid_read : (pieces : List (List ℕ)) → list_all is_piece pieces ≡ true → IsRead pieces
valid_read pieces valid = read_from pieces (decoded_again pieces (pieces_bytes pieces valid))

-- ---- one more piece

one_piece : (piece : List ℕ) → All IsByte piece → pieces_of (percent_encode ESCAPED piece) ≡ piece ∷ []
one_piece piece bytes =
    ap (λ text. map percent_decode (split_at 47 text)) (sym (append-nil (percent_encode ESCAPED piece)))
    ∙ ap (map percent_decode) (split_at-path_text piece [])
    ∙ decoded_again (piece ∷ []) (All-cons (All IsByte) piece [] bytes (All-nil (All IsByte)))

-- the text with a piece and a slash behind it
grown : (text piece : List ℕ) → (text ++ 47 ∷ []) ++ (percent_encode ESCAPED piece ++ 47 ∷ []) ≡ (text ++ 47 ∷ percent_encode ESCAPED piece) ++ 47 ∷ []
grown text piece =
    append_assoc text (47 ∷ []) (percent_encode ESCAPED piece ++ 47 ∷ [])
    ∙ sym (append_assoc text (47 ∷ percent_encode ESCAPED piece) (47 ∷ []))

-- has one piece more
pub pushed_pieces : (pieces : List (List ℕ)) (piece text : List ℕ) → IsRead pieces → All IsByte piece
    → text ≡ front_text pieces ++ (percent_encode ESCAPED piece ++ 47 ∷ []) → front_pieces text ≡ pieces ++ piece ∷ []
pushed_pieces pieces piece text read bytes is =
    let before = path_text pieces in
    ap front_pieces (is ∙ grown before piece) ∙ front_is (before ++ 47 ∷ percent_encode ESCAPED piece)
    ∙ pieces_behind before (percent_encode ESCAPED piece)
    ∙ ap (λ front. front ++ pieces_of (percent_encode ESCAPED piece)) (read_text pieces read)
    ∙ ap (λ last. pieces ++ last) (one_piece piece bytes)

-- and is the text of these
pub pushed_text : (pieces : List (List ℕ)) (piece text : List ℕ)
    → text ≡ front_text pieces ++ (percent_encode ESCAPED piece ++ 47 ∷ []) → text ≡ front_text (pieces ++ piece ∷ [])
pushed_text pieces piece text is =
    let encoded = percent_encode ESCAPED piece in
    is ∙ grown (path_text pieces) piece
    ∙ ap (λ t. t ++ 47 ∷ []) (ap (λ t. path_text pieces ++ 47 ∷ t) (sym (append-nil encoded))
    ∙ sym (flat_map-append (λ p. 47 ∷ percent_encode ESCAPED p) pieces (piece ∷ [])))

pub pushed_is : (pieces : List (List ℕ)) (piece text : List ℕ) → IsRead pieces → All IsByte piece
    → text ≡ front_text pieces ++ (percent_encode ESCAPED piece ++ 47 ∷ []) → text ≡ front_text (front_pieces text)
pushed_is pieces piece text read bytes is =
    pushed_text pieces piece text is ∙ ap front_text (sym (pushed_pieces pieces piece text read bytes is))

-- a text is that of its pieces
abbrev pub IsText : List ℕ → Type 0
IsText text = text ≡ front_text (front_pieces text)

pub pushed_either : (r : Result (Unit {0}) Memory) (old new piece : List ℕ) → IsText old → All IsByte piece
    → OnOk r (new ≡ old ++ (percent_encode ESCAPED piece ++ 47 ∷ [])) → OnErr r (new ≡ old) → IsText new
pushed_either (Ok u) old new piece is bytes ok err =
    pushed_is (front_pieces old) piece new (is_read old is) bytes (ok ∙ ap (λ t. t ++ (percent_encode ESCAPED piece ++ 47 ∷ [])) is)
pushed_either (Err e) old new piece is bytes ok err = subst IsText (sym err) is

pub pushed_ok : (r : Result (Unit {0}) Memory) (old new piece : List ℕ) → IsText old → All IsByte piece
    → OnOk r (new ≡ old ++ (percent_encode ESCAPED piece ++ 47 ∷ [])) → OnOk r (front_pieces new ≡ front_pieces old ++ piece ∷ [])
pushed_ok (Ok u) old new piece is bytes ok =
    pushed_pieces (front_pieces old) piece new (is_read old is) bytes (ok ∙ ap (λ t. t ++ (percent_encode ESCAPED piece ++ 47 ∷ [])) is)
pushed_ok (Err e) old new piece is bytes ok = tt

-- ---- how paths begin

-- the pieces of a text that ends in "/", the one behind it among them
all_pieces : (pieces : List (List ℕ)) → IsRead pieces → text_pieces (front_text pieces) ≡ pieces ++ [] ∷ []
all_pieces pieces read =
    pieces_behind (path_text pieces) []
    ∙ ap (λ last. text_pieces (path_text pieces) ++ last ∷ []) percent_decode-nil
    ∙ ap (λ front. front ++ [] ∷ []) (read_text pieces read)

some_pieces : (text : List ℕ) → pieces_of text ≢ []
some_pieces text none =
    let count : length (map percent_decode (split_at 47 text)) ≡ 0 = ap length none in
    omega (arith, simp length-map at count, length-slice_split (λ b. b == 47) text)

begun_by : (path front : List (List ℕ)) (behind : List (List ℕ)) → behind ≢ [] → path ++ [] ∷ [] ≡ front ++ behind → (more : List (List ℕ)) × (path ≡ front ++ more)
begun_by path front behind some is = elim (last_view behind) [
  | inl none ↦ absurd (some none)
  | inr (init, last, e) ↦ (
    init,
    sym (without_last-push path [])
        ∙ ap without_last (is ∙ ap (λ ps. front ++ ps) e ∙ sym (append_assoc front init (last ∷ [])))
        ∙ without_last-push (front ++ init) last,
  )
]

pub begun_from_text : (path front : List (List ℕ)) (rest : List ℕ) → IsRead path → IsRead front
    → front_text path ≡ front_text front ++ rest → (more : List (List ℕ)) × (path ≡ front ++ more)
begun_from_text path front rest read also is =
    begun_by path front (pieces_of rest) (some_pieces rest)
    (sym (all_pieces path read) ∙ ap text_pieces (is ∙ append_assoc (path_text front) (47 ∷ []) rest)
    ∙ pieces_behind (path_text front) rest ∙ ap (λ ps. ps ++ pieces_of rest) (read_text front also))

-- the text of more pieces goes on where that of the first ends
abbrev pub further : List (List ℕ) → List ℕ
further [] = []
further (piece ∷ pieces) = percent_encode ESCAPED piece ++ (path_text pieces ++ 47 ∷ [])

pub further_text : (front more : List (List ℕ)) → front_text (front ++ more) ≡ front_text front ++ further more
further_text front [] = ap front_text (append-nil front) ∙ sym (append-nil (front_text front))
further_text front (piece ∷ pieces) =
    let encoded = percent_encode ESCAPED piece in
    ap (λ t. t ++ 47 ∷ []) (flat_map-append (λ p. 47 ∷ percent_encode ESCAPED p) front (piece ∷ pieces))
    ∙ append_assoc (path_text front) (path_text (piece ∷ pieces)) (47 ∷ [])
    ∙ ap (λ t. path_text front ++ 47 ∷ t) (append_assoc encoded (path_text pieces) (47 ∷ []))
    ∙ sym (append_assoc (path_text front) (47 ∷ []) (encoded ++ (path_text pieces ++ 47 ∷ [])))

abbrev pub Begins : List (List ℕ) → List (List ℕ) → Type 0
Begins path front = (more : List (List ℕ)) × (path ≡ front ++ more)

-- a path begins with the pieces of another where its text does
pub begins_by_text : (path front : List (List ℕ)) (r : Bool) → IsRead path → IsRead front
    → r ≡ pointwise nat_eq (front_text front) (take (length (front_text front)) (front_text path)) → Decides r (Begins path front)
begins_by_text path front r read also is =
    let starts = starts_is Decides-eqb (front_text path) (front_text front) r is in (
      λ h. begun_from_text path front (drop (length (front_text front)) (front_text path)) read also (starts.0 h),
      λ (more, e). starts.1 (further more) (ap front_text e ∙ further_text front more),
    )

-- and so it is of the pieces that texts are
pub begins_by_views : (text front : List ℕ) (r : Bool) → text ≡ front_text (front_pieces text) → front ≡ front_text (front_pieces front)
    → r ≡ pointwise nat_eq front (take (length front) text) → Decides r (Begins (front_pieces text) (front_pieces front))
begins_by_views text front r is also e =
    begins_by_text (front_pieces text) (front_pieces front) r (is_read text is) (is_read front also)
    (e ∙ ap (λ f. pointwise nat_eq f (take (length f) text)) also ∙ ap (λ t. pointwise nat_eq (front_text (front_pieces front)) (take (length (front_text (front_pieces front))) t)) is)

-- it has more of them where its text is longer
longer_text : (front more : List (List ℕ)) → more ≢ [] → length (front_text front) < length (front_text (front ++ more))
longer_text front [] some = absurd (some refl)
longer_text front (piece ∷ pieces) some =
    let rest = further (piece ∷ pieces) in
    let size : length rest ≡ length (percent_encode ESCAPED piece) + (length (path_text pieces) + 1) =
    length-append (percent_encode ESCAPED piece) (path_text pieces ++ 47 ∷ []) ∙ ap (λ n. length (percent_encode ESCAPED piece) + n) (length-append (path_text pieces) (47 ∷ [])) in
    omega (arith, ap length (further_text front (piece ∷ pieces)), length-append (front_text front) rest)

some_more : (front more : List (List ℕ)) → length (front_text front) < length (front_text (front ++ more)) → more ≢ []
some_more front more h none =
    let same = ap (λ ps. length (front_text (front ++ ps))) none ∙ ap (λ ps. length (front_text ps)) (append-nil front) in
    absurd (omega arith)

pub beyond_by_text : (path front : List (List ℕ)) → length (front_text front) < length (front_text path) → Begins path front
    → (more : List (List ℕ)) × (more ≢ []) × (path ≡ front ++ more)
beyond_by_text path front h (more, e) = (more, some_more front more (subst (λ ps. length (front_text front) < length (front_text ps)) e h), e)

pub longer_beyond : (path front more : List (List ℕ)) → more ≢ [] → path ≡ front ++ more → length (front_text front) < length (front_text path)
longer_beyond path front more some e = subst (λ ps. length (front_text front) < length (front_text ps)) (sym e) (longer_text front more some)

-- and so it is of the pieces that texts are
abbrev pub Beyond : List (List ℕ) → List (List ℕ) → Type 0
Beyond path front = (more : List (List ℕ)) × (more ≢ []) × (path ≡ front ++ more)

pub beyond_by_views : (text front : List ℕ) (r : Bool) → text ≡ front_text (front_pieces text) → front ≡ front_text (front_pieces front)
    → length front < length text → Decides r (Begins (front_pieces text) (front_pieces front)) → Decides r (Beyond (front_pieces text) (front_pieces front))
beyond_by_views text front r is also h begins =
    let longer : length (front_text (front_pieces front)) < length (front_text (front_pieces text)) = omega (arith, ap length is, ap length also) in
    Decides-like r (λ b. beyond_by_text (front_pieces text) (front_pieces front) longer b) (λ (more, some, e). (more, e)) begins

pub not_beyond_by_views : (text front : List ℕ) → text ≡ front_text (front_pieces text) → front ≡ front_text (front_pieces front)
    → length text ≤ length front → Beyond (front_pieces text) (front_pieces front) → ⊥
not_beyond_by_views text front is also h (more, some, e) =
    let longer : length (front_text (front_pieces front)) < length (front_text (front_pieces text)) = longer_beyond (front_pieces text) (front_pieces front) more some e in
    omega (arith, ap length is, ap length also)

-- ---- equal paths

-- paths are equal where their texts are
pub same_by_text : (one other : List ℕ) (r : Bool) → one ≡ front_text (front_pieces one) → other ≡ front_text (front_pieces other)
    → r ≡ bytes_eq one other → r ≡ pointwise (pointwise ◌==◌) (front_pieces one) (front_pieces other)
same_by_text one other r is also e =
    let texts = bytes_eq-Decides one other in
    let pieces = slice_eq-Decides bytes_eq-Decides (front_pieces one) (front_pieces other) (pointwise (pointwise ◌==◌) (front_pieces one) (front_pieces other)) refl in
    e ∙ same_from_decides (bytes_eq one other) (pointwise (pointwise ◌==◌) (front_pieces one) (front_pieces other))
    (Decides-like (bytes_eq one other) (ap front_pieces) (λ same. is ∙ ap front_text same ∙ sym also) texts) pieces
