-- What becomes of one more piece.
use Rattle.std.proofs.Common.{◌≡◌, ◌∙◌, sym, ap, refl, ℕ, Bool, true, false, ◌||◌, not, cond, List, [], ◌∷◌, ◌++◌, append-nil, append_assoc, Option, Some, None, map, Bor}
use Rattle.std.specs.List.{filter_map, cons_option}
use Rattle.std.specs.BTreeMap.{is_at}
use Rattle.std.specs.BTreeSet as set
use Rattle.std.specs.BTreeSet.{BTreeSet}
use Rattle.std.proofs.lemmas.List.{map_push}
use Rattle.std.proofs.lemmas.List.Elements.{filter_map-append}
use Rattle.csp_model.specs.Ascii.{is_ascii_text, words}
use Rattle.csp_model.specs.Policies.{directive_of, directive_of_words, firsts, is_for_meta}
use Rattle.csp_policy.specs.Types.{Directive, CaselessName, Fate}
use Rattle.csp_policy.specs.Fates.{fate_of, fate_with, fates_behind, has_name}
use Rattle.csp_policy.specs.Names.{folded, name_cmp, KnowsNames}
use Rattle.csp_policy.specs.Room.{kept_of}
use Rattle.csp_policy.specs.declared.fate.Fate.TheVariants.{Empty, Dropped, Kept}
use Rattle.csp_policy.specs.declared.fate.Reason.TheVariants.{Duplicate, NotAscii, NotInMeta}
use Rattle.csp_policy.proofs.Firsts.{found, firsts_push}
use Rattle.csp_policy.proofs.Seen.{first_is, kept_more, knows_more, lost_more}

-- the directives of these pieces
abbrev pub of_pieces : List (List ℕ) → List Directive
of_pieces pieces = filter_map directive_of pieces

pub of_pieces_more : (before : List (List ℕ)) (piece : List ℕ)
    → of_pieces (before ++ piece ∷ []) ≡ of_pieces before ++ cons_option (directive_of piece) []
of_pieces_more before piece = filter_map-append directive_of before (piece ∷ [])

-- the directive of a piece of which it is kept
abbrev pub kept_in : Fate → List Directive
kept_in Empty = []
kept_in (Dropped reason) = []
kept_in (Kept d) = d ∷ []

-- where one of this name stands before, or it is kept
abbrev pub chosen : Bool → Bool → Directive → Fate
chosen later stays d = cond later (Dropped Duplicate) (cond stays (Kept d) (Dropped NotInMeta))

one_more : (meta : Bool) (xs : List Directive) (d : Directive) (later stays : Bool) → has_name d.name (firsts xs) ≡ later
    → (not meta || is_for_meta d) ≡ stays → kept_of meta (firsts (xs ++ d ∷ [])) ≡ kept_of meta (firsts xs) ++ kept_in (chosen later stays d)
one_more meta xs d true stays h k =
    ap (kept_of meta) (firsts_push xs d false (sym (ap not h)) ∙ append-nil (firsts xs)) ∙ sym (append-nil (kept_of meta (firsts xs)))
one_more meta xs d false true h k = ap (kept_of meta) (firsts_push xs d true (sym (ap not h))) ∙ kept_more meta (firsts xs) d true k
one_more meta xs d false false h k =
    ap (kept_of meta) (firsts_push xs d true (sym (ap not h))) ∙ lost_more meta (firsts xs) d true k ∙ sym (append-nil (kept_of meta (firsts xs)))

with_one : (meta : Bool) (xs : List Directive) (o : Option Directive)
    → kept_of meta (firsts (xs ++ cons_option o [])) ≡ kept_of meta (firsts xs) ++ kept_in (fate_with meta (firsts xs) o)
with_one meta xs None = ap (λ l. kept_of meta (firsts l)) (append-nil xs) ∙ sym (append-nil (kept_of meta (firsts xs)))
with_one meta xs (Some d) = one_more meta xs d (has_name d.name (firsts xs)) (not meta || is_for_meta d) refl refl

by_ascii : (meta : Bool) (xs : List Directive) (o : Option Directive) (ascii : Bool)
    → kept_of meta (firsts (xs ++ cons_option (cond ascii o None) []))
    ≡ kept_of meta (firsts xs) ++ kept_in (cond ascii (fate_with meta (firsts xs) o) (Dropped NotAscii))
by_ascii meta xs o true = with_one meta xs o
by_ascii meta xs o false = with_one meta xs None

-- the directives that stay, with one more piece
pub kept_step : (meta : Bool) (before : List (List ℕ)) (piece : List ℕ)
    → kept_of meta (firsts (of_pieces (before ++ piece ∷ []))) ≡ kept_of meta (firsts (of_pieces before)) ++ kept_in (fate_of meta before piece)
unfolding directive_of
kept_step meta before piece =
    ap (λ l. kept_of meta (firsts l)) (of_pieces_more before piece)
    ∙ by_ascii meta (of_pieces before) (directive_of_words (words piece)) (is_ascii_text piece)

-- a piece that has a directive is ASCII
ascii_if : (ascii : Bool) (o : Option Directive) (d : Directive) → cond ascii o None ≡ Some d → ascii ≡ true
ascii_if true o d h = refl
ascii_if false o d h = cc

pub is_ascii_with : (piece : List ℕ) (d : Directive) → directive_of piece ≡ Some d → is_ascii_text piece ≡ true
unfolding directive_of
is_ascii_with piece d h = ascii_if (is_ascii_text piece) (directive_of_words (words piece)) d h

words_if : (ascii : Bool) (o : Option Directive) (d : Directive) → cond ascii o None ≡ Some d → o ≡ Some d
words_if true o d h = h
words_if false o d h = cc

-- what becomes of a piece that has this directive
pub fate_found : (meta : Bool) (before : List (List ℕ)) (piece : List ℕ) (d : Directive) (later stays : Bool) → directive_of piece ≡ Some d
    → has_name d.name (firsts (of_pieces before)) ≡ later → (not meta || is_for_meta d) ≡ stays → fate_of meta before piece ≡ chosen later stays d
unfolding directive_of
fate_found meta before piece d later stays h l k =
    ap (λ b. cond b (fate_with meta (firsts (of_pieces before)) (directive_of_words (words piece))) (Dropped NotAscii)) (is_ascii_with piece d h)
    ∙ ap (fate_with meta (firsts (of_pieces before))) (words_if (is_ascii_text piece) (directive_of_words (words piece)) d h)
    ∙ ap (λ b. chosen b (not meta || is_for_meta d) d) l ∙ ap (λ b. chosen later b d) k

none_if : (ascii : Bool) (o : Option Directive) (meta : Bool) (ds : List Directive) → cond ascii o None ≡ None
    → cond ascii Empty (Dropped NotAscii) ≡ cond ascii (fate_with meta ds o) (Dropped NotAscii)
none_if true o meta ds h = sym (ap (fate_with meta ds) h)
none_if false o meta ds h = refl

-- and of one that has none
pub fate_none : (meta : Bool) (before : List (List ℕ)) (piece : List ℕ) → directive_of piece ≡ None
    → cond (is_ascii_text piece) Empty (Dropped NotAscii) ≡ fate_of meta before piece
unfolding directive_of
fate_none meta before piece h = none_if (is_ascii_text piece) (directive_of_words (words piece)) meta (firsts (of_pieces before)) h

-- pieces with one more
pub behind_more : (meta : Bool) (before xs : List (List ℕ)) (x : List ℕ)
    → fates_behind meta before (xs ++ x ∷ []) ≡ fates_behind meta before xs ++ (x, fate_of meta (before ++ xs) x) ∷ []
behind_more meta before [] x = ap (λ (b : List (List ℕ)). (x, fate_of meta b x) ∷ []) (sym (append-nil before))
behind_more meta before (y ∷ xs) x =
    ap (λ (l : List (List ℕ × Fate)). (y, fate_of meta before y) ∷ l)
    (behind_more meta (before ++ y ∷ []) xs x
    ∙ ap (λ (b : List (List ℕ)). fates_behind meta (before ++ y ∷ []) xs ++ (x, fate_of meta b x) ∷ []) (append_assoc before (y ∷ []) xs))

-- The names that were seen

pub knows_none : (seen : BTreeSet CaselessName) (before : List (List ℕ)) (piece : List ℕ) → directive_of piece ≡ None
    → KnowsNames seen before → KnowsNames seen (before ++ piece ∷ [])
knows_none seen before piece none knows q =
    knows q ∙ ap (λ (ds : List Directive). has_name (folded q) (firsts ds))
    (sym (of_pieces_more before piece ∙ ap (λ o. of_pieces before ++ cons_option o []) none ∙ append-nil (of_pieces before)))

pub knows_some : (seen now : BTreeSet CaselessName) (key : CaselessName) (before : List (List ℕ)) (piece : List ℕ) (d : Directive) (is_first : Bool)
    → directive_of piece ≡ Some d → d.name ≡ folded key
    → ((q : CaselessName) → set.contains name_cmp now q ≡ cond (is_at (name_cmp key) q) true (set.contains name_cmp seen q))
    → is_first ≡ not (set.contains name_cmp seen key) → KnowsNames seen before → KnowsNames now (before ++ piece ∷ [])
knows_some seen now key before piece d is_first found name updates added knows q =
    knows_more seen now key (firsts (of_pieces before)) d is_first name updates added knows q
    ∙ ap (has_name (folded q)) (sym (ap firsts (of_pieces_more before piece ∙ ap (λ o. of_pieces before ++ cons_option o []) found)
    ∙ firsts_push (of_pieces before) d is_first (first_is seen key (firsts (of_pieces before)) d is_first name added knows)))

turned : (a b : Bool) → a ≡ not b → b ≡ not a
turned true true h = cc
turned true false h = refl
turned false true h = refl
turned false false h = cc

-- what becomes of a piece whose name was or wasn't seen
pub fate_seen : (seen : BTreeSet CaselessName) (key : CaselessName) (meta : Bool) (before : List (List ℕ)) (piece : List ℕ) (d : Directive) (is_first stays : Bool)
    → directive_of piece ≡ Some d → d.name ≡ folded key → is_first ≡ not (set.contains name_cmp seen key) → (not meta || is_for_meta d) ≡ stays
    → KnowsNames seen before → fate_of meta before piece ≡ chosen (not is_first) stays d
fate_seen seen key meta before piece d is_first stays found name added kept knows =
    fate_found meta before piece d (not is_first) stays found
    (turned is_first (has_name d.name (firsts (of_pieces before))) (first_is seen key (firsts (of_pieces before)) d is_first name added knows)) kept

-- Pieces so far

-- the names with those of one more piece
pub knows_more_of : (now : BTreeSet CaselessName) (pieces : List (Bor (List ℕ))) (piece : Bor (List ℕ))
    → KnowsNames now (map (λ (x : Bor (List ℕ)). x.now) pieces ++ piece.now ∷ []) → KnowsNames now (map (λ (x : Bor (List ℕ)). x.now) (pieces ++ piece ∷ []))
knows_more_of now pieces piece knows q =
    knows q ∙ ap (λ (l : List (List ℕ)). has_name (folded q) (firsts (of_pieces l))) (sym (map_push (λ (x : Bor (List ℕ)). x.now) pieces piece))

-- the directives that stay, with those of one more piece
pub kept_more_of : (meta : Bool) (pieces : List (Bor (List ℕ))) (piece : Bor (List ℕ)) (fate : Fate)
    → fate ≡ fate_of meta (map (λ (x : Bor (List ℕ)). x.now) pieces) piece.now
    → kept_of meta (firsts (found (pieces ++ piece ∷ []))) ≡ kept_of meta (firsts (found pieces)) ++ kept_in fate
kept_more_of meta pieces piece fate is =
    ap (λ (l : List (List ℕ)). kept_of meta (firsts (of_pieces l))) (map_push (λ (x : Bor (List ℕ)). x.now) pieces piece)
    ∙ kept_step meta (map (λ (x : Bor (List ℕ)). x.now) pieces) piece.now
    ∙ ap (λ (f : Fate). kept_of meta (firsts (found pieces)) ++ kept_in f) (sym is)
