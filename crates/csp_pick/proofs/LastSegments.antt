-- Behind the last slash of a path's text stands its last piece as it is written, and a piece that is written otherwise
-- is another one.
use Rattle.std.proofs.Common.{arith, ◌≡◌, ◌≢◌, ◌<◌, ◌+◌, ◌-◌, ◌∙◌, sym, ap, refl, subst, ℕ, zero, suc, ◌==◌, true, false, List, [], ◌∷◌, ◌++◌, length, get_or, drop, append-nil, append_assoc, length-append, drop_at, option_map, Some, None, All, inl, inr}
use Rattle.std.proofs.lemmas.Bool.{false≢true, cases_lt}
use Rattle.std.proofs.lemmas.List.{get_or_at, get_or-append-add, length_push}
use Rattle.std.proofs.lemmas.List.Concat.{flat_map-append}
use Rattle.std.proofs.lemmas.List.Elements.{All-weaker}
use Rattle.memchr.specs.Find.{IsLastByte, is_byte}
use Rattle.percent_encoding.specs.Percent.{percent_encode}
use Rattle.csp_model.specs.Paths.{path_text}
use Rattle.csp_model.specs.declared.path.TheConstants.{ESCAPED}
use Rattle.csp_model.proofs.FinalBytes.{last_view}
use Rattle.csp_model.proofs.PathText.{no_slash_in}
use Rattle.csp_facts.specs.declared.atom.Atom.{Atom}
use Rattle.csp_facts.specs.declared.atom.Atom.TheVariants.{PathIs}
use Rattle.csp_facts.specs.declared.atom.Literal.{Literal}
use Rattle.csp_pick.specs.Said.{last_piece_of, segment_at_end, text_of}
use Rattle.csp_pick.proofs.PathsMet.{last_of}

-- ---- the last slash

slash_there : (before after : List ℕ) → (get_or (before ++ 47 ∷ after) (length before) 0 == 47) ≡ true
slash_there before after = ap (λ b. b == 47) (get_or_at before 47 after 0 (length before) refl)

within : (before after : List ℕ) → length before < length (before ++ 47 ∷ after)
within before after = omega (arith, length-append before (47 ∷ after))

-- behind that slash there is none
no_later : (before after : List ℕ) (j k : ℕ) → k ≡ length before + j → All (λ b. (b == 47) ≡ false) after → k < length (before ++ 47 ∷ after)
    → (get_or (before ++ 47 ∷ after) k 0 == 47) ≡ true → j ≡ 0
no_later before after zero k at none h slash = refl
no_later before after (suc j) k at none h slash =
    let here : get_or (before ++ 47 ∷ after) k 0 ≡ get_or after j 0 = ap (λ n. get_or (before ++ 47 ∷ after) n 0) at ∙ get_or-append-add before (47 ∷ after) (suc j) 0 in
    let inside : j < length after = omega (arith, h, at, length-append before (47 ∷ after)) in
    absurd (false≢true (sym (none j 0 inside) ∙ ap (λ b. b == 47) (sym here) ∙ slash))

behind_last : (before after : List ℕ) (k : ℕ) → All (λ b. (b == 47) ≡ false) after → IsLastByte (is_byte 47) (before ++ 47 ∷ after) (Some k)
    → drop (k + 1) (before ++ 47 ∷ after) ≡ after
behind_last before after k none (last, slash) =
    let place : k ≡ length before = elim (cases_lt k (length before)) [
      | inl below ↦ absurd (last.after (length before) (omega (arith, below)) (within before after) (slash_there before after))
      | inr over ↦
          let at : k ≡ length before + (k - length before) = omega (arith, over) in
          omega (arith, at, no_later before after (k - length before) k at none last.high slash)
    ] in
    ap (λ n. drop (n + 1) (before ++ 47 ∷ after)) place
    ∙ ap (drop (length before + 1)) (sym (append_assoc before (47 ∷ []) after))
    ∙ drop_at (before ++ 47 ∷ []) after (length before + 1) (length_push before 47)

-- ---- the last piece

-- the text of a path, up to its last piece
pushed : (front : List (List ℕ)) (piece : List ℕ) → path_text (front ++ piece ∷ []) ≡ path_text front ++ 47 ∷ percent_encode ESCAPED piece
pushed front piece =
    flat_map-append (λ p. 47 ∷ percent_encode ESCAPED p) front (piece ∷ [])
    ∙ ap (λ t. path_text front ++ 47 ∷ t) (append-nil (percent_encode ESCAPED piece))

segment_of : (front : List (List ℕ)) (piece : List ℕ) → segment_at_end (front ++ piece ∷ []) ≡ Some (percent_encode ESCAPED piece)
segment_of front piece = ap (option_map (percent_encode ESCAPED)) (last_of front piece)

pub found_last : (pieces : List (List ℕ)) (text : List ℕ) (k : ℕ) → text ≡ path_text pieces → IsLastByte (is_byte 47) text (Some k)
    → Some (drop (k + 1) text) ≡ segment_at_end pieces
found_last pieces text k is found = elim (last_view pieces) [
  | inl none ↦
      let empty : text ≡ [] = is ∙ ap path_text none in
      absurd (omega (arith, found.0.high, ap length empty))
  | inr (front, piece, e) ↦
      let encoded = percent_encode ESCAPED piece in
      let parts : text ≡ path_text front ++ 47 ∷ encoded = is ∙ ap path_text e ∙ pushed front piece in
      let again = subst (λ (t : List ℕ). IsLastByte (is_byte 47) t (Some k)) parts found in
      ap (λ (t : List ℕ). Some (drop (k + 1) t)) parts
      ∙ ap Some (behind_last (path_text front) encoded k (no_slash_in piece) again)
      ∙ sym (segment_of front piece) ∙ sym (ap segment_at_end e)
]

pub none_last : (pieces : List (List ℕ)) (text : List ℕ) → text ≡ path_text pieces → IsLastByte (is_byte 47) text None
    → None ≡ segment_at_end pieces
none_last pieces text is found = elim (last_view pieces) [
  | inl none ↦ sym (ap segment_at_end none)
  | inr (front, piece, e) ↦
      let encoded = percent_encode ESCAPED piece in
      let parts : text ≡ path_text front ++ 47 ∷ encoded = is ∙ ap path_text e ∙ pushed front piece in
      let again = subst (λ (t : List ℕ). IsLastByte (is_byte 47) t None) parts found in
      absurd (again (length (path_text front)) (omega arith) (within (path_text front) encoded) (slash_there (path_text front) encoded))
]

-- ---- a piece that is written otherwise

written : (a : Atom) (piece : List ℕ) → last_piece_of a ≡ Some piece → text_of a ≡ Some (percent_encode ESCAPED piece)
written (PathIs pieces) piece e = ap (option_map (percent_encode ESCAPED)) e
written a piece e = absurd cc

pub unwritten : (piece : List ℕ) (ls : List Literal) → percent_encode ESCAPED piece ≡ piece → All (λ l. text_of l.atom ≢ Some piece) ls
    → All (λ l. last_piece_of l.atom ≢ Some piece) ls
unwritten piece ls kept other =
    All-weaker (λ l. text_of l.atom ≢ Some piece) (λ l. last_piece_of l.atom ≢ Some piece)
    (λ l differs e. differs (written l.atom piece e ∙ ap Some kept)) ls other
