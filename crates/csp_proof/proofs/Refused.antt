-- Where a line can't stand at the place that those before it lead to, no proof's text begins with it.
use Rattle.std.proofs.Common.{arith, ◌≡◌, ◌∙◌, sym, ap, subst, refl, ℕ, ◌+◌, ◌-◌, ◌<◌, ◌≤◌, List, [], ◌∷◌, ◌++◌, length, map, take, drop, append_assoc, length-append, length-take, All, inl, inr}
use Rattle.std.specs.Prelude.{None, option_and_then}
use Rattle.std.proofs.lemmas.Bool.{cases_order}
use Rattle.std.proofs.lemmas.Option.{none-some, same_Some}
use Rattle.std.proofs.lemmas.List.{length-map, length_push, same_from_push, take_at, take-take, take-map, take-append-drop}
use Rattle.std.proofs.lemmas.List.Elements.{All-head, All-tail, All-take}
use Rattle.csp_model.specs.Ascii.{split_at}
use Rattle.csp_proof.specs.Places.{next, place_lines, run, IsPlace, IsReached}
use Rattle.csp_proof.specs.Reading.{IsValidLine}
use Rattle.csp_proof.specs.Spelling.{line_text, proof_lines}
use Rattle.csp_proof.specs.Texts.{IsTextOf, whole_lines, CanStand, IsFirstBad, IsRefused}
use Rattle.csp_proof.specs.declared.line.ProofLine.{ProofLine}
use Rattle.csp_proof.specs.declared.progress.Progress.{Progress}
use Rattle.csp_proof.specs.declared.progress.Progress.TheVariants.{Start, Done}
use Rattle.csp_proof.specs.declared.proof.Proof.{Proof}
use Rattle.csp_proof.proofs.FirstLines.{text_joined, lines_split}
use Rattle.csp_proof.proofs.LinesRead.{line_told}
use Rattle.csp_proof.proofs.Steps.{run-append}
use Rattle.csp_proof.proofs.Whole.{whole_run, lines_valid, goes_on}

-- Lines that are told by their texts

pub lines_told : (ls others : List ProofLine) → All IsValidLine ls → All IsValidLine others → map line_text ls ≡ map line_text others → ls ≡ others
lines_told [] [] valid also same = refl
lines_told [] (other ∷ others) valid also same = cc
lines_told (l ∷ ls) [] valid also same = cc
lines_told (l ∷ ls) (other ∷ others) valid also same =
    let first : line_text l ≡ line_text other = cc in
    let rest : map line_text ls ≡ map line_text others = cc in
    ap (λ (m : ProofLine). m ∷ ls) (line_told l other (All-head IsValidLine l ls valid) (All-head IsValidLine other others also) first)
    ∙ ap (λ (ms : List ProofLine). other ∷ ms) (lines_told ls others (All-tail IsValidLine l ls valid) (All-tail IsValidLine other others also) rest)

-- the lines are these and one more, which has this text
abbrev IsOneMore : List ProofLine → List ProofLine → List ℕ → Type 0
IsOneMore ls before text = (l : ProofLine) × (ls ≡ before ++ l ∷ []) × (line_text l ≡ text) × IsValidLine l

one_more : (ls before : List ProofLine) (text : List ℕ) → All IsValidLine ls → All IsValidLine before → map line_text ls ≡ map line_text before ++ text ∷ [] → IsOneMore ls before text
one_more [] [] text valid also same = cc
one_more [] (b ∷ before) text valid also same = cc
one_more (l ∷ []) [] text valid also same = let first : line_text l ≡ text = cc in (l, refl, first, All-head IsValidLine l [] valid)
one_more (l ∷ next ∷ ls) [] text valid also same = cc
one_more (l ∷ ls) (b ∷ before) text valid also same =
    let first : line_text l ≡ line_text b = cc in
    let rest : map line_text ls ≡ map line_text before ++ text ∷ [] = cc in
    let more = one_more ls before text (All-tail IsValidLine l ls valid) (All-tail IsValidLine b before also) rest in
    (more.0, ap (λ (m : ProofLine). m ∷ ls) (line_told l b (All-head IsValidLine l ls valid) (All-head IsValidLine b before also) first) ∙ ap (λ (ms : List ProofLine). b ∷ ms) more.1, more.2, more.3)

place_valid : (place : Progress) → IsPlace place → All IsValidLine (place_lines place)
place_valid place is =
    let on = goes_on place is in
    subst (All IsValidLine) (ap (take (length (place_lines place))) on.3 ∙ take_at (place_lines place) on.1 (length (place_lines place)) refl)
    (All-take IsValidLine (length (place_lines place)) (proof_lines on.0) (lines_valid on.0 on.2))

-- Whole lines

-- the first so many whole lines of a text whose parts begin with so many
firsts : (text : List ℕ) (front back : List (List ℕ)) → split_at 10 text ≡ front ++ back → 0 < length back → (length front ≤ length (whole_lines text)) × (take (length front) (whole_lines text) ≡ front)
firsts text front back is some =
    let parts = split_at 10 text in
    let long : length parts ≡ length front + length back = ap length is ∙ length-append front back in
    let within : length front ≤ length parts - 1 = omega arith in (
      omega (arith, length-take (length parts - 1) parts),
      take-take (length front) (length parts - 1) parts within ∙ ap (take (length front)) is ∙ take_at front back (length front) refl,
    )

whole : (text : List ℕ) (front : List (List ℕ)) (last : List ℕ) → split_at 10 text ≡ front ++ last ∷ [] → whole_lines text ≡ front
whole text front last is =
    let long : length (split_at 10 text) - 1 ≡ length front = let e = ap length is ∙ length_push front last in omega arith in
    ap (λ (parts : List (List ℕ)). take (length parts - 1) parts) is ∙ take_at front (last ∷ []) (length (front ++ last ∷ []) - 1) (let e = length_push front last in omega arith)

pub text_lines : (proof : Proof) (text : List ℕ) → IsTextOf proof text → split_at 10 text ≡ map line_text (proof_lines proof) ++ [] ∷ []
text_lines proof text is = ap (split_at 10) is.spelled ∙ lines_split (proof_lines proof) (lines_valid proof is.formed)

-- A place that is reached, and what stands behind it

stands : (text : List ℕ) (place : Progress) (back : List (List ℕ)) → IsPlace place → split_at 10 text ≡ map line_text (place_lines place) ++ back → 0 < length back
    → CanStand text (length (place_lines place))
stands text place back is parts some =
    let ls = place_lines place in
    let on = goes_on place is in
    let first = firsts text (map line_text ls) back parts some in
    let count : length (map line_text ls) ≡ length ls = length-map ls line_text in (
      omega (arith, first.0, count),
      on.0,
      on.2,
      ap (λ (n : ℕ). take n (whole_lines text)) (sym count) ∙ first.1
          ∙ sym (take-map line_text (length ls) (proof_lines on.0) ∙ ap (map line_text) (ap (take (length ls)) on.3 ∙ take_at ls on.1 (length ls) refl)),
    )

-- the line behind the place can't stand there
abbrev CantStand : Progress → List ℕ → Type 0
CantStand place text = (l : ProofLine) → IsValidLine l → text ≡ line_text l → next (length (place_lines place) + 1) place l ≡ None

stuck_run : (place : Progress) (l : ProofLine) (back : List ProofLine) → IsReached place → next (length (place_lines place) + 1) place l ≡ None → run 1 Start ((place_lines place ++ l ∷ []) ++ back) ≡ None
stuck_run place l back reached stuck =
    let ls = place_lines place in
    let at : 1 + length ls ≡ length ls + 1 = omega arith in
    run-append 1 Start (ls ++ l ∷ []) back
    ∙ ap (option_and_then (λ (p : Progress). run (1 + length (ls ++ l ∷ [])) p back))
    (run-append 1 Start ls (l ∷ []) ∙ ap (option_and_then (λ (p : Progress). run (1 + length ls) p (l ∷ []))) reached.run
    ∙ ap (λ (n : ℕ). run n place (l ∷ [])) at ∙ ap (option_and_then (λ (p : Progress). run (length ls + 1 + 1) p [])) stuck)

no_front : (text : List ℕ) (place : Progress) (part next_part : List ℕ) (back : List (List ℕ)) → IsReached place → split_at 10 text ≡ map line_text (place_lines place) ++ part ∷ next_part ∷ back
    → CantStand place part → ¬ CanStand text (length (place_lines place) + 1)
no_front text place part next_part back reached parts stuck can =
    let ls = place_lines place in
    let front = map line_text ls ++ part ∷ [] in
    let proof = can.1 in
    let count : length front ≡ length ls + 1 = length_push (map line_text ls) part ∙ ap (λ (n : ℕ). n + 1) (length-map ls line_text) in
    let first = firsts text front (next_part ∷ back) (parts ∙ sym (append_assoc (map line_text ls) (part ∷ []) (next_part ∷ back))) (omega arith) in
    let q = take (length ls + 1) (proof_lines proof) in
    let same : map line_text q ≡ front = sym (take-map line_text (length ls + 1) (proof_lines proof)) ∙ sym can.3 ∙ ap (λ (n : ℕ). take n (whole_lines text)) (sym count) ∙ first.1 in
    let more = one_more q ls part (All-take IsValidLine (length ls + 1) (proof_lines proof) (lines_valid proof can.2)) (place_valid place reached.valid) same in
    let split : proof_lines proof ≡ (ls ++ more.0 ∷ []) ++ drop (length ls + 1) (proof_lines proof)
    = sym (take-append-drop (length ls + 1) (proof_lines proof)) ∙ ap (λ (ms : List ProofLine). ms ++ drop (length ls + 1) (proof_lines proof)) more.1 in
    none-some (Done proof) (sym (stuck_run place more.0 (drop (length ls + 1) (proof_lines proof)) reached (stuck more.0 more.3 (sym more.2))) ∙ ap (run 1 Start) (sym split) ∙ whole_run proof can.2)

-- a line that can't stand is the first that can't
pub bad_line : (text : List ℕ) (place : Progress) (part next_part : List ℕ) (back : List (List ℕ)) → IsReached place → split_at 10 text ≡ map line_text (place_lines place) ++ part ∷ next_part ∷ back
    → CantStand place part → IsRefused text (length (place_lines place) + 1)
bad_line text place part next_part back reached parts stuck =
    let ls = place_lines place in
    let there = no_front text place part next_part back reached parts stuck in
    let here : length ls ≡ length ls + 1 - 1 = omega arith in
    record {
      none = λ proof is.
          let same : whole_lines text ≡ map line_text (proof_lines proof) = whole text (map line_text (proof_lines proof)) [] (text_lines proof text is) in
          let first = firsts text (map line_text ls ++ part ∷ []) (next_part ∷ back) (parts ∙ sym (append_assoc (map line_text ls) (part ∷ []) (next_part ∷ back))) (omega arith) in
          let count : length (map line_text ls ++ part ∷ []) ≡ length ls + 1 = length_push (map line_text ls) part ∙ ap (λ (n : ℕ). n + 1) (length-map ls line_text) in
          there (omega (arith, first.0, count), proof, is.formed, ap (take (length ls + 1)) same);
      first = record { before = subst (CanStand text) here (stands text place (part ∷ next_part ∷ back) reached.valid parts (omega arith)); there = there };
    }

-- a text that ends elsewhere than a proof's does
pub ends_early : (text : List ℕ) (place : Progress) (rest : List ℕ) → IsReached place → split_at 10 text ≡ map line_text (place_lines place) ++ rest ∷ []
    → ((proof : Proof) → place ≡ Done proof → rest ≡ [] → ⊥) → IsRefused text (length (place_lines place) + 1)
ends_early text place rest reached parts open_end =
    let ls = place_lines place in
    let here : length ls ≡ length ls + 1 - 1 = omega arith in
    record {
      none = λ proof is.
          let both = same_from_push (map line_text (proof_lines proof)) (map line_text ls) [] rest (sym (text_lines proof text is) ∙ parts) in
          let same = lines_told (proof_lines proof) ls (lines_valid proof is.formed) (place_valid place reached.valid) both.0 in
          open_end proof (same_Some place (Done proof) (sym reached.run ∙ ap (run 1 Start) (sym same) ∙ whole_run proof is.formed)) (sym both.1);
      first = record {
        before = subst (CanStand text) here (stands text place (rest ∷ []) reached.valid parts (omega arith));
        there = λ can. let w = ap length (whole text (map line_text ls) rest parts) in let count = length-map ls line_text in omega (arith, can.0, w, count);
      };
    }

-- a whole proof
pub whole_text : (text : List ℕ) (proof : Proof) → IsPlace (Done proof) → split_at 10 text ≡ map line_text (proof_lines proof) ++ [] ∷ [] → IsTextOf proof text
whole_text text proof formed parts = record { formed = formed; spelled = text_joined text (proof_lines proof) parts }

-- Laws of texts

pub one_proof : (first second : Proof) (text : List ℕ) → IsTextOf first text → IsTextOf second text → first ≡ second
one_proof first second text is also =
    let both = same_from_push (map line_text (proof_lines first)) (map line_text (proof_lines second)) [] [] (sym (text_lines first text is) ∙ text_lines second text also) in
    let same = lines_told (proof_lines first) (proof_lines second) (lines_valid first is.formed) (lines_valid second also.formed) both.0 in
    let ends : Done first ≡ Done second = same_Some (Done first) (Done second) (sym (whole_run first is.formed) ∙ ap (run 1 Start) same ∙ whole_run second also.formed) in
    cc ends

fewer_stand : (text : List ℕ) (m n : ℕ) → m ≤ n → CanStand text n → CanStand text m
fewer_stand text m n less can = (
  omega (arith, can.0),
  can.1,
  can.2,
  sym (take-take m n (whole_lines text) less) ∙ ap (take m) can.3 ∙ take-take m n (map line_text (proof_lines can.1)) less,
)

pub one_first : (text : List ℕ) (m n : ℕ) → IsFirstBad text m → IsFirstBad text n → m ≡ n
one_first text m n first also = elim (cases_order m n) [
  | inl same ↦ same
  | inr (inl less) ↦ absurd (first.there (fewer_stand text m (n - 1) (omega arith) also.before))
  | inr (inr more) ↦ absurd (also.there (fewer_stand text n (m - 1) (omega arith) first.before))
]
