-- A text is cut at its first line feed, and lines are the parts of their text between line feeds.
use Rattle.std.proofs.Common.{arith, ◌≡◌, ◌∙◌, sym, ap, refl, ℕ, ◌+◌, ◌≤◌, Bool, false, List, [], ◌∷◌, ◌++◌, length, map, take, drop, append-nil, append_assoc, All, inl, inr}
use Rattle.std.specs.Prelude.{Some, None, position, not, nat_lt, nat_eq}
use Rattle.std.specs.List.{onto_first, position_or_len, join_with_byte}
use Rattle.std.proofs.lemmas.Bool.{cases_Bool, cond-true, cond-false, ltb-true, ltb-false, ne_eqb}
use Rattle.std.proofs.lemmas.Option.{none-some, same_Some}
use Rattle.std.proofs.lemmas.List.Elements.{All-weaker, All-head, All-tail}
use Rattle.std.proofs.lemmas.List.Splits.{slice_split_first, slice_split-cons_no, slice_split_at, join_with_byte-slice_split}
use Rattle.csp_model.specs.Ascii.{split_at}
use Rattle.csp_proof.specs.Reading.{IsValidLine}
use Rattle.csp_proof.specs.Spelling.{line_text, lines_text}
use Rattle.csp_proof.specs.declared.line.ProofLine.{ProofLine}
use Rattle.csp_proof.proofs.LineBytes.{IsPlain, plain_line}

abbrev is_feed : ℕ → Bool
is_feed c = nat_eq c 10

pub at_first : (text : List ℕ) (at : ℕ) → Some at ≡ position is_feed text → split_at 10 text ≡ take at text ∷ split_at 10 (drop (at + 1) text)
at_first text at is = elim (cases_Bool (nat_lt (position_or_len is_feed text) (length text))) [
  | inl within ↦
      let same : at ≡ position_or_len is_feed text = same_Some at (position_or_len is_feed text) (is ∙ cond-true _ _ _ within) in
      slice_split_first is_feed text 0 (ltb-true (position_or_len is_feed text) (length text) within)
      ∙ ap (λ (n : ℕ). take n text ∷ split_at 10 (drop (n + 1) text)) (sym same)
  | inr past ↦ absurd (none-some at (sym (is ∙ cond-false _ _ _ past)))
]

alone : (text : List ℕ) → length text ≤ position_or_len is_feed text → split_at 10 text ≡ text ∷ []
alone [] past = refl
alone (c ∷ text) past = elim (cases_Bool (is_feed c)) [
  | inl feed ↦ let here : position_or_len is_feed (c ∷ text) ≡ 0 = cond-false _ _ _ (ap not feed) in absurd (omega arith)
  | inr other ↦
      let on : position_or_len is_feed (c ∷ text) ≡ 1 + position_or_len is_feed text = cond-true _ _ _ (ap not other) in
      slice_split-cons_no is_feed c text other ∙ ap (onto_first c) (alone text (omega arith))
]

pub none_first : (text : List ℕ) → None ≡ position is_feed text → split_at 10 text ≡ text ∷ []
none_first text is = elim (cases_Bool (nat_lt (position_or_len is_feed text) (length text))) [
  | inl within ↦ absurd (none-some (position_or_len is_feed text) (is ∙ cond-true _ _ _ within))
  | inr past ↦ alone text (ltb-false (position_or_len is_feed text) (length text) past)
]

-- Lines and their text

lines_joined : (ls : List ProofLine) → join_with_byte 10 (map line_text ls ++ [] ∷ []) ≡ lines_text ls
lines_joined [] = refl
lines_joined (l ∷ []) = sym (append-nil (line_text l ++ 10 ∷ []))
lines_joined (l ∷ next ∷ ls) = ap (λ (t : List ℕ). line_text l ++ 10 ∷ t) (lines_joined (next ∷ ls)) ∙ sym (append_assoc (line_text l) (10 ∷ []) (lines_text (next ∷ ls)))

pub text_joined : (text : List ℕ) (ls : List ProofLine) → split_at 10 text ≡ map line_text ls ++ [] ∷ [] → text ≡ lines_text ls
text_joined text ls is = sym (join_with_byte-slice_split 10 text) ∙ ap (join_with_byte 10) is ∙ lines_joined ls

no_feed : (l : ProofLine) → IsValidLine l → All (λ (c : ℕ). is_feed c ≡ false) (line_text l)
no_feed l valid = All-weaker IsPlain (λ (c : ℕ). is_feed c ≡ false) (λ c plain. ne_eqb c 10 (λ same. omega arith)) (line_text l) (plain_line l valid)

pub lines_split : (ls : List ProofLine) → All IsValidLine ls → split_at 10 (lines_text ls) ≡ map line_text ls ++ [] ∷ []
lines_split [] valid = refl
lines_split (l ∷ ls) valid =
    ap (split_at 10) (append_assoc (line_text l) (10 ∷ []) (lines_text ls))
    ∙ slice_split_at is_feed (line_text l) 10 (lines_text ls) (no_feed l (All-head IsValidLine l ls valid)) refl
    ∙ ap (λ (ts : List (List ℕ)). line_text l ∷ ts) (lines_split ls (All-tail IsValidLine l ls valid))
