use Rattle.std.proofs.Common.{arith, ◌≡◌, ◌∙◌, ◌==◌, ◌∷◌, ◌+◌, ℕ, Bool, true, false, List, take, drop, refl, ap, subst, Some, None, []}
use Rattle.std.specs.List.{position_or_len}
use Rattle.std.proofs.lemmas.List.{get_or_default}
use Rattle.std.proofs.lemmas.List.Splits.{slice_split_none, slice_split_first}
use Rattle.std.proofs.lemmas.List.Sums.{position_or_len_is}
use Rattle.memchr.specs.Find.{IsFirstByte, is_byte}
use Rattle.csp_model.specs.Ascii.{split_at}
use Rattle.csp_policy.proofs.pieces.split_piece.Goals as goal

fails : (b : Bool) → (b ≡ true → ⊥) → b ≡ false
fails true h = absurd (h refl)
fails false h = refl

-- a text without the byte is one piece
one_piece : (c : ℕ) (text : List ℕ) → IsFirstByte (is_byte c) text None → split_at c text ≡ text ∷ []
one_piece c text none = slice_split_none (λ b. b == c) text (λ k d below. fails _ (λ is. none k (omega arith) below (ap (λ x. x == c) (get_or_default text k 0 d below) ∙ is)))

-- the first piece ends before the first such byte
first_piece : (c : ℕ) (text : List ℕ) (at : ℕ) → IsFirstByte (is_byte c) text (Some at) → split_at c text ≡ take at text ∷ split_at c (drop (at + 1) text)
first_piece c text at found =
    let within = found.0.high in
    let place : position_or_len (λ b. b == c) text ≡ at = position_or_len_is (λ b. b == c) text at 0 (omega arith) (λ k below. fails _ (found.0.before k (omega arith) below)) (λ _. found.1) in
    subst (λ n. split_at c text ≡ take n text ∷ split_at c (drop (n + 1) text)) place (slice_split_first (λ b. b == c) text 0 (omega arith))

pub returns-in-None : goal.returns-in-None
returns-in-None c = one_piece c.args.separator c.args.text.now c.in-None.ensures

pub returns-in-Some-separator_at : goal.returns-in-Some-separator_at
returns-in-Some-separator_at c =
    let front = c.split_at.ensures.front in
    let back = c.split_at-in-Some-separator_at.ensures.back in
    first_piece c.args.separator c.args.text.now c.in-Some-separator_at.at c.in-Some-separator_at.ensures ∙ cc
