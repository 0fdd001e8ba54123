-- Where a text is cut at the first of some byte.
use Rattle.std.proofs.Common.{arith, ◌≡◌, ◌<◌, ◌==◌, ℕ, List, [], Option, Some, None, Bor, length}
use Rattle.std.specs.List.{before_first, after_first, position_or_len}
use Rattle.std.proofs.lemmas.Grind.{common_steps}
use Rattle.std.proofs.lemmas.Str.Pattern.{IsSplitOnceResult, split_once_first}

pub cut_at : (c : ℕ) (bs : List ℕ) (r : Option (Bor (List ℕ) × Bor (List ℕ))) (x : Bor (List ℕ) × Bor (List ℕ))
    → IsSplitOnceResult c bs r → c < 128 → r ≡ Some x
    → (x.0.now ≡ before_first (λ b. b == c) bs) × (x.1.now ≡ after_first (λ b. b == c) bs)
cut_at c bs r x h small is =
    let cut = rw is at (split_once_first c bs r h small) in
    (cut.1, cut.2)

pub uncut : (c : ℕ) (bs : List ℕ) (r : Option (Bor (List ℕ) × Bor (List ℕ)))
    → IsSplitOnceResult c bs r → c < 128 → r ≡ None
    → (bs ≡ before_first (λ b. b == c) bs) × (◌≡◌ {A = List ℕ} [] (after_first (λ b. b == c) bs))
uncut c bs r h small is =
    let all : position_or_len (λ b. b == c) bs ≡ length bs = rw is at (split_once_first c bs r h small) in
    (rw all (grind (arith, common_steps)), rw all (grind (arith, common_steps)))
