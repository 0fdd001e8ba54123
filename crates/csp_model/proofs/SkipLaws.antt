-- What is left behind the longest front whose bytes pass.
use Rattle.std.proofs.Common.{arith, ◌≡◌, refl, ap, ℕ, ◌+◌, suc, Bool, true, false, cond, List, ◌∷◌, drop}
use Rattle.std.specs.List.{prefix_len}
use Rattle.csp_model.specs.Ascii.{skip_while}

skip_by : (b : Bool) (n x : ℕ) (text : List ℕ) → drop (cond b (1 + n) 0) (x ∷ text) ≡ cond b (drop n text) (x ∷ text)
skip_by true n x text = let e : 1 + n ≡ suc n = omega arith in ap (λ m. drop m (x ∷ text)) e
skip_by false n x text = refl

pub skip_while-cons : (p : ℕ → Bool) (x : ℕ) (text : List ℕ) → skip_while p (x ∷ text) ≡ cond (p x) (skip_while p text) (x ∷ text)
skip_while-cons p x text = skip_by (p x) (prefix_len p text) x text
