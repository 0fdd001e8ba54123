-- Numbered texts: no two are the same, and what the front, the back and digits pass, they pass.
use Rattle.std.proofs.Common.{arith, ◌≡◌, ◌≢◌, ◌∙◌, refl, sym, ap, ℕ, ◌+◌, ◌%◌, ◌<◌, ◌^◌, Bool, true, false, ◌==◌, cond, List, [], ◌∷◌, ◌++◌, length, append_assoc, append-nil}
use Rattle.std.specs.Prelude.{decimal}
use Rattle.std.specs.List.{list_all}
use Rattle.std.proofs.lemmas.Bool.{agree_below, agree_below_at, and_from, lt-ltb}
use Rattle.std.proofs.lemmas.Bool.Decides.{Decides-eqb}
use Rattle.std.proofs.lemmas.Fmt.{decimal_by_steps, decimal_injective, decimal_nonempty}
use Rattle.std.proofs.lemmas.List.{append_cancel_left, append_cancel_right}
use Rattle.std.proofs.lemmas.List.Folds.{list_all-append}
use Rattle.csp_model.specs.Ascii.{is_nonempty}
use Rattle.csp_pick.specs.Fresh.{suffix, numbered, IsNumbered}

-- Different numbers

suffix_apart : (j k : ℕ) → j < k → k < 2 ^ 64 → suffix j ≢ suffix k
suffix_apart j k low high e = by_first (j == 1) (k == 1) refl refl e where
  by_first : (b d : Bool) → (j == 1) ≡ b → (k == 1) ≡ d → cond b [] (decimal j) ≡ cond d [] (decimal k) → ⊥
  by_first true true one other e = let a = (Decides-eqb j 1).0 one in let b = (Decides-eqb k 1).0 other in omega (arith, a, b)
  by_first true false one other e = omega (arith, decimal_nonempty k high, ap length e)
  by_first false true one other e = omega (arith, decimal_nonempty j (omega arith), ap length e)
  by_first false false one other e = omega (arith, decimal_injective j k (omega arith) high e)

pub numbered_apart : (front back : List ℕ) (j k : ℕ) → j < k → k < 2 ^ 64 → numbered front j back ≢ numbered front k back
numbered_apart front back j k low high e =
    suffix_apart j k low high (append_cancel_right (suffix j) (suffix k) back (append_cancel_left front (suffix j ++ back) (suffix k ++ back) e))

-- Each byte

module _ (p : ℕ → Bool) (digits : agree_below (λ d. p (48 + d)) (λ d. true) 10 ≡ true) where
  digit : (d : ℕ) → d < 10 → list_all p ((48 + d) ∷ []) ≡ true
  digit d small = and_from (p (48 + d)) true (agree_below_at (λ d. p (48 + d)) (λ d. true) 10 d digits small) refl

  decimal_passes : (n : ℕ) → n < 2 ^ 64 → list_all p (decimal n) ≡ true
  decimal_passes n small =
      decimal_by_steps (λ n ds. list_all p ds ≡ true) digit
      (λ n ds large before. list_all-append p ds ((48 + n % 10) ∷ [])
      ∙ and_from (list_all p ds) (list_all p ((48 + n % 10) ∷ [])) before (digit (n % 10) (omega arith))) n small

  suffix_passes : (n : ℕ) → n < 2 ^ 64 → list_all p (suffix n) ≡ true
  suffix_passes n small = by_first (n == 1) where
    by_first : (b : Bool) → list_all p (cond b [] (decimal n)) ≡ true
    by_first true = refl
    by_first false = decimal_passes n small

  pub numbered_passes : (front back text : List ℕ) → list_all p front ≡ true → list_all p back ≡ true → IsNumbered front back text → list_all p text ≡ true
  numbered_passes front back text before behind (n, small, e) =
      ap (list_all p) e ∙ list_all-append p front (suffix n ++ back)
      ∙ and_from (list_all p front) (list_all p (suffix n ++ back)) before
      (list_all-append p (suffix n) back ∙ and_from (list_all p (suffix n)) (list_all p back) (suffix_passes n small) behind)

-- the text is one without a back, and then the back
pub before_back : (front back text : List ℕ) → IsNumbered front back text → (label : List ℕ) × IsNumbered front [] label × (text ≡ label ++ back)
before_back front back text (n, small, e) = (
  front ++ suffix n,
  (n, small, ap (λ t. front ++ t) (sym (append-nil (suffix n)))),
  e ∙ sym (append_assoc front (suffix n) back),
)

pub nonempty : (c : ℕ) (text : List ℕ) → is_nonempty (c ∷ text) ≡ true
nonempty c text = lt-ltb 0 (length (c ∷ text)) (omega arith)
