-- The tokens of one directive among needs.
use Rattle.std.proofs.Common.{arith, ◌≡◌, ap, refl, ℕ, Bool, true, false, ◌&&◌, ◌||◌, List, [], ◌∷◌, map, filter, cond}
use Rattle.std.specs.List.{list_any, list_all}
use Rattle.std.proofs.lemmas.Grind.{common_steps}
use Rattle.csp_learn.specs.Policies.{is_for, tokens_for}
use Rattle.csp_learn.specs.declared.need.Need.{Need}

pub any_chosen : (p : List ℕ → Bool) (name : List ℕ) (needs : List Need)
    → list_any p (tokens_for name needs) ≡ list_any (λ (need : Need). is_for name need && p need.token) needs
any_chosen p name [] = refl
any_chosen p name (need ∷ needs) = go (is_for name need) (any_chosen p name needs) where
  go : (b : Bool) → list_any p (tokens_for name needs) ≡ list_any (λ (need : Need). is_for name need && p need.token) needs
      → list_any p (map (λ (need : Need). need.token) (cond b (need ∷ filter (is_for name) needs) (filter (is_for name) needs)))
      ≡ ((b && p need.token) || list_any (λ (need : Need). is_for name need && p need.token) needs)
  go true rest = ap (λ b. p need.token || b) rest
  go false rest = rest

pub all_chosen : (p : List ℕ → Bool) (name : List ℕ) (needs : List Need) → list_all (λ (need : Need). p need.token) needs ≡ true → list_all p (tokens_for name needs) ≡ true
all_chosen p name [] all = refl
all_chosen p name (need ∷ needs) all = go (is_for name need) (all_chosen p name needs) where
  go : (b : Bool) → (list_all (λ (need : Need). p need.token) needs ≡ true → list_all p (tokens_for name needs) ≡ true) → list_all p (map (λ (need : Need). need.token) (cond b (need ∷ filter (is_for name) needs) (filter (is_for name) needs))) ≡ true
  go true rest = grind (arith, common_steps, rest)
  go false rest = grind (arith, common_steps, rest)
