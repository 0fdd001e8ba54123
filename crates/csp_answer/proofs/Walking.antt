-- A walk outwards from a place: what is found of the conjunctions that the names around it lead.
use Rattle.std.proofs.Common.{◌≡◌, ℕ, ◌≤◌, ◌<◌, ◌+◌, ◌⊎◌, inl, inr, Bool, true, false, nat_lt, refl, List, length, Option, Some, None, arith}
use Rattle.std.specs.Bool.{⊤}
use Rattle.std.proofs.lemmas.Bool.Decides.{nat_tests}
use Rattle.csp_branch.specs.Paths.{Path}
use Rattle.csp_formula.specs.Surely.{maybe_or}
use Rattle.csp_branch.specs.Numbers.{AreInOrder, IsOuterOr, around_in}
use Rattle.csp_branch.proofs.Forest.{around_before, nothing_outside}
use Rattle.csp_answer.specs.Deciding.{Finds}
use Rattle.csp_answer.specs.declared.conjunction.Conjunction.{Conjunction}
use Rattle.csp_answer.proofs.Finding.{finds_both, finds_none, finds_true}

-- the walk is beyond a name where it isn't around the next one
abbrev pub IsPassed : Path → Option ℕ → ℕ → Type 0
IsPassed path (Some next) name = around_in path.atoms name next ≡ false
IsPassed path None name = ⊤

abbrev pub IsLookedAt : Path → ℕ → Option ℕ → ℕ → Type 0
IsLookedAt path place next name = (around_in path.atoms name place ≡ true) × IsPassed path next name

pub record IsWalk (path : Path) (cs : List Conjunction) (place : ℕ) (next : Option ℕ) (known : Option Bool) : Type 0 where
  pub there : (m : ℕ) → next ≡ Some m → m < length path.atoms
  pub found : Finds path cs (IsLookedAt path place next) known

never_both : (t : Bool) → t ≡ true → t ≡ false → ⊥
never_both t e f = cc

module _ (path : Path) (cs : List Conjunction) (place : ℕ) where
  pub walk_first : place < length path.atoms → IsWalk path cs place (Some place) (Some false)
  walk_first here = record {
    there = λ m e. let same : place ≡ m = cc in omega (arith, here, same);
    found = finds_none path cs (IsLookedAt path place (Some place)) (λ name is. never_both (around_in path.atoms name place) is.0 is.1);
  }

  module _ (order : AreInOrder path.atoms) (m : ℕ) (known more : Option Bool) (was : IsWalk path cs place (Some m) known) (now : Finds path cs (λ name. (m ≤ name) × (name < m + 1)) more) where
    here : m < length path.atoms
    here = was.there m refl

    -- what is around the name, but for itself, stands before it
    at_or_before : (name : ℕ) → around_in path.atoms name m ≡ true → ((m ≤ name) × (name < m + 1)) ⊎ (name < m)
    at_or_before name on = by (nat_lt name m) (nat_lt m name) (nat_lt name (length path.atoms)) refl refl refl
      where
        by : (s t u : Bool) → nat_lt name m ≡ s → nat_lt m name ≡ t → nat_lt name (length path.atoms) ≡ u → ((m ≤ name) × (name < m + 1)) ⊎ (name < m)
        by true t u e f g = inr (grind (arith, nat_tests))
        by false false u e f g = inl ((grind (arith, nat_tests)), (grind (arith, nat_tests)))
        by false true true e f g =
            absurd (never_both (around_in path.atoms name m) on (around_before path.atoms order name m (grind (arith, nat_tests)) (grind (arith, nat_tests))))
        by false true false e f g = absurd (never_both (around_in path.atoms name m) on (nothing_outside path.atoms name m (grind (arith, nat_tests))))

    -- the next one is around what isn't passed
    passed_or : (next : Option ℕ) (name : ℕ) → IsOuterOr path.atoms m next → name < m → around_in path.atoms name m ≡ true → IsPassed path next name → ⊥
    passed_or (Some o) name outer below on passed = never_both (around_in path.atoms name o) (outer.innermost name below on) passed
    passed_or None name outer below on passed = never_both (around_in path.atoms name m) on (outer name below)

    covers : (next : Option ℕ) → IsOuterOr path.atoms m next → (name : ℕ) → IsLookedAt path place next name → IsLookedAt path place (Some m) name ⊎ ((m ≤ name) × (name < m + 1))
    covers next outer name (on, passed) = by (around_in path.atoms name m) refl
      where
        by : (t : Bool) → around_in path.atoms name m ≡ t → IsLookedAt path place (Some m) name ⊎ ((m ≤ name) × (name < m + 1))
        by false e = inl (on, e)
        by true e = elim (at_or_before name e) [
          | inl at ↦ inr at
          | inr below ↦ absurd (passed_or next name outer below e passed)
        ]

    still_there : (next : Option ℕ) → IsOuterOr path.atoms m next → (o : ℕ) → next ≡ Some o → o < length path.atoms
    still_there (Some n) outer o e = let same : n ≡ o = cc in let low = outer.before in omega (arith, here, low, same)
    still_there None outer o e = cc

    pub walk_next : (next : Option ℕ) → IsOuterOr path.atoms m next → IsWalk path cs place next (maybe_or known more)
    walk_next next outer = record {
      there = still_there next outer;
      found = finds_both path cs (IsLookedAt path place (Some m)) (λ name. (m ≤ name) × (name < m + 1)) (IsLookedAt path place next) known more was.found now (covers next outer);
    }

    -- it may end where something is true
    pub walk_true : (looked : ℕ → Type 0) → maybe_or known more ≡ Some true → Finds path cs looked (maybe_or known more)
    walk_true looked is =
        finds_true path cs (λ name. ⊥) looked (maybe_or known more) is
        (finds_both path cs (IsLookedAt path place (Some m)) (λ name. (m ≤ name) × (name < m + 1)) (λ name. ⊥) known more was.found now (λ name on. absurd on))

  -- or beyond the outermost name
  pub walk_out : (known : Option Bool) → IsWalk path cs place None known → Finds path cs (λ name. around_in path.atoms name place ≡ true) known
  walk_out known walk = record { sound = walk.found.sound; each = λ c name has at on. walk.found.each c name has at (on, tt) }
