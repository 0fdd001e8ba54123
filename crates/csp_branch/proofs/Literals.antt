-- One literal more in a group of names.
use Rattle.std.proofs.Common.{◌≡◌, refl, subst, ℕ, ◌⊎◌, inl, inr, Bool, true, false, ◌||◌, not, Option, Some, None, if◌then◌else◌}
use Rattle.csp_facts.specs.Follows.{nested, false_where, or_else}
use Rattle.csp_branch.specs.Numbers.{IsForest}
use Rattle.csp_branch.specs.Branching.{IsState, known_at, denied_too, with_literal, sealed}

module _ (around : ℕ → ℕ → Bool) where
  -- a denial, whatever is known
  pub deny : (place : Option ℕ) (denied : ℕ → Bool) (known asked : ℕ)
      → with_literal around place denied known false asked ≡ known_at around place (denied_too around denied known) asked
  deny None denied known asked = by (denied asked) (around known asked)
    where
      by : (s t : Bool) → or_else (false_where s) (false_where t) ≡ false_where (s || t)
      by true t = refl
      by false t = refl
  deny (Some p) denied known asked = by (around asked p) (around p asked) (denied asked) (around known asked)
    where
      by : (q r s t : Bool) → or_else (if q then Some true else if r then false_where s else Some false) (false_where t)
          ≡ (if q then Some true else if r then false_where (s || t) else Some false)
      by true r s t = refl
      by false true true t = refl
      by false true false t = refl
      by false false s t = refl

  module _ (forest : IsForest around) where
    -- tests, by what they come to
    never_both : (t : Bool) → t ≡ true → t ≡ false → ⊥
    never_both t e f = cc

    -- an open atom: under the place, and not denied
    pub record IsOpen (place : Option ℕ) (denied : ℕ → Bool) (known : ℕ) : Type 0 where
      pub clear : denied known ≡ false
      pub under : (p : ℕ) → place ≡ Some p → around p known ≡ true
      pub below : (p : ℕ) → place ≡ Some p → around known p ≡ false

    pub open_is : (place : Option ℕ) (denied : ℕ → Bool) (known : ℕ) → known_at around place denied known ≡ None → IsOpen place denied known
    open_is None denied known e = record { clear = by (denied known) e; under = λ p f. cc; below = λ p f. cc }
      where
        by : (s : Bool) → false_where s ≡ None → s ≡ false
        by true e = cc
        by false e = refl
    open_is (Some q) denied known e =
        let all = by (around known q) (around q known) (denied known) e in
        record {
          clear = all.2;
          under = λ p f. let same : q ≡ p = cc in subst (λ (n : ℕ). around n known ≡ true) same all.1;
          below = λ p f. let same : q ≡ p = cc in subst (λ (n : ℕ). around known n ≡ false) same all.0;
        }
      where
        by : (q r s : Bool) → (if q then Some true else if r then false_where s else Some false) ≡ None → (q ≡ false) × (r ≡ true) × (s ≡ false)
        by true r s e = cc
        by false true true e = cc
        by false true false e = (refl, refl, refl)
        by false false s e = cc

    -- false, since the contrary can't be
    is_false : (t : Bool) → (t ≡ true → ⊥) → t ≡ false
    is_false true h = absurd (h refl)
    is_false false h = refl

    known_true : (place : Option ℕ) (denied : ℕ → Bool) (known : ℕ) → known_at around place denied known ≡ Some true → (p : ℕ) × (place ≡ Some p) × (around known p ≡ true)
    known_true None denied known e = by (denied known) e
      where
        by : (s : Bool) → false_where s ≡ Some true → (p : ℕ) × (None ≡ Some p) × (around known p ≡ true)
        by true e = cc
        by false e = cc
    known_true (Some q) denied known e = (q, refl, by (around known q) (around q known) (denied known) e)
      where
        by : (q r s : Bool) → (if q then Some true else if r then false_where s else Some false) ≡ Some true → q ≡ true
        by true r s e = refl
        by false true true e = cc
        by false true false e = cc
        by false false s e = cc

    abbrev IsApart : Option ℕ → ℕ → Type 0
    IsApart place known = (p : ℕ) × (place ≡ Some p) × (around known p ≡ false) × (around p known ≡ false)

    known_false : (place : Option ℕ) (denied : ℕ → Bool) (known : ℕ) → known_at around place denied known ≡ Some false → (denied known ≡ true) ⊎ IsApart place known
    known_false None denied known e = inl (by (denied known) e)
      where
        by : (s : Bool) → false_where s ≡ Some false → s ≡ true
        by true e = refl
        by false e = cc
    known_false (Some p) denied known e = by (around known p) (around p known) (denied known) refl refl refl e
      where
        by : (q r s : Bool) → around known p ≡ q → around p known ≡ r → denied known ≡ s → (if q then Some true else if r then false_where s else Some false) ≡ Some false
            → (denied known ≡ true) ⊎ IsApart (Some p) known
        by true r s f g h e = cc
        by false true true f g h e = inl h
        by false true false f g h e = cc
        by false false s f g h e = inr (p, refl, f, g)

    -- what isn't so isn't around an open atom
    refused_apart : (place : Option ℕ) (denied : ℕ → Bool) (known asked : ℕ) → IsState around place denied → (denied known ≡ true) ⊎ IsApart place known → IsOpen place denied asked
        → around known asked ≡ false
    refused_apart place denied known asked state (inl was) is = is_false (around known asked) (λ on. never_both (denied asked) (state.down known asked was on) is.clear)
    refused_apart place denied known asked state (inr (p, at, up, down)) is = is_false (around known asked) (λ on.
        elim (forest.nest known p asked on (is.under p at)) [
          | inl one ↦ never_both (around known p) one up
          | inr other ↦ never_both (around p known) other down
        ])

    -- what is so is around each open atom, and no open atom around it
    held_around : (place : Option ℕ) (denied : ℕ → Bool) (known asked : ℕ) → ((p : ℕ) × (place ≡ Some p) × (around known p ≡ true)) → IsOpen place denied asked
        → (around known asked ≡ true) × (around asked known ≡ false)
    held_around place denied known asked (p, at, on) is = (
      forest.through known p asked on (is.under p at),
      is_false (around asked known) (λ back. never_both (around asked p) (forest.through asked known p back on) (is.below p at)),
    )

    kept : (was more : Option Bool) → (was ≡ None → more ≡ None) → or_else was more ≡ was
    kept None more h = h refl
    kept (Some value) more h = refl

    decided_by : (was more other : Option Bool) → (was ≡ None → more ≡ other) → or_else was more ≡ or_else was other
    decided_by None more other h = h refl
    decided_by (Some value) more other h = refl

    pub repeat : (place : Option ℕ) (denied : ℕ → Bool) (known : ℕ) (positive : Bool) (asked : ℕ) → IsState around place denied
        → known_at around place denied known ≡ Some positive → with_literal around place denied known positive asked ≡ known_at around place denied asked
    repeat place denied known true asked state e = kept (known_at around place denied asked) _ (λ none.
        let on = held_around place denied known asked (known_true place denied known e) (open_is place denied asked none) in
        rw (on.0, on.1) refl)
    repeat place denied known false asked state e = kept (known_at around place denied asked) _ (λ none.
        let off = refused_apart place denied known asked state (known_false place denied known e) (open_is place denied asked none) in
        rw off refl)

    only_outer : (t : Bool) → nested t false ≡ Some t
    only_outer true = refl
    only_outer false = refl

    pub contrary : (place : Option ℕ) (denied : ℕ → Bool) (known : ℕ) (positive : Bool) (asked : ℕ) → IsState around place denied
        → known_at around place denied known ≡ Some (not positive)
        → with_literal around place denied known positive asked ≡ or_else (known_at around place denied asked) (Some (sealed around known positive asked))
    contrary place denied known true asked state e = decided_by (known_at around place denied asked) _ _ (λ none.
        let off = refused_apart place denied known asked state (known_false place denied known e) (open_is place denied asked none) in
        rw off (only_outer (around asked known)))
    contrary place denied known false asked state e = decided_by (known_at around place denied asked) _ _ (λ none.
        let on = held_around place denied known asked (known_true place denied known e) (open_is place denied asked none) in
        rw on.0 refl)

    -- an atom that the check is placed at
    below_place : (s q r : Bool) → (s ≡ true → q ≡ true → ⊥) → or_else (false_where s) (nested q r) ≡ (if q then Some true else if r then false_where s else Some false)
    below_place true true r h = absurd (h refl refl)
    below_place true false true h = refl
    below_place true false false h = refl
    below_place false true r h = refl
    below_place false false true h = refl
    below_place false false false h = refl

    pub placed : (place : Option ℕ) (denied : ℕ → Bool) (known asked : ℕ) → IsState around place denied → known_at around place denied known ≡ None
        → with_literal around place denied known true asked ≡ known_at around (Some known) denied asked
    placed None denied known asked state e =
        let is = open_is None denied known e in
        below_place (denied asked) (around asked known) (around known asked) (λ was on. never_both (denied known) (state.down asked known was on) is.clear)
    placed (Some p) denied known asked state e = by (around asked p) (around p asked) refl refl
      where
        is : IsOpen (Some p) denied known
        is = open_is (Some p) denied known e

        to_known : around p known ≡ true
        to_known = is.under p refl

        by : (a b : Bool) → around asked p ≡ a → around p asked ≡ b
            → or_else (if a then Some true else if b then false_where (denied asked) else Some false) (nested (around asked known) (around known asked))
            ≡ known_at around (Some known) denied asked
        by true b f g = let on : around asked known ≡ true = forest.through asked p known f to_known in rw on refl
        by false true f g =
            below_place (denied asked) (around asked known) (around known asked) (λ was on. never_both (denied known) (state.down asked known was on) is.clear)
        by false false f g =
            let off : around asked known ≡ false = is_false (around asked known) (λ on. elim (forest.nest asked p known on to_known) [
              | inl one ↦ never_both (around asked p) one f
              | inr other ↦ never_both (around p asked) other g
            ]) in
            let away : around known asked ≡ false = is_false (around known asked) (λ on. never_both (around p asked) (forest.through p known asked to_known on) g) in
            rw (off, away) refl

    pub placed_state : (place : Option ℕ) (denied : ℕ → Bool) (known : ℕ) → IsState around place denied → known_at around place denied known ≡ None
        → IsState around (Some known) denied
    placed_state place denied known state e = record {
      down = state.down;
      clear = λ p at. let same : known ≡ p = cc in let is = open_is place denied known e in subst (λ (n : ℕ). denied n ≡ false) same is.clear;
    }

    denied_cases : (s t : Bool) → (s || t) ≡ true → (s ≡ true) ⊎ (t ≡ true)
    denied_cases true t e = inl refl
    denied_cases false t e = inr e

    or_first : (s t : Bool) → s ≡ true → (s || t) ≡ true
    or_first s t e = rw e refl

    or_second : (s t : Bool) → t ≡ true → (s || t) ≡ true
    or_second true t e = refl
    or_second false t e = e

    or_none : (s t : Bool) → s ≡ false → t ≡ false → (s || t) ≡ false
    or_none s t e f = rw (e, f) refl

    pub denied_state : (place : Option ℕ) (denied : ℕ → Bool) (known : ℕ) → IsState around place denied → known_at around place denied known ≡ None
        → IsState around place (denied_too around denied known)
    denied_state place denied known state e = record {
      down = λ a b was on. elim (denied_cases (denied a) (around known a) was) [
        | inl before ↦ or_first (denied b) (around known b) (state.down a b before on)
        | inr under ↦ or_second (denied b) (around known b) (forest.through known a b under on)
      ];
      clear = λ p at. let is = open_is place denied known e in or_none (denied p) (around known p) (state.clear p at) (is.below p at);
    }
