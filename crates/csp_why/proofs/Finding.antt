-- The first item that passes a test, its place, and the first of several answers.
use Rattle.std.proofs.Common.{◌≡◌, ℕ, zero, suc, Bool, true, false, ◌||◌, cond, List, [], ◌∷◌, length, nat_lt, Option, Some, None, refl, sym, ◌∙◌, subst, inl, inr}
use Rattle.std.specs.Prelude.{slice_get, position, is_some}
use Rattle.std.specs.List.{find, list_any, position_or_len, filter}
use Rattle.std.proofs.lemmas.Bool.{cases_Bool, cond-true, cond-false, lt-ltb, le-ltb, or_right, or_left, or_cases}
use Rattle.std.proofs.lemmas.List.Folds.{find_at}
use Rattle.std.proofs.lemmas.Option.{slice_get_cases}
use Rattle.csp_model.specs.Reading.{first_of}

module _ {X : Type 0} (p : X → Bool) where
  pub find_passes : (xs : List X) (x : X) → find p xs ≡ Some x → p x ≡ true
  find_passes [] x found = absurd (let h : None ≡ Some x = found in let no : ⊥ = cc in no)
  find_passes (y ∷ xs) x found =
      elim (cases_Bool (p y)) [
        | inl is ↦ let same : Some y ≡ Some x = sym (cond-true (p y) (Some y) (find p xs) is) ∙ found in
            let e : y ≡ x = cc in subst (λ z. p z ≡ true) e is
        | inr is ↦ find_passes xs x (sym (cond-false (p y) (Some y) (find p xs) is) ∙ found)
      ]

  pub find_any : (xs : List X) → is_some (find p xs) ≡ list_any p xs
  find_any [] = refl
  find_any (x ∷ xs) = elim (p x) as (λ b. is_some (cond b (Some x) (find p xs)) ≡ (b || list_any p xs)) [
    | true ↦ refl
    | false ↦ find_any xs
  ]

  pub any_at : (xs : List X) (i : ℕ) (x : X) → slice_get xs i ≡ Some x → p x ≡ true → list_any p xs ≡ true
  any_at [] i x here passes = absurd (let h : None ≡ Some x = here in let no : ⊥ = cc in no)
  any_at (y ∷ xs) zero x here passes =
      let h : Some y ≡ Some x = here in let e : x ≡ y = cc in
      or_left (p y) (list_any p xs) (subst (λ z. p z ≡ true) e passes)
  any_at (y ∷ xs) (suc i) x here passes = or_right (p y) (list_any p xs) (any_at xs i x here passes)

  -- the item at the place that is found
  pub record Placed (xs : List X) (i : ℕ) : Type 0 where
    pub item : X
    pub here : slice_get xs i ≡ Some item
    pub passes : p item ≡ true

  abbrev IsPlaced : List X → Option ℕ → Option X → Type 0
  IsPlaced xs None None = Unit {0}
  IsPlaced xs (Some i) (Some x) = slice_get xs i ≡ Some x
  IsPlaced xs i x = ⊥

  placed_at : (xs : List X) → IsPlaced xs (position p xs) (find p xs)
  placed_at xs =
      let n = position_or_len p xs in
      elim (slice_get_cases xs n).1 [
        | inl (x, lt, some, is) ↦
            subst (λ o. IsPlaced xs o (find p xs)) (sym (cond-true (nat_lt n (length xs)) (Some n) None (lt-ltb n (length xs) lt)))
            (subst (λ o. IsPlaced xs (Some n) o) (sym (find_at p xs ∙ some)) some)
        | inr (past, none) ↦
            subst (λ o. IsPlaced xs o (find p xs)) (sym (cond-false (nat_lt n (length xs)) (Some n) None (le-ltb n (length xs) past)))
            (subst (λ o. IsPlaced xs None o) (sym (find_at p xs ∙ none)) tt)
      ]

  some_placed : (xs : List X) (i : Option ℕ) (x : Option X) → IsPlaced xs i x → is_some i ≡ is_some x
  some_placed xs None None placed = refl
  some_placed xs (Some i) (Some x) placed = refl
  some_placed xs None (Some x) placed = absurd placed
  some_placed xs (Some i) None placed = absurd placed

  pub position_any : (xs : List X) → is_some (position p xs) ≡ list_any p xs
  position_any xs = some_placed xs (position p xs) (find p xs) (placed_at xs) ∙ find_any xs

  of_placed : (xs : List X) (i : ℕ) (o : Option X) → find p xs ≡ o → IsPlaced xs (Some i) o → Placed xs i
  of_placed xs i (Some x) found placed = record { item = x; here = placed; passes = find_passes xs x found }
  of_placed xs i None found placed = absurd placed

  pub position_placed : (xs : List X) (i : ℕ) → position p xs ≡ Some i → Placed xs i
  position_placed xs i found =
      of_placed xs i (find p xs) refl (subst (λ o. IsPlaced xs o (find p xs)) found (placed_at xs))

-- The first of several

module _ {A : Type 0} where
  pub first_some : (o : Option A) (os : List (Option A)) → is_some (first_of (o ∷ os)) ≡ (is_some o || is_some (first_of os))
  first_some None os = refl
  first_some (Some a) os = refl

  -- P of each that is there
  abbrev pub Each : (A → Type 0) → List (Option A) → Type 0
  Each P [] = Unit {0}
  Each P (o ∷ os) = ((a : A) → o ≡ Some a → P a) × Each P os

  pub first_holds : (P : A → Type 0) (os : List (Option A)) (a : A) → Each P os → first_of os ≡ Some a → P a
  first_holds P [] a each found = absurd (let h : None ≡ Some a = found in let no : ⊥ = cc in no)
  first_holds P (None ∷ os) a each found = first_holds P os a each.1 found
  first_holds P (Some b ∷ os) a each found = each.0 a found

module _ {X : Type 0} (p q : X → Bool) where
  pub any_more : (xs : List X) → ((x : X) → p x ≡ true → q x ≡ true) → list_any p xs ≡ true → list_any q xs ≡ true
  any_more [] more some = some
  any_more (x ∷ xs) more some =
      elim (or_cases (p x) (list_any p xs) some) [
        | inl here ↦ or_left (q x) (list_any q xs) (more x here)
        | inr later ↦ or_right (q x) (list_any q xs) (any_more xs more later)
      ]

-- Lists with a part taken out

module _ {X : Type 0} (p keep : X → Bool) where
  -- what passes and is kept
  pub any_kept : (xs : List X) → ((x : X) → p x ≡ true → keep x ≡ true) → list_any p xs ≡ true → list_any p (filter keep xs) ≡ true
  any_kept [] all some = some
  any_kept (x ∷ xs) all some =
      elim (or_cases (p x) (list_any p xs) some) [
        | inl here ↦ rw (cond-true (keep x) (x ∷ filter keep xs) (filter keep xs) (all x here)) (or_left (p x) (list_any p (filter keep xs)) here)
        | inr later ↦
            let rest = any_kept xs all later in
            elim (cases_Bool (keep x)) [
              | inl kept ↦ rw (cond-true (keep x) (x ∷ filter keep xs) (filter keep xs) kept) (or_right (p x) (list_any p (filter keep xs)) rest)
              | inr gone ↦ rw (cond-false (keep x) (x ∷ filter keep xs) (filter keep xs) gone) rest
            ]
      ]

  -- what passes only where nothing is kept
  pub none_kept : (xs : List X) → ((x : X) → keep x ≡ true → p x ≡ false) → list_any p (filter keep xs) ≡ false
  none_kept [] fails = refl
  none_kept (x ∷ xs) fails =
      elim (cases_Bool (keep x)) [
        | inl kept ↦ rw (cond-true (keep x) (x ∷ filter keep xs) (filter keep xs) kept) (rw (fails x kept) (none_kept xs fails))
        | inr gone ↦ rw (cond-false (keep x) (x ∷ filter keep xs) (filter keep xs) gone) (none_kept xs fails)
      ]
