-- The place of the directive that governs is where it stands.
use Rattle.std.proofs.Common.{◌≡◌, ℕ, Bool, false, List, [], ◌∷◌, map, cond, Option, Some, None, refl, sym, arith, subst, length, nat_lt, ◌≤◌, inl, inr}
use Rattle.std.specs.Prelude.{slice_get, option_and_then, position}
use Rattle.std.specs.List.{find}
use Rattle.std.specs.Option.{option_map}
use Rattle.std.specs.List.{position_or_len}
use Rattle.std.proofs.lemmas.Bool.{cond-true, cond-false, lt-ltb}
use Rattle.std.proofs.lemmas.Bool.Decides.{nat_tests}
use Rattle.std.proofs.lemmas.List.Folds.{find_at}
use Rattle.std.proofs.lemmas.Option.{slice_get_cases}
use Rattle.csp_model.specs.Governing.{Governor, governor_named, governor, place_of_name, governing_place, is_named, fallbacks}
use Rattle.csp_model.specs.Reading.{first_of}
use Rattle.csp_model.specs.Types.{Name, Directive, Policy}

-- the first item that passes, and its place: both are there or neither
abbrev Both : {X : Type 0} → List X → Option X → Option ℕ → Type 0
Both {X} xs None None = Unit {0}
Both {X} xs (Some x) (Some n) = slice_get xs n ≡ Some x
Both {X} xs x n = ⊥

not_below : (n m : ℕ) → m ≤ n → nat_lt n m ≡ false
not_below n m past = grind (arith, nat_tests)

at_place : {X : Type 0} (xs : List X) (n : ℕ) → Both xs (slice_get xs n) (cond (nat_lt n (length xs)) (Some n) None)
at_place xs n =
    elim (slice_get_cases xs n).1 [
      | inl (x, lt, some, is) ↦
          subst (λ o. Both xs o (cond (nat_lt n (length xs)) (Some n) None)) (sym some)
          (subst (λ o. Both xs (Some x) o) (sym (cond-true (nat_lt n (length xs)) (Some n) None (lt-ltb n (length xs) lt))) some)
      | inr (past, none) ↦
          subst (λ o. Both xs o (cond (nat_lt n (length xs)) (Some n) None)) (sym none)
          (subst (λ o. Both xs None o) (sym (cond-false (nat_lt n (length xs)) (Some n) None (not_below n (length xs) past))) tt)
    ]

found_at : {X : Type 0} (p : X → Bool) (xs : List X) → Both xs (find p xs) (position p xs)
found_at p xs = subst (λ o. Both xs o (position p xs)) (sym (find_at p xs)) (at_place xs (position_or_len p xs))

named_at : (ds : List Directive) (name : Name)
    → Both ds (option_map (λ (g : Governor). g.directive) (governor_named ds name)) (place_of_name ds name)
unfolding governor_named place_of_name
named_at ds name =
    subst (λ o. Both ds o (place_of_name ds name))
    (elim (find (is_named name) ds) as (λ o.
    o ≡ option_map (λ (g : Governor). g.directive) (option_map (λ d. record { name = name; directive = d }) o)) [
      | None ↦ refl
      | Some d ↦ refl
    ]) (found_at (is_named name) ds)

first_later : (ds : List Directive) (o : Option Governor) (n : Option ℕ) (os : List (Option Governor)) (ns : List (Option ℕ))
    → Both ds (option_map (λ (g : Governor). g.directive) o) n
    → option_map (λ (g : Governor). g.directive) (first_of os) ≡ option_and_then (slice_get ds) (first_of ns)
    → option_map (λ (g : Governor). g.directive) (first_of (o ∷ os)) ≡ option_and_then (slice_get ds) (first_of (n ∷ ns))
first_later ds None None os ns both later = later
first_later ds None (Some n) os ns both later = absurd both
first_later ds (Some g) None os ns both later = absurd both
first_later ds (Some g) (Some n) os ns both later = sym both

first_at : (ds : List Directive) (names : List Name)
    → option_map (λ (g : Governor). g.directive) (first_of (map (governor_named ds) names))
    ≡ option_and_then (slice_get ds) (first_of (map (place_of_name ds) names))
first_at ds [] = refl
first_at ds (name ∷ names) =
    first_later ds (governor_named ds name) (place_of_name ds name) (map (governor_named ds) names) (map (place_of_name ds) names)
    (named_at ds name) (first_at ds names)

pub governs_at : (p : Policy) (effective : Name)
    → option_map (λ (g : Governor). g.directive) (governor p effective)
    ≡ option_and_then (slice_get p.directives) (governing_place p effective)
governs_at p effective = first_at p.directives (fallbacks effective)
