-- What holds of each item of a list that is made of pieces, and of each item of a piece.
use Rattle.std.proofs.Common.{◌≡◌, sym, subst, ℕ, zero, suc, ◌<◌, List, [], ◌∷◌, ◌++◌, map, length, length-append, get_or, Option, Some, None, All, IfSome, arith}
use Rattle.std.specs.List.{flat_map}
use Rattle.std.specs.Option.{option_to_list}
use Rattle.std.proofs.lemmas.List.{get_or_append_left}
use Rattle.std.proofs.lemmas.List.Elements.{All-append, All-cons, All-head, All-nil, All-tail}

module _ {A : Type 0} (P : A → Type 0) where
  pub front : (xs ys : List A) → All P (xs ++ ys) → All P xs
  front xs ys all k d h = subst P (get_or_append_left xs ys d k h) (all k d (omega (arith, length-append xs ys, h)))

  pub back : (xs ys : List A) → All P (xs ++ ys) → All P ys
  back [] ys all = all
  back (x ∷ xs) ys all = back xs ys (All-tail P x (xs ++ ys) all)

  pub in_option : (o : Option A) → All P (option_to_list o) → IfSome o P
  in_option None all = tt
  in_option (Some x) all = All-head P x [] all

  pub of_option : (o : Option A) → IfSome o P → All P (option_to_list o)
  of_option None is = All-nil P
  of_option (Some x) is = All-cons P x [] is (All-nil P)

  module _ {X : Type 0} where
    pub in_map : (f : X → A) (xs : List X) (i : ℕ) (x : X) → i < length xs → x ≡ get_or xs i x → All P (map f xs) → P (f x)
    in_map f [] i x h at all = absurd (omega (arith, h))
    in_map f (y ∷ ys) zero x h at all = subst (λ z. P (f z)) (sym at) (All-head P (f y) (map f ys) all)
    in_map f (y ∷ ys) (suc i) x h at all = in_map f ys i x (omega (arith, h)) at (All-tail P (f y) (map f ys) all)

    module _ (f : X → List A) where
      pub in_flat_map : (xs : List X) (i : ℕ) (x : X) → i < length xs → x ≡ get_or xs i x → All P (flat_map f xs) → All P (f x)
      in_flat_map [] i x h at all = absurd (omega (arith, h))
      in_flat_map (y ∷ ys) zero x h at all = subst (λ z. All P (f z)) (sym at) (front (f y) (flat_map f ys) all)
      in_flat_map (y ∷ ys) (suc i) x h at all = in_flat_map ys i x (omega (arith, h)) at (back (f y) (flat_map f ys) all)

      pub of_flat_map : (xs : List X) → All (λ x. All P (f x)) xs → All P (flat_map f xs)
      of_flat_map [] each = All-nil P
      of_flat_map (x ∷ xs) each =
          All-append P (f x) (flat_map f xs) (All-head (λ y. All P (f y)) x xs each) (of_flat_map xs (All-tail (λ y. All P (f y)) x xs each))
