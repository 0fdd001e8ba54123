-- Lists: what holds of each item.
use Rattle.std.proofs.Common.{◌≡◌, ℕ, subst, List, [], ◌∷◌, All, Some, slice_get}
use Rattle.std.specs.List.{flat_map}
use Rattle.std.proofs.lemmas.Option.{slice_get_within, get_or_from_slice_get}
use Rattle.std.proofs.lemmas.List.Elements.{All-nil, All-head, All-tail, All-append, All-get_or}

module _ {A B : Type 0} (P : B → Type 0) (f : A → List B) where
  pub all_flat_map : (xs : List A) → All (λ x. All P (f x)) xs → All P (flat_map f xs)
  all_flat_map [] each = All-nil P
  all_flat_map (x ∷ xs) each =
      All-append P (f x) (flat_map f xs) (All-head (λ x. All P (f x)) x xs each) (all_flat_map xs (All-tail (λ x. All P (f x)) x xs each))

pub all_at : {A : Type 0} (P : A → Type 0) (xs : List A) (i : ℕ) (x : A) → All P xs → slice_get xs i ≡ Some x → P x
all_at P xs i x all is = subst P (get_or_from_slice_get xs i x x is) (All-get_or P xs i x (slice_get_within xs i x is) all)
