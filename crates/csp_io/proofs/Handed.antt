-- What a writer holds after what it took, and after a flush.
use Rattle.std.proofs.Common.{◌≡◌, ℕ, List, [], take, Option, Some, None, sym, subst, ◌∙◌, ap, append-nil}
use Rattle.std.specs.Io.KnownBytes.{Keeps, Appends}

pub appends_nothing : (old new : Option (List ℕ)) → Keeps old new → Appends old new []
appends_nothing None new kept = tt
appends_nothing (Some xs) None kept = absurd kept
appends_nothing (Some xs) (Some ys) kept = kept ∙ sym (append-nil xs)

pub then_kept : (old mid new : Option (List ℕ)) (bytes : List ℕ) → Appends old mid bytes → Keeps mid new → Appends old new bytes
then_kept None mid new bytes grew kept = tt
then_kept (Some xs) None new bytes grew kept = absurd grew
then_kept (Some xs) (Some ys) None bytes grew kept = absurd kept
then_kept (Some xs) (Some ys) (Some zs) bytes grew kept = kept ∙ grew

pub appends_none : (old new : Option (List ℕ)) (n : ℕ) (bytes : List ℕ) → Appends old new (take n bytes) → n ≡ 0 → Appends old new []
appends_none old new n bytes grew none = subst (λ (l : List ℕ). Appends old new l) (ap (λ (k : ℕ). take k bytes) none) grew
