-- The laws of the connectives in three values.
use Rattle.std.proofs.Common.{◌≡◌, Bool, true, false, Option, Some, None, refl}
use Rattle.csp_formula.specs.Surely.{maybe_and, maybe_or}

pub maybe_and_assoc : (x y z : Option Bool) → maybe_and (maybe_and x y) z ≡ maybe_and x (maybe_and y z)
maybe_and_assoc (Some false) y z = refl
maybe_and_assoc (Some true) y z = refl
maybe_and_assoc None (Some false) z = refl
maybe_and_assoc None (Some true) z = refl
maybe_and_assoc None None (Some false) = refl
maybe_and_assoc None None (Some true) = refl
maybe_and_assoc None None None = refl

pub maybe_or_assoc : (x y z : Option Bool) → maybe_or (maybe_or x y) z ≡ maybe_or x (maybe_or y z)
maybe_or_assoc (Some true) y z = refl
maybe_or_assoc (Some false) y z = refl
maybe_or_assoc None (Some true) z = refl
maybe_or_assoc None (Some false) z = refl
maybe_or_assoc None None (Some true) = refl
maybe_or_assoc None None (Some false) = refl
maybe_or_assoc None None None = refl
