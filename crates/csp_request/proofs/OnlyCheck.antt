-- A list of checks has one alone, or another count, as taking the last one off shows.
use Rattle.std.proofs.Common.{◌≡◌, List, [], ◌∷◌, ◌++◌, Err, refl}
use Rattle.csp_model.specs.declared.check.Check.{Check}
use Rattle.csp_request.specs.Requests.{only_check}
use Rattle.csp_request.specs.declared.error.CheckError.TheVariants.{NotOneCheck}

pub several : (front : List Check) (last : Check) → (front ≡ [] → ⊥) → only_check (front ++ last ∷ []) ≡ Err NotOneCheck
several [] last some = absurd (some refl)
several (first ∷ []) last some = refl
several (first ∷ second ∷ front) last some = refl
