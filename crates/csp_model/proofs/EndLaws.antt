-- The tests of how domains end and how paths begin decide what they say.
use Rattle.std.proofs.Common.{◌≡◌, ◌≢◌, ◌<◌, ℕ, List, [], ◌∷◌, ◌++◌, ◌-◌, length, take, drop, refl, ap, sym, subst, arith, length-append, nat_lt, nat_eq}
use Rattle.std.specs.Bool.{Decides}
use Rattle.std.proofs.lemmas.Slice.Eq.{starts_is, ends_is, bytes_eq-Decides}
use Rattle.std.proofs.lemmas.Bool.Decides.{Decides-eqb, Decides-ltb, Decides-and, Decides-like}
use Rattle.std.specs.List.{ends_with}
use Rattle.csp_model.specs.Ascii.{code}
use Rattle.csp_model.specs.DecideEnds.{is_subdomain, begins_with, goes_beyond}

pub ends_Decides : (text tail : List ℕ) → Decides (ends_with nat_eq text tail) ((front : List ℕ) × (text ≡ front ++ tail))
ends_Decides text tail = let t = ends_is Decides-eqb text tail (ends_with nat_eq text tail) refl in (λ e. (take (length text - length tail) text, t.0 e), λ h. t.1 h.0 h.1)

pub subdomain_Decides : (domain suffix : List ℕ) → Decides (is_subdomain domain suffix) ((front : List ℕ) × (domain ≡ front ++ code "." ∷ suffix))
subdomain_Decides domain suffix = ends_Decides domain (code "." ∷ suffix)

pub begins_Decides : (path front : List (List ℕ)) → Decides (begins_with path front) ((rest : List (List ℕ)) × (path ≡ front ++ rest))
begins_Decides path front = let t = starts_is bytes_eq-Decides path front (begins_with path front) refl in (λ e. (drop (length front) path, t.0 e), λ h. t.1 h.0 h.1)

pub longer : (front rest : List (List ℕ)) → length front < length (front ++ rest) → rest ≢ []
longer front rest h e = absurd (omega (arith, length-append front rest, ap length e))

shorter : (front rest : List (List ℕ)) → rest ≢ [] → length front < length (front ++ rest)
shorter front [] some = absurd (some refl)
shorter front (r ∷ rest) some = omega (arith, length-append front (r ∷ rest))

pub beyond_Decides : (path front : List (List ℕ)) → Decides (goes_beyond path front) ((rest : List (List ℕ)) × (rest ≢ []) × (path ≡ front ++ rest))
beyond_Decides path front = Decides-like (goes_beyond path front)
    (λ (lt, (rest, e)). (rest, longer front rest (subst (λ (xs : List (List ℕ)). length front < length xs) e lt), e))
    (λ (rest, some, e). (subst (λ (xs : List (List ℕ)). length front < length xs) (sym e) (shorter front rest some), (rest, e)))
    (Decides-and (nat_lt (length front) (length path)) (begins_with path front) (Decides-ltb (length front) (length path)) (begins_Decides path front))
