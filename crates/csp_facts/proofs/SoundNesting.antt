-- Two ends of one list are nested, and so are two fronts: so are the domains under two suffixes, and the paths beyond two fronts.
use Rattle.std.proofs.Common.{◌≡◌, ◌≢◌, ℕ, List, [], ◌∷◌, ◌++◌, refl, sym, ap, ◌∙◌, append_assoc, ◌⊎◌, inl, inr}
use Rattle.csp_model.specs.Ascii.{code}
use Rattle.csp_model.specs.Matching.{IsDomainHost, IsHostUnder, PathMatches}
use Rattle.csp_model.specs.declared.source.PathPart.TheVariants.{Prefix}
use Rattle.csp_model.specs.declared.url.Host.{Host}
use Rattle.csp_model.specs.declared.url.Host.TheVariants.{Domain, Address}
use Rattle.csp_facts.proofs.TableTests.{IsWithin}

-- Lists

module _ {X : Type 0} where
  ends_nest : (f g x y : List X) → f ++ x ≡ g ++ y → ((front : List X) × (x ≡ front ++ y)) ⊎ ((front : List X) × (y ≡ front ++ x))
  ends_nest [] g x y e = inl (g, e)
  ends_nest (a ∷ f) [] x y e = inr (a ∷ f, sym e)
  ends_nest (a ∷ f) (b ∷ g) x y e = ends_nest f g x y cc

  fronts_nest : (x y f g : List X) → x ++ f ≡ y ++ g → ((rest : List X) × (x ≡ y ++ rest)) ⊎ ((rest : List X) × (y ≡ x ++ rest))
  fronts_nest [] y f g e = inr (y, refl)
  fronts_nest (a ∷ x) [] f g e = inl (a ∷ x, refl)
  fronts_nest (a ∷ x) (b ∷ y) f g e =
      let heads : a ≡ b = cc in
      elim (fronts_nest x y f g cc) [ inl (rest, under) ↦ inl (rest, cc) | inr (rest, under) ↦ inr (rest, cc) ]

  append≢nil : (rest some : List X) → some ≢ [] → rest ++ some ≢ []
  append≢nil [] some h = h
  append≢nil (a ∷ rest) some h = λ e. cc

-- Hosts

-- what lies under a suffix lies under those that the suffix lies within
pub under_through : (inner outer : List ℕ) (host : Host) → IsWithin inner outer → IsHostUnder host inner → IsHostUnder host outer
under_through inner outer (Domain text) (front, within) (start, under) =
    (start ++ front, under ∙ ap (λ tail. start ++ tail) within ∙ sym (append_assoc start front (code "." ∷ outer)))
under_through inner outer (Address text) within under = under

-- a host lies under two suffixes only where one of them lies within the other
pub under_both : (s t : List ℕ) (host : Host) → IsHostUnder host s → IsHostUnder host t → IsWithin s t ⊎ IsWithin t s
under_both s t (Domain text) (f, first) (g, second) = ends_nest f g (code "." ∷ s) (code "." ∷ t) (sym first ∙ second)
under_both s t (Address text) first second = absurd first

pub under_is_domain : (suffix : List ℕ) (host : Host) → IsHostUnder host suffix → IsDomainHost host
under_is_domain suffix (Domain text) under = tt
under_is_domain suffix (Address text) under = under

-- Paths

-- a path that begins with some pieces, and has more, begins with those that these begin with
pub beyond_through : (inner outer path : List (List ℕ)) → ((rest : List (List ℕ)) × (inner ≡ outer ++ rest))
    → PathMatches (Prefix inner) path → PathMatches (Prefix outer) path
beyond_through inner outer path (rest, begins) (end, some, beyond) =
    (rest ++ end, append≢nil rest end some, beyond ∙ ap (λ front. front ++ end) begins ∙ append_assoc outer rest end)

-- a path begins with two lists of pieces only where one of them begins with the other
pub beyond_both : (p q path : List (List ℕ)) → PathMatches (Prefix p) path → PathMatches (Prefix q) path
    → ((rest : List (List ℕ)) × (p ≡ q ++ rest)) ⊎ ((rest : List (List ℕ)) × (q ≡ p ++ rest))
beyond_both p q path (f, _, first) (g, _, second) = fronts_nest p q f g (sym first ∙ second)
