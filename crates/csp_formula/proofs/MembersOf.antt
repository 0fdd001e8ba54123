-- Hashes of lists, by the test whether a list has a hash.
use Rattle.std.proofs.Common.{◌≡◌, ◌∙◌, sym, ap, refl, Bool, true, false, ◌&&◌, ◌||◌, List, [], ◌∷◌, filter, inl, inr, cond}
use Rattle.std.specs.List.{list_any, list_all, filter_map}
use Rattle.std.proofs.lemmas.Bool.{false≢true, and_from, and_parts, or_cases, or_left, or_right}
use Rattle.csp_model.proofs.EqualityDecided.{same_hash_decides}
use Rattle.csp_model.specs.DecideEquality.{same_hash}
use Rattle.csp_model.specs.DecideTokens.{is_hash}
use Rattle.csp_model.specs.declared.source.Hash.{Hash}
use Rattle.csp_model.specs.declared.source.Source.{Source}
use Rattle.csp_model.specs.declared.source.Source.TheVariants as source
use Rattle.csp_facts.specs.Holding.{has_hash}
use Rattle.csp_facts.specs.Vocabulary.{hash_of_source}

-- the hash-sources of a list
pub own_has : (sources : List Source) (h : Hash) → list_any (is_hash h) sources ≡ has_hash (filter_map hash_of_source sources) h
own_has [] h = refl
own_has (source.Digest hash ∷ sources) h = ap (λ b. same_hash hash h || b) (own_has sources h)
own_has (other ∷ sources) h = own_has sources h

module _ (p : Hash → Bool) where
  same_by : (x h : Hash) (b : Bool) → same_hash x h ≡ b → (b && p x) ≡ (b && p h)
  same_by x h true e = ap p ((same_hash_decides x h).0 e)
  same_by x h false e = refl

  kept : (a b c d r : Bool) → (a && c) ≡ (a && d) → r ≡ (b && d) → cond c (a || r) r ≡ ((a || b) && d)
  kept true b true true r e f = refl
  kept true b true false r e f = absurd (false≢true (sym e))
  kept true b false true r e f = absurd (false≢true e)
  kept true true false false r e f = f
  kept true false false false r e f = f
  kept false b true d r e f = f
  kept false b false d r e f = f

  has_at : (h x : Hash) (xs : List Hash) (b : Bool) → has_hash (cond b (x ∷ filter p xs) (filter p xs)) h ≡ cond b (same_hash x h || has_hash (filter p xs) h) (has_hash (filter p xs) h)
  has_at h x xs true = refl
  has_at h x xs false = refl

  pub filter_has : (xs : List Hash) (h : Hash) → has_hash (filter p xs) h ≡ (has_hash xs h && p h)
  filter_has [] h = refl
  filter_has (x ∷ xs) h =
      has_at h x xs (p x)
      ∙ kept (same_hash x h) (has_hash xs h) (p x) (p h) (has_hash (filter p xs) h) (same_by x h (same_hash x h) refl) (filter_has xs h)

  -- what passes at each hash that the list has
  pub all_from : (xs : List Hash) → ((h : Hash) → has_hash xs h ≡ true → p h ≡ true) → list_all p xs ≡ true
  all_from [] each = refl
  all_from (x ∷ xs) each =
      and_from (p x) (list_all p xs) (each x (or_left (same_hash x x) (has_hash xs x) ((same_hash_decides x x).1 refl)))
      (all_from xs (λ h has. each h (or_right (same_hash x h) (has_hash xs h) has)))

  pub all_at : (xs : List Hash) (h : Hash) → list_all p xs ≡ true → has_hash xs h ≡ true → p h ≡ true
  all_at [] h all has = absurd (false≢true has)
  all_at (x ∷ xs) h all has =
      let parts = and_parts (p x) (list_all p xs) all in
      elim (or_cases (same_hash x h) (has_hash xs h) has) [
        | inl same ↦ ap p (sym ((same_hash_decides x h).0 same)) ∙ parts.0
        | inr later ↦ all_at xs h parts.1 later
      ]

  pub any_from : (xs : List Hash) (h : Hash) → has_hash xs h ≡ true → p h ≡ true → list_any p xs ≡ true
  any_from [] h has so = absurd (false≢true has)
  any_from (x ∷ xs) h has so = elim (or_cases (same_hash x h) (has_hash xs h) has) [
    | inl same ↦ or_left (p x) (list_any p xs) (ap p ((same_hash_decides x h).0 same) ∙ so)
    | inr later ↦ or_right (p x) (list_any p xs) (any_from xs h later so)
  ]

  pub any_at : (xs : List Hash) → list_any p xs ≡ true → (h : Hash) × (has_hash xs h ≡ true) × (p h ≡ true)
  any_at [] some = absurd (false≢true some)
  any_at (x ∷ xs) some = elim (or_cases (p x) (list_any p xs) some) [
    | inl here ↦ (x, or_left (same_hash x x) (has_hash xs x) ((same_hash_decides x x).1 refl), here)
    | inr later ↦ let (h, has, so) = any_at xs later in (h, or_right (same_hash x h) (has_hash xs h) has, so)
  ]
