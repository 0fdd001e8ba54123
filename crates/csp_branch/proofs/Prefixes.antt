-- In an order of lists, what begins with a list stands right behind it.
use Rattle.std.proofs.Common.{◌≡◌, ◌∙◌, refl, sym, ap, subst, true, false, List, [], ◌∷◌, ◌++◌}
use Rattle.std.specs.Cmp.{IsTotalOrder}
use Rattle.std.specs.Cmp.Lexicographic.{slice_cmp}
use Rattle.std.specs.Ordering.{ordering_then, ordering_reverse, is_gt}
use Rattle.std.specs.declared.cmp.Ordering.{Ordering}
use Rattle.std.specs.declared.cmp.Ordering.TheVariants.{Less, Equal, Greater}
use Rattle.csp_branch.specs.Prefix.{IsFrontOf}

module _ {X : Type 0} (R : X → X → Ordering) (total : IsTotalOrder R) (exact : (x y : X) → R x y ≡ Equal → x ≡ y) where
  itself : (x : X) → R x x ≡ Equal
  itself x = by (R x x) (total.antisymm x x)
    where
      by : (r : Ordering) → r ≡ ordering_reverse r → r ≡ Equal
      by Less e = cc
      by Equal e = refl
      by Greater e = cc

  pub front_is_low : (p r : List X) → is_gt (slice_cmp R p (p ++ r)) ≡ false
  front_is_low [] [] = refl
  front_is_low [] (x ∷ r) = refl
  front_is_low (x ∷ p) r = rw (itself x) (front_is_low p r)

  pub between : (p b r : List X) → is_gt (slice_cmp R p b) ≡ false → is_gt (slice_cmp R b (p ++ r)) ≡ false → IsFrontOf p b
  between [] b r low high = (b, refl)
  between (x ∷ p) [] r low high = cc
  between (x ∷ p) (y ∷ b) r low high = by (R x y) refl low (between p b r)
    where
      by : (o : Ordering) → R x y ≡ o → is_gt (ordering_then o (slice_cmp R p b)) ≡ false
          → (is_gt (slice_cmp R p b) ≡ false → is_gt (slice_cmp R b (p ++ r)) ≡ false → IsFrontOf p b) → IsFrontOf (x ∷ p) (y ∷ b)
      by Greater e h further = cc
      by Less e h further =
          let back : R y x ≡ Greater = total.antisymm y x ∙ ap ordering_reverse e in
          let up : true ≡ false = rw back at high in
          cc
      by Equal e h further =
          let same : x ≡ y = exact x y e in
          let back : R y x ≡ Equal = total.antisymm y x ∙ ap ordering_reverse e in
          let rest = further h (rw back at high) in
          (rest.0, subst (λ (z : X). y ∷ b ≡ z ∷ (p ++ rest.0)) (sym same) (ap (λ (l : List X). y ∷ l) rest.1))

  pub front_is_below : (p r : List X) (x : X) → slice_cmp R p (p ++ x ∷ r) ≡ Less
  front_is_below [] r x = refl
  front_is_below (y ∷ p) r x = rw (itself y) (front_is_below p r x)
