-- The conjunctions of a list's sources, as far as a loop has come.
use Rattle.std.proofs.Common.{◌≡◌, ◌∙◌, sym, ap, refl, subst, ℕ, ◌+◌, ◌<◌, List, [], ◌∷◌, ◌++◌, length, map, take, get_or, Some, zero, suc}
use Rattle.std.specs.List.{AllZip, slice_get}
use Rattle.std.proofs.lemmas.List.{map_more}
use Rattle.std.proofs.lemmas.Option.{slice_get_read}
use Rattle.csp_model.specs.declared.source.Source.{Source}
use Rattle.csp_facts.specs.declared.atom.Atom.{Atom}
use Rattle.csp_formula.specs.Sentences.{Sentence, any_of}
use Rattle.csp_answer.specs.Asking.{AmountTo}
use Rattle.csp_answer.specs.declared.conjunction.Conjunction.{Conjunction}
use Rattle.csp_answer.proofs.Amounts.{one_more}

pub zipped_at : {A B : Type 0} (R : A → B → Type 0) (xs : List A) (ys : List B) (i : ℕ) (x : A) (y : B) → AllZip R xs ys
    → slice_get xs i ≡ Some x → slice_get ys i ≡ Some y → R x y
zipped_at R [] ys i x y all at by = absurd cc
zipped_at R (a ∷ xs) [] i x y all at by = absurd cc
zipped_at {A = A} {B = B} R (a ∷ xs) (b ∷ ys) zero x y all at by =
    let first : a ≡ x = cc in
    let second : b ≡ y = cc in
    subst (λ c. R c y) first (subst (R a) second all.0)
zipped_at R (a ∷ xs) (b ∷ ys) (suc i) x y all at by = zipped_at R xs ys i x y all.1 at by

-- R holds of the pair of this turn
pub at_turn : {A B : Type 0} (R : A → B → Type 0) (xs : List A) (ys : List B) (i : ℕ) (x : A) (y : B) → AllZip R xs ys
    → i < length xs → i < length ys → x ≡ get_or xs i x → y ≡ get_or ys i y → R x y
at_turn R xs ys i x y all within along at by =
    zipped_at R xs ys i x y all (slice_get_read xs (length xs) i x refl within at) (slice_get_read ys (length ys) i y refl along by)

module _ (atoms : List Atom) (says : Source → Sentence) (sources : List Source) where
  pub listed_more : (n i : ℕ) (s : Source) (made found now : List Conjunction) → n ≡ i + 1 → i < length sources → s ≡ get_or sources i s
      → AmountTo atoms (any_of (map says (take i sources))) made → AmountTo atoms (says s) found → now ≡ made ++ found
      → AmountTo atoms (any_of (map says (take n sources))) now
  listed_more n i s made found now long within at so_far one is =
      let more : map says (take n sources) ≡ map says (take i sources) ++ says s ∷ [] =
      ap (λ m. map says (take m sources)) long ∙ map_more says sources i s within ∙ ap (λ x. map says (take i sources) ++ says x ∷ []) (sym at) in
      subst (λ xs. AmountTo atoms (any_of xs) now) (sym more)
      (subst (AmountTo atoms (any_of (map says (take i sources) ++ says s ∷ []))) (sym is)
      (one_more atoms (map says (take i sources)) (says s) made found so_far one))
