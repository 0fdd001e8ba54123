-- What belongs to the shapes whose numbers were passed stands at their places.
use Rattle.std.proofs.Common.{◌≡◌, ◌∙◌, refl, sym, ap, subst, ℕ, ◌+◌, ◌<◌, ◌≤◌, zero, suc, Bool, true, false, nat_lt, List, [], ◌∷◌, ◌++◌, length, Option, Some, None, arith, length-append}
use Rattle.std.specs.Prelude.{IsTrue, MatchOption, is_some, slice_get}
use Rattle.std.specs.Option.{option_and_then}
use Rattle.std.proofs.lemmas.Bool.{false≢true}
use Rattle.std.proofs.lemmas.Bool.Decides.{nat_tests}
use Rattle.csp_facts.specs.Numbers.{number, shape_count}
use Rattle.csp_facts.specs.Shapes.{is_shape}
use Rattle.csp_facts.specs.declared.shape.Shape.{Shape}
use Rattle.csp_answer.specs.Growing.{Extends, StandsAt}

-- Places in lists that grow

pub get_front : {X : Type 0} (xs ys : List X) (k : ℕ) (x : X) → slice_get xs k ≡ Some x → slice_get (xs ++ ys) k ≡ Some x
get_front [] ys k x e = cc
get_front (y ∷ xs) ys zero x e = e
get_front (y ∷ xs) ys (suc k) x e = get_front xs ys k x e

pub get_last : {X : Type 0} (xs : List X) (x : X) → slice_get (xs ++ x ∷ []) (length xs) ≡ Some x
get_last [] x = refl
get_last (y ∷ xs) x = get_last xs x

-- What stands at a place of places

module _ {X : Type 0} where
  abbrev At : List X → List ℕ → ℕ → (X → Type 0) → Type 0
  At things places k P = MatchOption (option_and_then (slice_get things) (slice_get places k)) ⊥ P

  module _ (P : X → Type 0) where
    abbrev Found : Option X → Type 0
    Found o = MatchOption o ⊥ P

    pub kept_thing : (things more : List X) (p : ℕ) (o : Option X) → slice_get things p ≡ o → Found o → Found (slice_get (things ++ more) p)
    kept_thing things more p None e h = absurd h
    kept_thing things more p (Some x) e h = subst Found (sym (get_front things more p x e)) h

    pub extended : (old new : List X) (p : ℕ) → Extends old new → StandsAt old P p → StandsAt new P p
    extended old new p extends h =
        subst (λ (xs : List X). StandsAt xs P p) (sym extends.1) (kept_thing old extends.0 p (slice_get old p) refl h)

    pub new_thing : (things : List X) (x : X) → P x → StandsAt (things ++ x ∷ []) P (length things)
    new_thing things x h = subst Found (sym (get_last things x)) h

    kept_at : (things more : List X) (places : List ℕ) (place k : ℕ) (o : Option ℕ) → slice_get places k ≡ o
        → Found (option_and_then (slice_get things) o) → At (things ++ more) (places ++ place ∷ []) k P
    kept_at things more places place k None e h = absurd h
    kept_at things more places place k (Some p) e h =
        subst (λ (o : Option ℕ). Found (option_and_then (slice_get (things ++ more)) o)) (sym (get_front places (place ∷ []) k p e))
        (kept_thing things more p (slice_get things p) refl h)

    new_at : (things : List X) (places : List ℕ) (place : ℕ) → Found (slice_get things place) → At things (places ++ place ∷ []) (length places) P
    new_at things places place h = subst (λ (o : Option ℕ). Found (option_and_then (slice_get things) o)) (sym (get_last places place)) h

-- The shapes so far, of which P tells what belongs to each

module _ {X : Type 0} (P : Shape → X → Type 0) where
  pub record SoFar (things : List X) (places : List ℕ) (n : ℕ) : Type 0 where
    pub count : length places ≡ n
    pub each : (kind : Shape) → IsTrue (is_shape kind) → number kind < n → At things places (number kind) (P kind)

  more_at : (things longer : List X) (places : List ℕ) (place n : ℕ) (shape : Shape)
      → ((a b : Shape) → IsTrue (is_shape a) → IsTrue (is_shape b) → number a ≡ number b → a ≡ b)
      → SoFar things places n → IsTrue (is_shape shape) → number shape ≡ n
      → Extends things longer → StandsAt longer (P shape) place
      → (kind : Shape) → IsTrue (is_shape kind) → number kind < n + 1
      → At longer (places ++ place ∷ []) (number kind) (P kind)
  more_at things longer places place n shape one so_far is at_n extends here_at kind listed below = by_test (nat_lt (number kind) n) refl
    where
      by_test : (t : Bool) → nat_lt (number kind) n ≡ t → At longer (places ++ place ∷ []) (number kind) (P kind)
      by_test true e =
          let lower : number kind < n = grind (arith, nat_tests) in
          subst (λ (xs : List X). At xs (places ++ place ∷ []) (number kind) (P kind)) (sym extends.1)
          (kept_at (P kind) things extends.0 places place (number kind) (slice_get places (number kind)) refl (so_far.each kind listed lower))
      by_test false e =
          let level : number kind ≡ n = grind (arith, nat_tests) in
          let same : kind ≡ shape = one kind shape listed is (level ∙ sym at_n) in
          let new = new_at (P shape) longer places place here_at in
          let here : length places ≡ number shape = so_far.count ∙ sym at_n in
          subst (λ (s : Shape). At longer (places ++ place ∷ []) (number s) (P s)) (sym same)
          (subst (λ (k : ℕ). At longer (places ++ place ∷ []) k (P shape)) here new)

  pub more : (things longer : List X) (places others : List ℕ) (place n : ℕ) (shape : Shape)
      → ((a b : Shape) → IsTrue (is_shape a) → IsTrue (is_shape b) → number a ≡ number b → a ≡ b)
      → SoFar things places n → IsTrue (is_shape shape) → number shape ≡ n
      → Extends things longer → StandsAt longer (P shape) place → others ≡ places ++ place ∷ []
      → SoFar longer others (n + 1)
  more things longer places others place n shape one so_far is at_n extends here_at pushed = record {
    count = ap length pushed ∙ length-append places (place ∷ []) ∙ ap (λ (m : ℕ). m + 1) so_far.count;
    each = λ kind listed below. subst (λ (ps : List ℕ). At longer ps (number kind) (P kind)) (sym pushed)
        (more_at things longer places place n shape one so_far is at_n extends here_at kind listed below);
  }

  pub none : SoFar [] [] 0
  none = record { count = refl; each = λ kind listed below. absurd (omega arith) }

abbrev HasNumber : ℕ → Option Shape → Type 0
HasNumber n o = MatchOption o (shape_count ≤ n) (λ s. IsTrue (is_shape s) × (number s ≡ n))

pub none_there : (n : ℕ) (o : Option Shape) → HasNumber n o → is_some o ≡ false → shape_count ≤ n
none_there n None has e = has
none_there n (Some s) has e = absurd (false≢true (sym e))
