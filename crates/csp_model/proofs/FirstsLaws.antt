-- Of directives of one name the first counts.
use Rattle.std.proofs.Common.{◌≡◌, ℕ, Bool, true, not, List, [], ◌∷◌, ◌++◌, refl, sym, ap, ◌∙◌, Any, cond, arith, inl, inr}
use Rattle.std.specs.List.{filter}
use Rattle.std.specs.Str.{bytes_eq}
use Rattle.std.proofs.lemmas.Grind.{common_steps}
use Rattle.std.proofs.lemmas.Slice.Eq.{bytes_eq-Decides}
use Rattle.csp_model.specs.Policies.{firsts}
use Rattle.csp_model.proofs.AnyCases.{Any-none, first_or_later}
use Rattle.csp_model.specs.Types.{Directive}

-- the directives of any other name
abbrev pub without : List ℕ → List Directive → List Directive
without name ds = filter (λ (d : Directive). not (bytes_eq d.name name)) ds

filter_twice : {X : Type 0} (p : X → Bool) (xs : List X) → filter p (filter p xs) ≡ filter p xs
filter_twice p [] = refl
filter_twice p (x ∷ xs) = grind (arith, common_steps, filter_twice p xs)

filter_swap : {X : Type 0} (p q : X → Bool) (xs : List X) → filter p (filter q xs) ≡ filter q (filter p xs)
filter_swap p q [] = refl
filter_swap p q (x ∷ xs) = grind (arith, common_steps, filter_swap p q xs)

-- without the directives of its name, a directive makes no difference
hidden : (name : List ℕ) (front back : List Directive) (e : Directive) → e.name ≡ name
    → without name (firsts (front ++ e ∷ back)) ≡ without name (firsts (front ++ back))
hidden name [] back e is =
    let same : bytes_eq e.name name ≡ true = (bytes_eq-Decides e.name name).1 is in
    ap (λ (b : Bool). cond (not b) (e ∷ without name (without e.name (firsts back))) (without name (without e.name (firsts back)))) same
    ∙ ap (λ (n : List ℕ). without name (without n (firsts back))) is
    ∙ filter_twice (λ (d : Directive). not (bytes_eq d.name name)) (firsts back)
hidden name (c ∷ front) back e is =
    let p = λ (d : Directive). not (bytes_eq d.name name) in
    let q = λ (d : Directive). not (bytes_eq d.name c.name) in
    let rest : without name (without c.name (firsts (front ++ e ∷ back))) ≡ without name (without c.name (firsts (front ++ back))) =
    filter_swap p q (firsts (front ++ e ∷ back)) ∙ ap (without c.name) (hidden name front back e is) ∙ filter_swap q p (firsts (front ++ back)) in
    ap (λ (ds : List Directive). cond (not (bytes_eq c.name name)) (c ∷ ds) ds) rest

abbrev pub HasName : Directive → Directive → Type 0
HasName e d = d.name ≡ e.name

pub repeated : (front back : List Directive) (e : Directive) → Any (HasName e) front → firsts (front ++ e ∷ back) ≡ firsts (front ++ back)
repeated [] back e some = absurd (Any-none (HasName e) some)
repeated (d ∷ front) back e some =
    elim (first_or_later (HasName e) d front some) [
      | inl here ↦ ap (λ (ds : List Directive). d ∷ ds) (hidden d.name front back e (sym here))
      | inr later ↦ ap (λ (ds : List Directive). d ∷ without d.name ds) (repeated front back e later)
    ]
