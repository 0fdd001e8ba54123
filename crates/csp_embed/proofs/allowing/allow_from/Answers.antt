use Rattle.std.proofs.Common.{arith, ◌≡◌, ◌∙◌, sym, ap, subst, refl, List, [], ◌∷◌, length, Bool, false, Bor, ℕ, vec_len, Result, Ok, IfOk, IsTrue, ◌↔◌}
use Rattle.std.proofs.lemmas.Bool.Decides.{Decides-eqb}
use Rattle.std.proofs.lemmas.Bool.{false≢true}
use Rattle.csp_embed.specs.AllowFrom.{allow_from_values}
use Rattle.csp_embed.proofs.OnlyOne.{none_stands, nothing_stands}
use Rattle.csp_embed.proofs.allowing.allow_from.Goals as goal
use Rattle.csp_embed.proofs.allowing.allow_from.Goals.{in_default, in_default-2}

refused : {E : Type 0} (r : Result Bool E) (P : Type 0) → r ≡ Ok false → (P → ⊥) → IfOk r (λ allowed. IsTrue allowed ↔ P)
refused {E = E} r P is none =
    subst (λ (r : Result Bool E). IfOk r (λ allowed. IsTrue allowed ↔ P)) (sym is)
    (λ h. absurd (false≢true h), λ p. absurd (none p))

empty_of : (values : List (Bor (List ℕ))) → length values ≡ 0 → values ≡ []
empty_of [] h = refl
empty_of (value ∷ values) h = absurd (omega arith)

pub returns : goal.returns
returns c =
    let old = c.in_ok-values.values in
    let new = c.pop.new.self in
    let all = allow_from_values c.args.bytes.now in
    elim c.match-pop.branch [
      | in_default-2 w ↦ refused c.match-pop.result _ w.result-is
          (none_stands old.items new.items w.in-Some.value all c.args.embedder.now w.in-Some.ensures.items
          (λ e. let zero : vec_len new ≡ 0 = omega (arith, new.ok.0, ap length e) in
          false≢true (sym w.if-is_empty.false ∙ w.is_empty.ensures ∙ (Decides-eqb (vec_len new) 0).1 zero))
          c.in_ok-values.ensures)
      | in_default w ↦ refused c.match-pop.result _ w.result-is
          (nothing_stands old.items all c.args.embedder.now
          (empty_of old.items (let none = rw w.in_default.is at c.pop.ensures.cases in omega (arith, old.ok.0, none.0)))
          c.in_ok-values.ensures)
    ]
