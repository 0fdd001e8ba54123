use Rattle.std.proofs.Common.{arith, ◌≡◌, ◌∙◌, ◌+◌, ◌∷◌, suc, ℕ, List, Bor, drop, drop-cons, sym, ap, subst}
use Rattle.std.proofs.lemmas.Slice.Eq.{bytes_eq-Decides}
use Rattle.csp_order.specs.Within.{Narrows}
use Rattle.csp_order.proofs.Narrowing.{said, one_passed, one_taken}
use Rattle.csp_order.proofs.within.is_part.Goals as goal
use Rattle.csp_order.proofs.within.is_part.Goals.{in-Some+then-eq, in_default}

pub loop-other-preserved : goal.loop-other-preserved
loop-other-preserved c says n =
    let i : ℕ = c.loop-other.other-index in
    let others : List (List ℕ) = c.args.others.now in
    let other : List ℕ = c.other-item.result in
    let rest : List (List ℕ) = c.loop-other.rest.now in
    let later : List (List ℕ) = drop (i + 1) others in
    let next : suc i ≡ i + 1 = omega arith in
    let left : drop i others ≡ other ∷ later =
    drop-cons others i other c.loop-other-test.true
    ∙ ap (λ (t : List ℕ). t ∷ drop (suc i) others) (sym c.other-item.is)
    ∙ ap (λ (k : ℕ). other ∷ drop k others) next in
    let step : Narrows (said says rest) (said says (drop i others)) = elim c.match-split_first.branch [
      | in-Some+then-eq w ↦
          let token : List ℕ = w.in-Some.token.now in
          let behind : List (List ℕ) = w.in-Some.behind.now in
          let same : w.as_str.result.now ≡ w.as_str-in-loop-other.result.now =
          (bytes_eq-Decides w.as_str.result.now w.as_str-in-loop-other.result.now).0 (sym w.eq.ensures ∙ w.if-eq.true) in
          let here : Narrows (said says behind) (said says later) =
          subst (λ (b : Bor (List (List ℕ))). Narrows (said says b.now) (said says later)) w.rest-is n in
          one_taken says token other behind later (drop i others) rest w.in-Some.ensures.cases.0 left
          (sym w.as_str.ensures.text ∙ same ∙ w.as_str-in-loop-other.ensures.text) here
      | in_default w ↦
          let here : Narrows (said says rest) (said says later) =
          subst (λ (b : Bor (List (List ℕ))). Narrows (said says b.now) (said says later)) w.rest-is n in
          one_passed says other later (drop i others) rest left here
    ] in
    c.loop-other.invariant says step
