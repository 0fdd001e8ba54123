use Rattle.std.proofs.Common.{◌≡◌, ◌≤◌, ◌+◌, ◌∙◌, Any, Some, inl, inr, length, subst, arith}
use Rattle.std.proofs.lemmas.Bool.{cases_lt}
use Rattle.csp_pick.specs.Fresh.{numbered}
use Rattle.csp_pick.proofs.Numbered.{numbered_apart}
use Rattle.csp_pick.proofs.Pigeonhole.{no_more_items}
use Rattle.csp_pick.proofs.fresh.fresh_text.Goals as goal

pub loop-number-preserved : goal.loop-number-preserved
loop-number-preserved g c k low high =
    let said = g.S.Says.said in
    let front = c.args.front.now in
    let back = c.args.back.now in
    let values = c.args.values.now in
    elim (cases_lt k c.loop-number.number) [
      | inl before ↦ c.loop-number.invariant k low before
      | inr over ↦
          let at : c.loop-number.number ≡ k = omega (arith, over, high) in
          let text = c.as_bytes.ensures.value ∙ c.as_str.ensures.text ∙ c.in_ok-text.ensures in
          subst (λ n. Any (λ value. said value ≡ Some (numbered front n back)) values) at
          (subst (λ t. Any (λ value. said value ≡ Some t) values) text (c.is_said.ensures.0 c.if-not-is_said.false))
    ]

pub unreachable-requires : goal.unreachable-requires
unreachable-requires g c =
    let number = c.loop-number.number in
    let size : number ≤ length c.args.values.now + 2 = c.loop-number.auto.number-end (omega arith) in
    omega (
      arith,
      c.loop-number-test.false,
      no_more_items g.S.Says.said c.args.values.now (λ k. numbered c.args.front.now k c.args.back.now) 1 number
          (λ j k low high. numbered_apart c.args.front.now c.args.back.now j k low (omega (arith, c.requires, size, high))) c.loop-number.invariant,
    )
