use Rattle.std.proofs.Common.{◌≡◌, ◌≢◌, ◌<◌, ℕ, Any, Some, inl, inr, subst, arith}
use Rattle.std.proofs.lemmas.Bool.{cases_lt}
use Rattle.csp_pick.specs.Said.{number_of}
use Rattle.csp_pick.proofs.Pigeonhole.{no_more_items, no_more_said}
use Rattle.csp_pick.proofs.number.free_number.Goals as goal

apart : (j k end : ℕ) → j < k → k < end → j ≢ k
apart j k end low high e = omega arith

pub loop-number-preserved : goal.loop-number-preserved
loop-number-preserved c k low high = elim (cases_lt k c.loop-number.number) [
  | inl before ↦ c.loop-number.invariant k low before
  | inr over ↦
      let at : c.loop-number.number ≡ k = omega (arith, over, high) in
      subst (λ n. Any (λ l. number_of c.args.part l.atom ≡ Some n) c.args.literals.now) at (c.is_said.ensures.0 c.if-not-is_said.false)
]

pub returns-then-not-is_said-clause-bound : goal.returns-then-not-is_said-clause-bound
returns-then-not-is_said-clause-bound c =
    omega (
      arith,
      c.from-first.ensures,
      no_more_said (λ l. number_of c.args.part l.atom) c.args.literals.now (λ n. n) c.from-first.result c.loop-number.number
          (λ j k. apart j k c.loop-number.number) c.loop-number.invariant,
    )

pub unreachable-requires : goal.unreachable-requires
unreachable-requires c =
    omega (
      arith,
      c.loop-number-test.false,
      no_more_items (λ l. number_of c.args.part l.atom) c.args.literals.now (λ n. n) c.from-first.result c.loop-number.number
          (λ j k. apart j k c.loop-number.number) c.loop-number.invariant,
    )
