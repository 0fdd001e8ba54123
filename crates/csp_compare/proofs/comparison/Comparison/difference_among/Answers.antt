use Rattle.std.proofs.Common.{arith, ◌∙◌, subst}
use Rattle.std.specs.Prelude.{MatchOption}
use Rattle.csp_compare.specs.Differences.{DiffersAt, HasNoneAt, IsAmongAt, IsIncludedAt}
use Rattle.csp_compare.proofs.Differing.{below_none, below_one, none_differs}
use Rattle.csp_compare.proofs.comparison.Comparison.difference_among.Goals as goal

pub loop-number-preserved-in_default-shape_among : goal.loop-number-preserved-in_default-shape_among
loop-number-preserved-in_default-shape_among c =
    let so = c.loop-number.invariant in
    let effective = c.args.effective.now in
    let none = subst (λ o. MatchOption o (HasNoneAt effective c.loop-number.number) (IsAmongAt effective c.loop-number.number)) c.in_default-shape_among.is c.shape_among.ensures in
    (so.0, so.1, below_none c.args.self.now effective c.loop-number.number none so.2)

pub loop-number-preserved : goal.loop-number-preserved
loop-number-preserved c =
    let on = c.args.self.now in
    let so = c.loop-number.invariant in
    let included = subst (λ o. MatchOption o (IsIncludedAt on c.in-Some-shape_among.shape) (DiffersAt on c.in-Some-shape_among.shape)) c.in_default-2.is c.in_ok-check-2.ensures.found in (
      c.in_ok-check-2.ensures.walker ∙ so.0,
      c.in_ok-check-2.ensures.known,
      below_one on c.args.effective.now c.loop-number.number c.in-Some-shape_among.shape c.in-Some-shape_among.ensures included so.2,
    )

pub returns-clause-found : goal.returns-clause-found
returns-clause-found c =
    none_differs c.a_formula_is_what_the_policy_allows.ensures c.args.self.now c.args.effective.now c.requires.ready c.loop-number.number (omega arith)
    c.loop-number.invariant.2
