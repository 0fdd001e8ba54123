use Rattle.std.proofs.Common.{sym, subst, List, ℕ, map}
use Rattle.csp_compare.specs.Drafts.{at_shape}
use Rattle.csp_compare.specs.Comparisons.{AreShown, IsOfKind, IsOutcome}
use Rattle.csp_compare.proofs.Known.{known_longer, known_insert}
use Rattle.csp_compare.proofs.comparison.Comparison.show_shape.Goals as goal

pub share_shape-requires-clause-shown : goal.share_shape-requires-clause-shown
share_shape-requires-clause-shown c =
    let on = c.args.self.now in
    let here : IsOfKind on c.kind-kind.result c.args.shape = record { listed = c.requires.listed; is = c.kind-kind.ensures } in
    subst (λ (ns : List ℕ). AreShown on c.args.draft.now c.args.shape ns) (sym c.as_slice.ensures.value)
    (c.requires.known c.kind-kind.result c.in-Some.numbers.now c.args.shape (sym c.in-Some.ensures.value) here)

pub returns-in-Some-clause-step : goal.returns-in-Some-clause-step
returns-in-Some-clause-step c =
    let on = c.args.self.now in (
      c.in_ok-share_shape.ensures,
      known_longer on (map (at_shape c.args.shape) on.policies.items) c.args.draft.now c.share_shape.new.draft c.args.known.now c.in_ok-share_shape.ensures c.requires.known,
    )

pub returns-in_ok-insert-in-Shown-clause-step : goal.returns-in_ok-insert-in-Shown-clause-step
returns-in_ok-insert-in-Shown-clause-step c =
    let on = c.args.self.now in
    let here : IsOfKind on c.kind-kind.result c.args.shape = record { listed = c.requires.listed; is = c.kind-kind.ensures } in
    let outcome = subst (IsOutcome on c.args.shape c.args.draft.now c.search_shape.new.draft) c.in-Shown.is c.in_ok-numbers.ensures.outcome in
    let before = known_longer on (map (at_shape c.args.shape) on.policies.items) c.args.draft.now c.search_shape.new.draft c.args.known.now outcome.0 c.requires.known in (
      outcome.0,
      known_insert on c.search_shape.new.draft c.args.known.now c.insert.new.self c.kind-kind.result c.in-Shown.numbers c.args.shape c.requires.ready
          c.in_ok-insert-in-Shown.ensures.updates.0 here outcome.1 before,
    )
