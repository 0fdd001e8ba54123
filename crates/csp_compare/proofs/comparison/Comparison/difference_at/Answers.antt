use Rattle.std.proofs.Common.{arith, ◌∙◌, sym, ap, subst, length}
use Rattle.csp_compare.specs.Comparisons.{IsOfKind, IsOutcome}
use Rattle.csp_compare.proofs.Differing.{shape_effective}
use Rattle.csp_compare.proofs.EnforcedPolicies.{few_policies}
use Rattle.csp_compare.proofs.Known.{included_insert}
use Rattle.csp_compare.proofs.comparison.Comparison.difference_at.Goals as goal

pub returns-then-contains-clause-found : goal.returns-then-contains-clause-found
returns-then-contains-clause-found c =
    let here : IsOfKind c.args.self.now c.kind-kind.result c.args.shape = record { listed = c.requires.listed; is = c.kind-kind.ensures } in
    c.requires.known c.kind-kind.result c.args.shape (sym c.contains.ensures ∙ c.if-contains.true) here

pub search_shape-requires-clause-room : goal.search_shape-requires-clause-room
search_shape-requires-clause-room c =
    let few = few_policies c.args.self.now c.requires.ready in
    let none = ap length c.new.ensures in
    omega arith

pub returns-in-Shown-clause-found : goal.returns-in-Shown-clause-found
returns-in-Shown-clause-found c =
    let outcome = subst (IsOutcome c.args.self.now c.args.shape c.new.result c.search_shape.new.draft) c.in-Shown.is c.in_ok-search_shape.ensures.outcome in
    (c.search_shape.new.draft, c.in-Shown.numbers.items, outcome.1)

pub returns-in-Shown-clause-known : goal.returns-in-Shown-clause-known
returns-in-Shown-clause-known c =
    let on = c.args.self.now in
    let here : IsOfKind on c.kind-kind.result c.args.shape = record { listed = c.requires.listed; is = c.kind-kind.ensures } in
    let outcome = subst (IsOutcome on c.args.shape c.new.result c.search_shape.new.draft) c.in-Shown.is c.in_ok-search_shape.ensures.outcome in
    included_insert on c.args.known.now c.insert.new.self c.kind-kind.result c.args.shape c.requires.ready c.in_ok-insert-in-Shown.ensures.updates.0 here
    (c.search_shape.new.draft, c.in-Shown.numbers.items, outcome.1) c.requires.known

pub returns-clause-found : goal.returns-clause-found
returns-clause-found c =
    let outcome = subst (IsOutcome c.args.self.now c.args.shape c.new.result c.search_shape.new.draft) c.in-Refuted.is c.in_ok-search_shape.ensures.outcome in
    (outcome.0, shape_effective c.in-Refuted.check c.args.shape outcome.1)
