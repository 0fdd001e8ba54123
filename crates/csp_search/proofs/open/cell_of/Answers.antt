use Rattle.std.proofs.Common.{rules, ◌≡◌, ◌∙◌, sym, subst}
use Rattle.csp_facts.specs.Atoms.{BelongsTo}
use Rattle.csp_facts.specs.declared.atom.Literal.{Literal}
use Rattle.csp_facts.specs.Shapes.{looks_at}
use Rattle.csp_facts.specs.declared.shape.Shape.{Shape}
use Rattle.csp_search.proofs.Lists.{all_at}
use Rattle.csp_search.proofs.Narrowing.{cell_more, fresh_at, step_at}
use Rattle.csp_search.proofs.open.cell_of.Goals as goal

pub narrow-requires-clause-undecided : goal.narrow-requires-clause-undecided
narrow-requires-clause-undecided c =
    let ls = c.args.walker.now.literals in
    let i = c.loop-change.change-index in
    let a = c.index-atoms-step.result in
    let same : c.atoms-atoms.result.now ≡ c.args.walker.now.atoms = search rules in
    let at = step_at c.args.walker.now.atoms c.atoms-atoms.result.now c.changes-change-items.result.now ls i _ a c.changes-change-items.ensures.literals c.changes-change-items.ensures.named same c.loop-change-test.true c.index-atoms-step.is in
    c.loop-change.invariant.decides a ∙ fresh_at ls i _ c.requires.fresh at

pub narrow-requires-clause-belongs : goal.narrow-requires-clause-belongs
narrow-requires-clause-belongs c =
    let ls = c.args.walker.now.literals in
    let i = c.loop-change.change-index in
    let a = c.index-atoms-step.result in
    let same : c.atoms-atoms.result.now ≡ c.args.walker.now.atoms = search rules in
    let at = step_at c.args.walker.now.atoms c.atoms-atoms.result.now c.changes-change-items.result.now ls i _ a c.changes-change-items.ensures.literals c.changes-change-items.ensures.named same c.loop-change-test.true c.index-atoms-step.is in
    subst (λ (kind : Shape). BelongsTo (looks_at kind) a) (sym c.loop-change.invariant.shape) (all_at (λ (l : Literal). BelongsTo (looks_at c.args.shape) l.atom) ls i _ c.requires.belongs at)

pub loop-change-preserved : goal.loop-change-preserved
loop-change-preserved c =
    let ls = c.args.walker.now.literals in
    let i = c.loop-change.change-index in
    let a = c.index-atoms-step.result in
    let same : c.atoms-atoms.result.now ≡ c.args.walker.now.atoms = search rules in
    let at = step_at c.args.walker.now.atoms c.atoms-atoms.result.now c.changes-change-items.result.now ls i _ a c.changes-change-items.ensures.literals c.changes-change-items.ensures.named same c.loop-change-test.true c.index-atoms-step.is in
    cell_more c.args.shape ls i _ c.loop-change.cell c.in_ok-cell.cell at c.loop-change.invariant c.in_ok-cell.ensures.shape c.in_ok-cell.ensures.takes c.in_ok-cell.ensures.decides
