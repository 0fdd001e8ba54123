use Rattle.std.proofs.Common.{◌∙◌, sym, ap, Some}
use Rattle.csp_facts.specs.Follows.{decided, or_else}
use Rattle.csp_cell.proofs.Parts.{decided_append, answer_says}
use Rattle.csp_cell.proofs.cell.Cell.value.Goals as goal

pub returns-in-Some-clause-first : goal.returns-in-Some-clause-first
returns-in-Some-clause-first c =
    let placing = c.self.inside.placing.items in
    let others = c.self.inside.others.items in
    let atom = c.args.atom.now in
    let found = sym c.in-Some.is ∙ rw c.deref.ensures.value at c.first_decided.ensures in
    rw (← c.self.view_is) (ap (λ answer. or_else answer (decided others atom)) found ∙ sym (decided_append placing others atom))

pub returns-in-Some-clause-some : goal.returns-in-Some-clause-some
returns-in-Some-clause-some c = answer_says c.args.self.now.literals c.args.atom.now (Some c.in-Some.value) (returns-in-Some-clause-first c)

pub returns-in-None-clause-first : goal.returns-in-None-clause-first
returns-in-None-clause-first c =
    let placing = c.self.inside.placing.items in
    let others = c.self.inside.others.items in
    let atom = c.args.atom.now in
    let none = sym c.in-None.is ∙ rw c.deref.ensures.value at c.first_decided.ensures in
    let later = rw c.deref-in-None.ensures.value at c.first_decided-in-None.ensures in
    rw (← c.self.view_is) (later ∙ ap (λ answer. or_else answer (decided others atom)) none ∙ sym (decided_append placing others atom))

pub returns-in-None-clause-some : goal.returns-in-None-clause-some
returns-in-None-clause-some c = answer_says c.args.self.now.literals c.args.atom.now c.first_decided-in-None.result (returns-in-None-clause-first c)
