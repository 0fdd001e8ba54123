use Rattle.std.proofs.Common.{arith, ◌∙◌, ◌∷◌, [], ap, sym, length, length-append}
use Rattle.csp_branch.specs.Groups.{atom_in}
use Rattle.csp_branch.specs.Paths.{literal_in}
use Rattle.csp_branch.specs.Walks.{Position, at_root}
use Rattle.csp_branch.proofs.Pending.{turned, left}
use Rattle.csp_branch.proofs.walker.Walker.next_branch.Goals as goal

pub returns-then-step-clause-branch : goal.returns-then-step-clause-branch
returns-then-step-clause-branch c =
    let rest = c.take_back.new.self in
    turned c.loop-step.self.literals rest.literals c.take.new.self.literals (atom_in rest.atoms c.in-Some.step.name) c.in-Some.step.positive
    (ap (λ (w : Position). w.literals) c.in-Some.ensures.2) c.if-step.true (ap (λ (w : Position). w.literals) c.take.ensures)
    ∙ c.loop-step.invariant.same

pub loop-step-preserved : goal.loop-step-preserved
loop-step-preserved c =
    let rest = c.take_back.new.self in
    let e = c.in-Some.ensures.2 in
    let ls = ap (λ (w : Position). w.literals) e in
    record {
      same = left c.loop-step.self.literals rest.literals (atom_in rest.atoms c.in-Some.step.name) c.in-Some.step.positive ls c.if-step.false ∙ c.loop-step.invariant.same;
      kept = sym (ap at_root e) ∙ c.loop-step.invariant.kept;
      shorter = omega (arith, ap length ls, length-append rest.literals (literal_in rest.atoms c.in-Some.step.name c.in-Some.step.positive ∷ []), c.loop-step.invariant.shorter);
    }
