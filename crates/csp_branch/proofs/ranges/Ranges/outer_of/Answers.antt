use Rattle.std.proofs.Common.{◌∙◌, sym, subst, ℕ, List, Option, Some}
use Rattle.csp_facts.specs.declared.atom.Atom.{Atom}
use Rattle.csp_branch.specs.Numbers.{AreInOrder}
use Rattle.csp_branch.proofs.Forest.{IsLeft, left_first, left_next, left_found}
use Rattle.csp_branch.proofs.ranges.Ranges.outer_of.Goals as goal

pub loop-next-init : goal.loop-next-init
loop-next-init c =
    let order : AreInOrder c.args.self.now = subst (λ (l : List Atom). AreInOrder l) c.self.view_is c.self.invariant.0 in
    left_first c.args.self.now order c.args.name c.requires.name c.checked_sub-next.result c.checked_sub-next.ensures

pub returns-then-is_around : goal.returns-then-is_around
returns-then-is_around c =
    let left : IsLeft c.args.self.now c.args.name (Some c.in-Some.outer) = subst (λ (o : Option ℕ). IsLeft c.args.self.now c.args.name o) c.in-Some.is c.loop-next.invariant in
    let order : AreInOrder c.args.self.now = subst (λ (l : List Atom). AreInOrder l) c.self.view_is c.self.invariant.0 in
    left_found c.args.self.now order c.args.name c.requires.name c.in-Some.outer left (sym c.is_around.ensures ∙ c.if-is_around.true)

pub loop-next-preserved : goal.loop-next-preserved
loop-next-preserved c =
    let order : AreInOrder c.args.self.now = subst (λ (l : List Atom). AreInOrder l) c.self.view_is c.self.invariant.0 in
    let left : IsLeft c.args.self.now c.args.name (Some c.in-Some.outer) = subst (λ (o : Option ℕ). IsLeft c.args.self.now c.args.name o) c.in-Some.is c.loop-next.invariant in
    left_next c.args.self.now order c.args.name c.requires.name c.in-Some.outer _ left (sym c.is_around.ensures ∙ c.if-is_around.false)
    (c.requires.outers.each c.in-Some.outer left.0)
