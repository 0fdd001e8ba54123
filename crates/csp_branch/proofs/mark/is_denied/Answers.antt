use Rattle.std.proofs.Common.{◌≡◌, ◌∙◌, refl, sym, subst, ℕ, Option, Some, false}
use Rattle.csp_branch.specs.Marks.{is_denied_in}
use Rattle.csp_branch.proofs.Denials.{IsWalk, walk_first, walk_next, walk_found, walk_stopped, walk_out}
use Rattle.csp_branch.proofs.mark.is_denied.Goals as goal
use Rattle.csp_branch.proofs.mark.is_denied.Goals.{in_default-via-in-None-1, in_default-via-in-Some-place+else-end-name}

pub loop-next-init : goal.loop-next-init
loop-next-init c = (refl, walk_first c.args.names.now c.are_in_order.ensures c.args.denied.now c.args.asked c.requires.asked)

pub loop-next-preserved : goal.loop-next-preserved
loop-next-preserved c =
    let walk : IsWalk c.args.names.now c.args.denied.now c.args.asked (Some c.in-Some.name) =
    subst (λ (o : Option ℕ). IsWalk c.args.names.now c.args.denied.now c.args.asked o) c.in-Some.is c.loop-next.invariant.1 in (
      elim c.in_default.branch [
        | in_default-via-in-None-1 w ↦ w.place-is ∙ c.loop-next.invariant.0
        | in_default-via-in-Some-place+else-end-name w ↦ w.place-is ∙ sym w.in-Some-place.is ∙ c.loop-next.invariant.0
      ],
      walk_next c.args.names.now c.are_in_order.ensures c.args.denied.now c.args.asked c.in-Some.name _ walk c.if-denied-name.false c.outer-next.ensures,
    )

pub returns-then-denied-name : goal.returns-then-denied-name
returns-then-denied-name c =
    let walk : IsWalk c.args.names.now c.args.denied.now c.args.asked (Some c.in-Some.name) =
    subst (λ (o : Option ℕ). IsWalk c.args.names.now c.args.denied.now c.args.asked o) c.in-Some.is c.loop-next.invariant.1 in
    walk_found c.args.names.now c.are_in_order.ensures c.args.denied.now c.args.asked c.in-Some.name walk c.if-denied-name.true

pub returns-in-Some : goal.returns-in-Some
returns-in-Some c =
    let walk : IsWalk c.args.names.now c.args.denied.now c.args.asked (Some c.in-Some.name) =
    subst (λ (o : Option ℕ). IsWalk c.args.names.now c.args.denied.now c.args.asked o) c.in-Some.is c.loop-next.invariant.1 in
    let clear : is_denied_in c.args.names.now c.args.denied.now c.in-Some.name ≡ false =
    subst (λ (n : ℕ). is_denied_in c.args.names.now c.args.denied.now n ≡ false) c.if-end-name.true (c.requires.clear c.in-Some-place.end (sym c.loop-next.invariant.0 ∙ c.in-Some-place.is)) in
    walk_stopped c.args.names.now c.are_in_order.ensures c.args.denied.now c.args.asked c.in-Some.name walk clear

pub returns : goal.returns
returns c =
    walk_out c.args.names.now c.are_in_order.ensures c.args.denied.now c.args.asked
    (subst (λ (o : Option ℕ). IsWalk c.args.names.now c.args.denied.now c.args.asked o) c.in_default.is c.loop-next.invariant.1)
