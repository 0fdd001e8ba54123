use Rattle.std.proofs.Common.{◌∙◌, sym, subst, ℕ, Option, Some, arith}
use Rattle.std.proofs.lemmas.Bool.{false≢true}
use Rattle.csp_match.proofs.FrontWalk.{above_next, outer_at_is, IsAbove}
use Rattle.csp_match.proofs.fronts.outer_of.Goals as goal

pub loop-next-preserved : goal.loop-next-preserved
loop-next-preserved c =
    let targets = c.args.targets.now in
    let above : IsAbove targets c.args.at (Some c.in-Some.outer) = subst (λ (o : Option ℕ). IsAbove targets c.args.at o) c.in-Some.is c.loop-next.invariant in
    let on = outer_at_is targets c.in-Some.outer c.args.at _ _ (omega (arith, above.0, c.requires.at)) c.requires.at
    c.index-targets-outer.is c.index-targets-at.is in
    above_next targets c.requires.order c.args.at c.requires.at c.in-Some.outer _ above
    (λ outer. false≢true (sym c.if-is_outer.false ∙ c.is_outer.ensures.1 (on.1 outer)))
    (c.requires.outers.each c.in-Some.outer above.0)
