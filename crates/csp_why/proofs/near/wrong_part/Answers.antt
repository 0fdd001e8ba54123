use Rattle.std.proofs.Common.{◌≡◌, ◌∙◌, sym, false}
use Rattle.csp_why.specs.Near.{may_fit}
use Rattle.csp_why.proofs.WrongPart.{no_wrong_part}
use Rattle.csp_why.proofs.near.wrong_part.Goals as goal

pub returns-then-not-may_fit : goal.returns-then-not-may_fit
returns-then-not-may_fit c =
    let other : may_fit c.args.source.now c.args.url.now ≡ false =
    sym c.may_fit.ensures ∙ c.if-not-may_fit.true in
    sym (no_wrong_part c.args.origin.now c.args.url.now c.args.redirected c.args.source.now other)
