use Rattle.std.proofs.Common.{◌≡◌, ◌∙◌, sym, subst}
use Rattle.std.specs.Prelude.{Option, Some, slice_get}
use Rattle.std.specs.Cmp.Lexicographic.{pointwise_decides}
use Rattle.std.proofs.lemmas.Slice.Eq.{bytes_eq-Decides}
use Rattle.csp_model.specs.declared.policy.Directive.{Directive}
use Rattle.csp_order.specs.Within.{AreBoth, HasTokensOf}
use Rattle.csp_order.proofs.within.same_tokens_at.Goals as goal

pub returns-in-Some-Some : goal.returns-in-Some-Some
returns-in-Some-Some c is =
    let ours = c.in-Some-Some.ours.now in
    let theirs = c.in-Some-Some.theirs.now in
    let same : ours.tokens ≡ theirs.tokens = (pointwise_decides bytes_eq-Decides ours.tokens theirs.tokens).0 (sym c.eq.ensures ∙ is) in
    subst (λ (d : Option Directive). AreBoth HasTokensOf d (slice_get c.args.other.now.directives c.args.place)) c.in-Some-Some.ensures
    (subst (AreBoth HasTokensOf (Some ours)) c.in-Some-Some.ensures' same)
