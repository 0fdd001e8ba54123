use Rattle.std.proofs.Common.{◌∙◌}
use Rattle.csp_branch.proofs.Comparing.{by_atoms}
use Rattle.csp_branch.proofs.order.compare_on_part.Goals as goal

pub returns-in_default : goal.returns-in_default
returns-in_default c =
    c.compare.ensures
    ∙ by_atoms c.args.one.now c.args.other.now c.requires (λ e. c.in_default.not-Host (c.part.ensures ∙ e)) (λ e. c.in_default.not-Path (c.part.ensures ∙ e))
