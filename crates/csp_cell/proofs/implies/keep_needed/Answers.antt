use Rattle.std.proofs.Common.{rules, sym, not, ◌∙◌}
use Rattle.std.proofs.lemmas.Fn.{filter_same}
use Rattle.csp_cell.proofs.Alone.{all_needed}
use Rattle.csp_cell.specs.Cells as spec
use Rattle.csp_cell.proofs.implies.keep_needed.Goals as goal

pub returns-then-not-decides_alone : goal.returns-then-not-decides_alone
returns-then-not-decides_alone c =
    filter_same _ (λ other. not (spec.implies c.args.literal.now other)) _ (λ x b f' k. search rules) _ _ c.retain.ensures.filtered

pub returns-else-not-decides_alone : goal.returns-else-not-decides_alone
returns-else-not-decides_alone c =
    all_needed c.args.literal.now c.args.literals.now.items (sym c.decides_alone.ensures ∙ c.if-not-decides_alone.false) c.requires
