use Rattle.std.proofs.Common.{rules, tests, ◌∙◌, ◌&&◌, ◌||◌, ◌==◌, not, true}
use Rattle.std.specs.Char.{is_ascii_control}
use Rattle.std.proofs.lemmas.Iterator.{YieldsList-from_slice}
use Rattle.std.proofs.lemmas.Iterator.Consumers.{fold_from_yields_List}
use Rattle.csp_model.specs.Policies.{is_field_value}
use Rattle.csp_source.proofs.Folds.{folded}
use Rattle.csp_policy.proofs.lines.is_field_value.Goals as goal

pub returns : goal.returns
unfolding is_field_value
returns c = fold_from_yields_List _ (λ good b. good && (b == 9 || not (is_ascii_control b))) true c.fold.result c.fold.ensures.ran (YieldsList-from_slice c.args.value.now cc) (λ a x b q k. search (rules, tests))
    ∙ folded (λ b. b == 9 || not (is_ascii_control b)) c.args.value.now
