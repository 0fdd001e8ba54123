use Rattle.std.proofs.Common.{rules, tests, ◌∙◌, ◌&&◌, true, nat_lt}
use Rattle.std.proofs.lemmas.Iterator.{YieldsList-from_slice}
use Rattle.std.proofs.lemmas.Iterator.Consumers.{fold_from_yields_List}
use Rattle.csp_source.proofs.Folds.{folded}
use Rattle.csp_policy.proofs.words.is_ascii.Goals as goal

pub returns : goal.returns
returns c = fold_from_yields_List _ (λ all b. all && nat_lt b 128) true c.fold.result c.fold.ensures.ran (YieldsList-from_slice c.args.text.now cc) (λ a x b q k. search (rules, tests))
    ∙ folded (λ b. nat_lt b 128) c.args.text.now
