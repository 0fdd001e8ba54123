use Rattle.std.proofs.Common.{rules, tests, ◌∙◌, ◌&&◌, true}
use Rattle.std.proofs.lemmas.Iterator.{YieldsList-from_slice}
use Rattle.std.proofs.lemmas.Iterator.Consumers.{fold_from_yields_List}
use Rattle.csp_model.specs.Grammar.{is_label_char}
use Rattle.csp_source.proofs.Folds.{folded}
use Rattle.csp_source.proofs.host.all_label_chars.Goals as goal

pub returns : goal.returns
returns c = fold_from_yields_List _ (λ all b. all && is_label_char b) true c.fold.result c.fold.ensures.ran (YieldsList-from_slice c.args.text.now cc) (λ a x b q k. search (rules, tests))
    ∙ folded is_label_char c.args.text.now
