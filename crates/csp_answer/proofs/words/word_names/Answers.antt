use Rattle.std.proofs.Common.{rules, tests, ◌≡◌, Vec, Global, ℕ}
use Rattle.std.proofs.lemmas.Iterator.{YieldsList-from_slice, YieldsList-from_zip, items_from_collect}
use Rattle.std.proofs.lemmas.Iterator.Consumers.{YieldsList-from_filter_map}
use Rattle.std.proofs.lemmas.Result.{IfOk-at_ok}
use Rattle.csp_model.specs.declared.source.Source.{Source}
use Rattle.csp_answer.specs.Asking.{word_name, word_names}
use Rattle.csp_answer.specs.declared.naming.SourceNames.{SourceNames}
use Rattle.csp_answer.proofs.words.word_names.Goals as goal

pub returns : goal.returns
returns c =
    let word = c.args.word in
    let sources = c.args.list.sources.now in
    let names = c.args.list.names.now in
    IfOk-at_ok (λ (v : Vec ℕ Global). v.items ≡ word_names word sources names) c.in_ok-names.was
    (items_from_collect c.collect.result c.collect.ensures.ran
    (YieldsList-from_filter_map _ (λ (p : Source × SourceNames). word_name word p.0 p.1)
    (YieldsList-from_zip (YieldsList-from_slice sources cc) (YieldsList-from_slice names cc)) c.filter_map.ensures.closure (λ x r q k. search (rules, tests))))
