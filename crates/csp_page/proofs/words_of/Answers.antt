use Rattle.std.proofs.Common.{◌≡◌, ℕ, List, [], ◌∷◌, ◌++◌, Bor, map, take, get_or, sym, ◌∙◌, arith, rules}
use Rattle.std.proofs.lemmas.List.{map_more}
use Rattle.csp_page.specs.declared.Argument.{Argument}
use Rattle.std.proofs.lemmas.Result.{err_from_is_err_and}
use Rattle.csp_page.specs.Page.{word_of}
use Rattle.csp_page.proofs.Due.{good_more, none_bad, some_bad}
use Rattle.csp_page.proofs.words_of.Goals as goal

pub returns-in_err-text_of-clause-bad : goal.returns-in_err-text_of-clause-bad
returns-in_err-text_of-clause-bad c = λ same.
    let p = err_from_is_err_and c.from_residual.result c.from_residual.ensures.1 in
    some_bad word_of _ c.loop-word.word-index _ c.loop-word-test.true
    (c.in_err-text_of.ensures.bad (cc (same, p.1, p.2)))

pub loop-word-preserved : goal.loop-word-preserved
loop-word-preserved c = record {
  made =
      let nothing : Bor (List ℕ) = record { ref_ptr = (0, 0); now = [] } in
      let none : Argument = record { text = nothing } in
      let grew : c.push.new.self ≡ map word_of (take c.loop-word.word-index c.args.words.now) ++ word_of (get_or c.args.words.now c.loop-word.word-index none) ∷ [] =
      search (rules, c.in_ok-push.ensures.ok, c.in_ok-text_of.ensures.text, c.loop-word.invariant.made, c.loop-word-test.true) in
      grew ∙ sym (map_more word_of c.args.words.now c.loop-word.word-index none c.loop-word-test.true);
  good = good_more word_of _ _ _ c.loop-word-test.true c.loop-word.invariant.good c.in_ok-text_of.ensures.good;
}

pub returns-clause-good : goal.returns-clause-good
returns-clause-good c = none_bad word_of _ c.loop-word.word-index (omega (arith, c.loop-word-test.false)) c.loop-word.invariant.good
