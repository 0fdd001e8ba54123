use Rattle.std.proofs.Common.{arith, ◌∙◌, sym, ap, subst, ◌≤◌, length, map}
use Rattle.std.proofs.lemmas.List.{take_all}
use Rattle.csp_answer.specs.Asking.{AmountTo, word_sentence}
use Rattle.csp_answer.proofs.WordsNamed.{alone, words_amount}
use Rattle.csp_answer.proofs.words.word_conjunctions.Goals as goal

pub returns : goal.returns
returns c = λ atoms named.
    let list = c.args.list in
    let names = c.deref-name-items.result.now in
    let past : length names ≤ c.loop-name.name-index = omega arith in
    let made = c.loop-name.invariant ∙ ap (map alone) (take_all c.loop-name.name-index names past ∙ c.deref-name-items.ensures.value ∙ c.in_ok-word_names.ensures) in
    subst (AmountTo atoms (word_sentence c.args.word list.sources.now)) (sym made)
    (words_amount atoms c.args.word list.origin.now list.sources.now list.names.now named.sources)
