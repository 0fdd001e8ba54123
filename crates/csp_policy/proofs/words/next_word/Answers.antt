use Rattle.std.proofs.Common.{◌≡◌, position, Some, sym, ap, ◌∙◌, arith}
use Rattle.std.specs.Char.{is_ascii_whitespace}
use Rattle.std.proofs.lemmas.Str.Ascii.{trim_ascii_start_is}
use Rattle.csp_model.specs.Ascii.{words, is_ascii_text}
use Rattle.csp_model.proofs.AsciiParts.{take_ascii, drop_ascii}
use Rattle.csp_policy.proofs.FirstWord.{words_skip, skip_begins, word_at, word_alone, no_words}
use Rattle.csp_policy.proofs.words.next_word.Goals as goal

pub returns-in-Some-clause-word : goal.returns-in-Some-clause-word
returns-in-Some-clause-word c =
    let trimmed = trim_ascii_start_is _ _ c.trim_ascii_start-text.ensures.value in
    let same : words c.args.text.now ≡ words c.trim_ascii_start-text.result.now = sym (words_skip c.args.text.now) ∙ ap words (sym trimmed) in
    let first = word_at c.trim_ascii_start-text.result.now c.in-Some.at (sym c.in-Some.ensures.value)
    (λ z. skip_begins c.args.text.now (ap (position is_ascii_whitespace) (sym trimmed) ∙ sym c.in-Some.ensures.value ∙ ap Some z)) in
    let word = c.split_at.ensures.front in
    let rest = ap words c.split_at.ensures.back in
    cc

pub returns-in-Some-clause-ascii_word : goal.returns-in-Some-clause-ascii_word
returns-in-Some-clause-ascii_word c h =
    ap is_ascii_text c.split_at.ensures.front ∙ take_ascii c.in-Some.at c.trim_ascii_start-text.result.now (ap is_ascii_text (trim_ascii_start_is _ _ c.trim_ascii_start-text.ensures.value) ∙ drop_ascii _ c.args.text.now h)

pub returns-in-Some-clause-ascii_rest : goal.returns-in-Some-clause-ascii_rest
returns-in-Some-clause-ascii_rest c h =
    ap is_ascii_text c.split_at.ensures.back ∙ drop_ascii c.in-Some.at c.trim_ascii_start-text.result.now (ap is_ascii_text (trim_ascii_start_is _ _ c.trim_ascii_start-text.ensures.value) ∙ drop_ascii _ c.args.text.now h)

pub returns-in-None-clause-word : goal.returns-in-None-clause-word
returns-in-None-clause-word c =
    sym (words_skip c.args.text.now) ∙ ap words (sym (trim_ascii_start_is _ _ c.trim_ascii_start-text.ensures.value)) ∙ no_words c.trim_ascii_start-text.result.now (sym c.is_empty.ensures ∙ c.if-is_empty.true)

pub returns-in-None-2-clause-word : goal.returns-in-None-2-clause-word
returns-in-None-2-clause-word c =
    sym (words_skip c.args.text.now) ∙ ap words (sym (trim_ascii_start_is _ _ c.trim_ascii_start-text.ensures.value)) ∙ word_alone c.trim_ascii_start-text.result.now (sym c.in-None.ensures.value)
    (let e = c.is_empty.ensures in let f = c.if-is_empty.false in λ z. grind (arith, e, f, z))

pub returns-in-None-2-clause-ascii_word : goal.returns-in-None-2-clause-ascii_word
returns-in-None-2-clause-ascii_word c h = ap is_ascii_text (trim_ascii_start_is _ _ c.trim_ascii_start-text.ensures.value) ∙ drop_ascii _ c.args.text.now h
