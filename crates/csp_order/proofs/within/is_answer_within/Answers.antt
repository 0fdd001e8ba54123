use Rattle.std.proofs.Common.{◌≡◌, ◌∙◌, sym, subst}
use Rattle.std.proofs.lemmas.Bool.{false≢true}
use Rattle.csp_formula.specs.Questions.{question_sentence}
use Rattle.csp_formula.specs.declared.question.ShapeQuestion.{ShapeQuestion}
use Rattle.csp_model.specs.declared.check.FetchRule.TheVariants as rule
use Rattle.csp_order.specs.Within.{Narrows}
use Rattle.csp_order.proofs.Narrowing.{inline_same, listed_same, listed_within}
use Rattle.csp_order.proofs.within.is_answer_within.Goals as goal
use Rattle.csp_order.proofs.within.is_answer_within.Goals.{in-List, in_default}

pub returns-then-matches : goal.returns-then-matches
returns-then-matches c is hashes =
    let one = c.args.one.now in
    let other = c.args.other.now in
    let alone : c.in-Listed.asked.rule ≡ rule.List = elim c.match-matches.branch [
      | in-List w ↦ w.in-List.is
      | in_default w ↦ absurd (false≢true (sym w.matches-is ∙ is))
    ] in
    subst (λ (q : ShapeQuestion). Narrows (question_sentence one hashes q) (question_sentence other hashes q)) (sym c.in-Listed.is)
    (listed_within one other c.requires.origin c.requires.one c.requires.other hashes c.in-Listed.asked alone c.requires.parts)

pub returns-else-matches : goal.returns-else-matches
returns-else-matches c is hashes =
    let one = c.args.one.now in
    let other = c.args.other.now in
    subst (λ (q : ShapeQuestion). Narrows (question_sentence one hashes q) (question_sentence other hashes q)) (sym c.in-Listed.is)
    (listed_same one other c.requires.origin c.requires.one c.requires.other hashes c.in-Listed.asked (c.same_tokens_at.ensures is))

pub returns-in-Inline : goal.returns-in-Inline
returns-in-Inline c is hashes =
    let one = c.args.one.now in
    let other = c.args.other.now in
    subst (λ (q : ShapeQuestion). Narrows (question_sentence one hashes q) (question_sentence other hashes q)) (sym c.in-Inline.is)
    (inline_same one other c.requires.origin c.requires.one c.requires.other hashes c.in-Inline.place c.in-Inline.kind (c.same_tokens_at-in-Inline.ensures is))
