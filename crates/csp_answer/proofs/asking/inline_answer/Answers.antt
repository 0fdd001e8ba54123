use Rattle.std.proofs.Common.{◌∙◌, sym, subst, ap₂, Bool, true, List, [], ◌∷◌}
use Rattle.std.proofs.lemmas.Bool.{cond-false, cond-true}
use Rattle.std.proofs.lemmas.Result.{IfOk-weaker}
use Rattle.csp_model.specs.DecideInline.{allows_all_inline, hash_counts}
use Rattle.csp_model.specs.Inline.{is_element_kind}
use Rattle.csp_facts.specs.declared.atom.Atom.{Atom}
use Rattle.csp_formula.specs.Compiled.{digests_sentence, nonces_sentence, only_where}
use Rattle.csp_formula.specs.Sentences.{Known, any_of}
use Rattle.csp_answer.specs.Asking.{AmountTo, IsListNamed}
use Rattle.csp_answer.specs.Tables.{Says}
use Rattle.csp_answer.proofs.Answered.{made_plain, together}
use Rattle.csp_answer.proofs.asking.inline_answer.Goals as goal

pub returns-then-allows_all_inline : goal.returns-then-allows_all_inline
returns-then-allows_all_inline c =
    let sources = c.args.list.sources.now in
    let kind = c.args.kind in
    let same = cond-true (allows_all_inline kind sources) (Known true) (any_of (only_where (is_element_kind kind) (nonces_sentence sources)
    ∷ only_where (hash_counts kind sources) (digests_sentence sources) ∷ [])) (sym c.allows_all_inline.ensures ∙ c.if-allows_all_inline.true) in
    IfOk-weaker c.known_answer.result _ _ (λ made known atoms named. subst (λ s. Says atoms s made) (sym same) (known atoms)) c.known_answer.ensures

pub returns : goal.returns
returns c =
    let sources = c.args.list.sources.now in
    let kind = c.args.kind in
    let nonces = nonces_sentence sources in
    let digests = digests_sentence sources in
    let counted = ap₂ (λ (a b : Bool). any_of (only_where a nonces ∷ only_where b digests ∷ [])) c.is_element_kind.ensures c.hash_counts.ensures
    ∙ sym (cond-false (allows_all_inline kind sources) (Known true) (any_of (only_where (is_element_kind kind) nonces ∷ only_where (hash_counts kind sources) digests ∷ []))
    (sym c.allows_all_inline.ensures ∙ c.if-allows_all_inline.false)) in
    let parts : (atoms : List Atom) → IsListNamed atoms c.args.list → AmountTo atoms (any_of (only_where c.is_element_kind.result nonces ∷ only_where c.hash_counts.result digests ∷ []))
    c.in_ok-concatenate.field-0.items = λ atoms named. together atoms (only_where c.is_element_kind.result nonces) (only_where c.hash_counts.result digests) c.in_ok-nonces.nonces.items
    c.in_ok-digests.digests.items c.in_ok-concatenate.field-0.items (c.in_ok-nonces.ensures atoms named) (c.in_ok-digests.ensures atoms named) c.in_ok-concatenate.ensures in
    IfOk-weaker c.new.result _ _ (λ made plain atoms named. plain atoms _ _ (parts atoms named) counted)
    (made_plain c.new.result c.in_ok-concatenate.field-0.items c.new.ensures.said c.new.ensures.among c.new.ensures.answer)
