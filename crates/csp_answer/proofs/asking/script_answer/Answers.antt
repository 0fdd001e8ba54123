use Rattle.std.proofs.lemmas.Result.{IfOk-weaker}
use Rattle.csp_formula.specs.Compiled.{dynamic_sentence, integrity_sentence, nonces_sentence}
use Rattle.csp_formula.specs.Questions.{shape_asked}
use Rattle.csp_formula.specs.Sources.{list_sentence}
use Rattle.csp_answer.proofs.Answered.{made_with}
use Rattle.csp_answer.proofs.asking.script_answer.Goals as goal

pub returns : goal.returns
returns c =
    let list = c.args.list in
    let names = c.args.naming.names.now in
    let sources = list.sources.now in
    let last = dynamic_sentence sources c.args.asked.parser_inserted (list_sentence list.origin.now (shape_asked c.args.asked) sources) in
    IfOk-weaker c.new.result _ _ (λ made with hashes are. with names (nonces_sentence sources) last (integrity_sentence hashes sources)
    c.in_ok-nonces.nonces.items c.in_ok-last.last.items (c.in_ok-nonces.ensures names c.requires) c.in_ok-last.ensures c.in_ok-concatenate.ensures
    (c.in_ok-integrity.ensures.said hashes are) (c.in_ok-integrity.ensures.there hashes are))
    (made_with c.new.result c.in_ok-concatenate.field-0.items c.in_ok-integrity.integrity c.new.ensures.said c.new.ensures.among c.new.ensures.answer)
