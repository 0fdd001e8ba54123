use Rattle.std.proofs.Common.{arith, ◌≡◌, ◌∙◌, ◌++◌, ap, sym}
use Rattle.std.proofs.lemmas.Grind.{common_steps}
use Rattle.csp_token.specs.Integrity.{hash_text, integrity_of, integrity_text}
use Rattle.csp_token.proofs.PairsOfTokens.{begun}
use Rattle.csp_token.proofs.ReadsBack.{reads_back}
use Rattle.csp_token.proofs.integrity.integrity_text.Goals as goal

pub loop-pair-init : goal.loop-pair-init
loop-pair-init c =
    begun c.args.integrity.now c.in-Some.others.now c.in-Some.first.now _
    (c.in_ok-push_pair.ensures ∙ ap (λ text. text ++ hash_text c.in-Some.first.now) c.new-text.ensures.bytes)
    (sym c.as_slice.ensures ∙ c.in-Some.ensures.cases.0)

pub returns-clause-reads_back : goal.returns-clause-reads_back
returns-clause-reads_back c all =
    let made : c.from_string-2.result ≡ integrity_text c.args.integrity.now = grind (arith, common_steps) in
    ap integrity_of made ∙ reads_back c.args.integrity.now all
