use Rattle.std.proofs.Common.{◌∙◌, sym, ap, refl, false}
use Rattle.csp_facts.specs.declared.shape.Shape.{Shape}
use Rattle.csp_facts.specs.declared.shape.Shape.TheVariants as shape
use Rattle.csp_formula.specs.Compiled.{policy_sentence}
use Rattle.csp_formula.specs.Questions.{urls_shape}
use Rattle.csp_formula.proofs.Alike.{group_alike}
use Rattle.csp_formula.proofs.question.question_at.Goals as goal

pub returns-in-Fetch : goal.returns-in-Fetch
returns-in-Fetch c hashes =
    let policy = c.args.policy.now in
    let at = c.in-Fetch in
    let kind = shape.Fetch at.group at.scheme at.redirected at.parser_inserted in
    let says = group_alike policy at.group (urls_shape at.scheme at.redirected false) kind at.parser_inserted hashes refl refl refl in
    c.fetch_question.ensures hashes ∙ says ∙ sym (ap (λ (k : Shape). policy_sentence policy k hashes) at.is)
