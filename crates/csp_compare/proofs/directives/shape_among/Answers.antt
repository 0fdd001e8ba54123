use Rattle.std.proofs.Common.{◌∙◌, sym, subst}
use Rattle.std.specs.Prelude.{Contains}
use Rattle.std.proofs.lemmas.Bool.{both_ways}
use Rattle.csp_facts.specs.declared.shape.Shape.{Shape}
use Rattle.csp_facts.proofs.Apart.{one_shape}
use Rattle.csp_compare.specs.Differences.{effective_of}
use Rattle.csp_compare.proofs.directives.shape_among.Goals as goal

pub returns-else-has_directive : goal.returns-else-has_directive
returns-else-has_directive c = λ kind at.
    let same = one_shape kind c.in_ok-shape.shape at.listed c.in_ok-shape.ensures.0 (at.number ∙ sym c.in_ok-shape.ensures.1) in
    let among = subst (λ (s : Shape). Contains c.args.effective.now (effective_of s)) same at.among in
    both_ways c.has_directive.result c.if-has_directive.false (c.has_directive.ensures.1 among)
