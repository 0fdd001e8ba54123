use Rattle.std.proofs.Common.{List}
use Rattle.csp_formula.specs.Compiled.{policy_sentence}
use Rattle.csp_model.specs.declared.source.Hash.{Hash}
use Rattle.csp_facts.specs.declared.shape.Shape.{Shape}
use Rattle.csp_order.specs.Within.{Narrows}
use Rattle.csp_order.proofs.Narrowing.{shape_more}
use Rattle.csp_order.proofs.within.is_within_at_each.Goals as goal

pub loop-shape-preserved : goal.loop-shape-preserved
loop-shape-preserved c =
    shape_more (λ (kind : Shape). (hashes : List Hash) → Narrows (policy_sentence c.args.one.now kind hashes) (policy_sentence c.args.other.now kind hashes))
    c.in-Some.shape c.loop-shape.number c.in-Some.ensures.0 c.in-Some.ensures.1 (c.is_within_at.ensures c.if-not-is_within_at.false) c.loop-shape.invariant
