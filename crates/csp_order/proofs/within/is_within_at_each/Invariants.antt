use Rattle.std.proofs.Common.{◌<◌, ◌-◌, List}
use Rattle.std.specs.Prelude.{IsTrue}
use Rattle.csp_formula.specs.Compiled.{policy_sentence}
use Rattle.csp_model.specs.declared.source.Hash.{Hash}
use Rattle.csp_facts.specs.Numbers.{number, shape_count}
use Rattle.csp_facts.specs.Shapes.{is_shape}
use Rattle.csp_facts.specs.declared.shape.Shape.{Shape}
use Rattle.csp_order.specs.Within.{Narrows}
use Rattle.csp_order.proofs.within.is_within_at_each.Given as goal

abbrev pub invariant-loop-shape : goal.invariant-loop-shape
invariant-loop-shape l =
    (kind : Shape) → IsTrue (is_shape kind) → number kind < l.number → (hashes : List Hash)
    → Narrows (policy_sentence l.one kind hashes) (policy_sentence l.other kind hashes)

abbrev pub decreases-loop-shape : goal.decreases-loop-shape
decreases-loop-shape l = shape_count - l.number
