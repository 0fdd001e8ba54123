use Rattle.std.proofs.Common.{◌∙◌, sym, subst, ℕ, ◌≤◌}
use Rattle.csp_facts.specs.Numbers.{shape_count}
use Rattle.csp_answer.specs.Tables.{AnswerTheSame}
use Rattle.csp_answer.proofs.SameKinds.{one_kind, all_kinds}
use Rattle.csp_answer.proofs.SoFar.{none_there}
use Rattle.csp_answer.proofs.table.kinds_of.Goals as goal

pub loop-shape-preserved : goal.loop-shape-preserved
loop-shape-preserved c =
    let first = c.args.first.now in
    let second = c.args.second.now in
    let kind = c.in_ok-kind.kind in
    let here = subst (λ (n : ℕ). AnswerTheSame first second n kind) c.from-shape.ensures c.in_ok-kind.ensures in
    one_kind first second c.loop-shape.kinds c.push.new.self c.loop-shape.number kind c.loop-shape.invariant here c.in_ok-push.ensures.ok

pub returns : goal.returns
returns c =
    let past : shape_count ≤ c.loop-shape.number = none_there c.loop-shape.number c.shape_at.result c.shape_at.ensures (sym c.is_some.ensures ∙ c.loop-shape-test.false) in
    all_kinds c.args.first.now c.args.second.now c.loop-shape.kinds c.loop-shape.number c.loop-shape.invariant past c.each_number_is_one_shape.ensures.below
