use Rattle.std.proofs.Common.{◌∙◌, ◌+◌, ap, sym, subst, Bool, List, map, drop}
use Rattle.std.specs.Prelude.{IfOk}
use Rattle.std.proofs.lemmas.Result.{IfOk-weaker}
use Rattle.csp_formula.specs.Sentences.{Sentence}
use Rattle.csp_formulas.specs.Formulas.{sentence_of}
use Rattle.csp_formulas.specs.declared.formula.Formula.{Formula}
use Rattle.csp_formulas.specs.declared.formula.Formula.TheVariants as formula
use Rattle.std.specs.Global.{Vec}
use Rattle.std.proofs.lemmas.List.{drop_all}
use Rattle.csp_formulas.specs.Residuals.{IsLeft, IsDenied, joined_by}
use Rattle.csp_formulas.proofs.LeftParts.{IsSoFar, so_far_here, differs, agrees, unsure_of, so_far_skip, so_far_push, so_far_stop, so_far_end}
use Rattle.csp_formulas.proofs.LeftOver.{says_Not, left_denied}
use Rattle.csp_formulas.proofs.residuals.+left.Goals as goal
use Rattle.csp_formulas.proofs.residuals.+left.Goals.{left_of_parts-in-Constant+else-known-every, left_of_parts-in_default+in_ok-push-in_default}

pub left_of-returns-in_ok-left_of-in-Not : goal.left_of-returns-in_ok-left_of-in-Not
left_of-returns-in_ok-left_of-in-Not t c =
    let ls = c.args.cell.now.literals in
    let part = c.in-Not.part.value in
    let old = c.in_ok-left_of-in-Not.field-0 in
    let says = ap sentence_of c.in-Not.is ∙ says_Not c.in-Not.part in
    let left = subst (λ (f : Formula). IsLeft ls (sentence_of f) old) c.deref.ensures c.in_ok-left_of-in-Not.ensures in
    subst (λ (s : Sentence). IfOk c.negate.result (IsLeft ls s)) (sym says)
    (IfOk-weaker c.negate.result (IsDenied old) _ (λ made is. left_denied ls (sentence_of part) old made left is) c.negate.ensures)

pub left_of_parts-returns-then-known-every : goal.left_of_parts-returns-then-known-every
left_of_parts-returns-then-known-every t c =
    let ls = c.args.cell.now.literals in
    let all = c.args.parts.now in
    let left = c.loop-part.left.items in
    let here = so_far_here ls c.args.every all left c.loop-part.part-index c.part-item.result c.loop-part.invariant c.loop-part-test.true c.part-item.is in
    let other = differs c.in-Constant.known c.args.every c.if-known-every.true in
    let stop = so_far_stop ls c.args.every all c.part-item.result (drop (c.loop-part.part-index + 1) all) left c.in_ok-rest.rest here c.in_ok-rest.ensures (c.in-Constant.is ∙ ap formula.Constant other) in
    subst (λ (b : Bool). IsLeft ls (joined_by c.args.every (map sentence_of all)) (formula.Constant b)) (sym other) stop

pub left_of_parts-loop-part-preserved : goal.left_of_parts-loop-part-preserved
left_of_parts-loop-part-preserved t c =
    let ls = c.args.cell.now.literals in
    let all = c.args.parts.now in
    let left = c.loop-part.left.items in
    let rest = drop (c.loop-part.part-index + 1) all in
    let here = so_far_here ls c.args.every all left c.loop-part.part-index c.part-item.result c.loop-part.invariant c.loop-part-test.true c.part-item.is in
    elim c.match-branch-2.branch [
      | left_of_parts-in-Constant+else-known-every w ↦
          let same = agrees w.in-Constant.known c.args.every w.if-known-every.false in
          subst (λ (v : Vec Formula). IsSoFar ls c.args.every all rest v.items) (sym w.left-is)
          (so_far_skip ls c.args.every all c.part-item.result rest left c.in_ok-rest.rest here c.in_ok-rest.ensures (w.in-Constant.is ∙ ap formula.Constant same))
      | left_of_parts-in_default+in_ok-push-in_default w ↦
          let unsure = unsure_of ls (sentence_of c.part-item.result) c.in_ok-rest.rest c.in_ok-rest.ensures w.in_default.not-Constant in
          let pushed = so_far_push ls c.args.every all c.part-item.result rest left c.in_ok-rest.rest here c.in_ok-rest.ensures unsure in
          subst (λ (v : Vec Formula). IsSoFar ls c.args.every all rest v.items) (sym w.left-is) (subst (IsSoFar ls c.args.every all rest) (sym w.in_ok-push-in_default.ensures.items) pushed)
    ]

pub left_of_parts-returns : goal.left_of_parts-returns
left_of_parts-returns t c =
    let ls = c.args.cell.now.literals in
    let all = c.args.parts.now in
    let left = c.loop-part.left.items in
    let so = subst (λ (rest : List Formula). IsSoFar ls c.args.every all rest left) (drop_all c.loop-part.part-index all c.loop-part-test.false) c.loop-part.invariant in
    so_far_end ls c.args.every all left c.join.result so c.join.ensures.says c.join.ensures.nothing c.join.ensures.some
