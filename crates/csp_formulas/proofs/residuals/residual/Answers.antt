use Rattle.std.proofs.lemmas.Result.{IfOk-weaker}
use Rattle.csp_formulas.specs.Formulas.{sentence_of}
use Rattle.csp_formulas.specs.Residuals.{IsLeft}
use Rattle.csp_formulas.proofs.LeftOver.{constant_where_sure, no_constant_elsewhere, undecided, value_kept, further_kept}
use Rattle.csp_formulas.proofs.residuals.residual.Goals as goal

pub returns-clause-constant_where_sure : goal.returns-clause-constant_where_sure
returns-clause-constant_where_sure c =
    let s = sentence_of c.args.formula.now in
    IfOk-weaker c.left_of.result (IsLeft c.args.cell.now.literals s) _ (λ left is. constant_where_sure c.args.cell.now.literals s left is) c.left_of.ensures

pub returns-clause-no_constant_elsewhere : goal.returns-clause-no_constant_elsewhere
returns-clause-no_constant_elsewhere c =
    let s = sentence_of c.args.formula.now in
    IfOk-weaker c.left_of.result (IsLeft c.args.cell.now.literals s) _ (λ left is. no_constant_elsewhere c.args.cell.now.literals s left is) c.left_of.ensures

pub returns-clause-undecided : goal.returns-clause-undecided
returns-clause-undecided c =
    let s = sentence_of c.args.formula.now in
    IfOk-weaker c.left_of.result (IsLeft c.args.cell.now.literals s) _ (λ left is. undecided c.args.cell.now.literals s left is) c.left_of.ensures

pub returns-clause-value : goal.returns-clause-value
returns-clause-value c =
    let s = sentence_of c.args.formula.now in
    IfOk-weaker c.left_of.result (IsLeft c.args.cell.now.literals s) _ (λ left is. value_kept c.args.cell.now.literals s left is) c.left_of.ensures

pub returns-clause-further : goal.returns-clause-further
returns-clause-further c =
    let s = sentence_of c.args.formula.now in
    IfOk-weaker c.left_of.result (IsLeft c.args.cell.now.literals s) _ (λ left is. further_kept c.args.cell.now.literals s left is) c.left_of.ensures
