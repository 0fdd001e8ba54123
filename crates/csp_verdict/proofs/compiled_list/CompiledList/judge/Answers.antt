use Rattle.std.proofs.Common.{◌≡◌, not, IfOk, List, map-id, ap, ◌∙◌, subst}
use Rattle.csp_model.specs.Verdict as spec
use Rattle.csp_model.specs.declared.check.Check.{Check}
use Rattle.csp_model.specs.declared.policy.PolicyList.{PolicyList}
use Rattle.csp_verdict.specs.Listed.{list_of}
use Rattle.csp_verdict.proofs.compiled_list.CompiledList.judge.Goals as goal

pub returns-clause-verdict : goal.returns-clause-verdict
returns-clause-verdict c =
    let P : PolicyList → Type 0 = λ l. IfOk c.verdict_of.result (λ made. made ≡ spec.verdict_of l c.as_slice-2.result.now) in
    let Q : List Check → Type 0 = λ k. IfOk c.verdict_of.result (λ made. made ≡ spec.verdict_of c.args.self.now k) in
    subst Q c.as_slice-2.ensures
    (subst P (ap list_of (map-id c.as_slice.result.now ∙ c.as_slice.ensures.value) ∙ c.self.view_is) c.verdict_of.ensures.verdict)

pub returns-clause-blocked : goal.returns-clause-blocked
returns-clause-blocked c =
    let P : PolicyList → Type 0 = λ l. IfOk c.verdict_of.result (λ made. made.blocked ≡ not (spec.allows_all l c.as_slice-2.result.now)) in
    let Q : List Check → Type 0 = λ k. IfOk c.verdict_of.result (λ made. made.blocked ≡ not (spec.allows_all c.args.self.now k)) in
    subst Q c.as_slice-2.ensures
    (subst P (ap list_of (map-id c.as_slice.result.now ∙ c.as_slice.ensures.value) ∙ c.self.view_is) c.verdict_of.ensures.blocked)
