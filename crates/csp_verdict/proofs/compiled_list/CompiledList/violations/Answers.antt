use Rattle.std.proofs.Common.{◌≡◌, IfOk, map-id, ap, ◌∙◌, subst}
use Rattle.csp_model.specs.Verdict.{violations_of}
use Rattle.csp_model.specs.declared.policy.PolicyList.{PolicyList}
use Rattle.csp_verdict.specs.Listed.{list_of}
use Rattle.csp_verdict.proofs.compiled_list.CompiledList.violations.Goals as goal

pub returns : goal.returns
returns c = record {
  violations =
      let P : PolicyList → Type 0 = λ l. IfOk c.violations_of.result (λ made. made ≡ violations_of l c.args.described.now) in
      subst P (ap list_of (map-id c.as_slice.result.now ∙ c.as_slice.ensures.value) ∙ c.self.view_is) c.violations_of.ensures;
}
