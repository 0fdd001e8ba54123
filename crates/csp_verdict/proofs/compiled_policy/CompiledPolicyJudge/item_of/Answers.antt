use Rattle.std.proofs.Common.{sym, ap, ◌∙◌}
use Rattle.csp_model.specs.declared.policy.Policy.{Policy}
use Rattle.csp_verdict.proofs.ItemGoverned.{item_is}
use Rattle.csp_verdict.proofs.compiled_policy.CompiledPolicyJudge.item_of.Goals as goal

pub returns : goal.returns
returns c =
    item_is c.args.number c.args.self.now c.args.check.now c.in_ok-found.found.now
    c.self.inside.policy.now.disposition c.effective_name-effective.result c.name.result
    (ap (λ (p : Policy). p.disposition) c.self.view_is) c.effective_name-effective.ensures c.name.ensures
    c.in_ok-found.ensures (sym c.governed_allows.ensures ∙ c.if-governed_allows.false)
