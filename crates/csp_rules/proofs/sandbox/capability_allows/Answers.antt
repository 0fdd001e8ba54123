use Rattle.std.proofs.Common.{rules, ◌≡◌, ◌↔◌, IsTrue, Bool, sym, subst}
use Rattle.csp_model.specs.DecideNavigation.{capability_allows}
use Rattle.csp_model.specs.Navigation.{CapabilityAllows}
use Rattle.csp_model.proofs.NavigationDecided.{capability_decides}
use Rattle.csp_rules.proofs.sandbox.capability_allows.Goals as goal

pub returns-else-eq-clause-allows : goal.returns-else-eq-clause-allows
returns-else-eq-clause-allows c =
    let value : c.sandbox_grants.result ≡ capability_allows c.args.policy.now c.args.capability = search rules in
    subst (λ (b : Bool). IsTrue b ↔ CapabilityAllows c.args.policy.now c.args.capability) (sym value)
    (capability_decides c.args.policy.now c.args.capability)
