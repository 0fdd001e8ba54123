use Rattle.std.proofs.Common.{rules, ◌≡◌, ◌↔◌, IsTrue, Bool, sym, subst}
use Rattle.csp_model.specs.DecideNavigation.{worker_start_allows}
use Rattle.csp_model.specs.Navigation.{WorkerStartAllows}
use Rattle.csp_model.proofs.NavigationDecided.{worker_start_decides}
use Rattle.csp_rules.proofs.sandbox.worker_start_allows.Goals as goal

pub returns-then-sandbox_grants-clause-allows : goal.returns-then-sandbox_grants-clause-allows
returns-then-sandbox_grants-clause-allows c =
    let value : c.sandbox_grants-then-sandbox_grants.result ≡ worker_start_allows c.args.policy.now = search rules in
    subst (λ (b : Bool). IsTrue b ↔ WorkerStartAllows c.args.policy.now) (sym value) (worker_start_decides c.args.policy.now)
