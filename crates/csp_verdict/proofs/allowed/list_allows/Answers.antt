use Rattle.std.proofs.Common.{rules, ◌≡◌, ◌↔◌, IsTrue, Bool, sym, subst}
use Rattle.csp_model.specs.Laws.{EnforcedAllow}
use Rattle.csp_model.specs.Verdict.{list_allows}
use Rattle.csp_model.proofs.VerdictDecided.{list_allows_decides}
use Rattle.csp_verdict.proofs.allowed.list_allows.Goals as goal

pub returns-clause-each : goal.returns-clause-each
returns-clause-each c =
    let value : c.each_enforced_allows.result ≡ list_allows c.args.list.now c.args.check.now = search rules in
    subst (λ (b : Bool). IsTrue b ↔ EnforcedAllow c.args.list.now c.args.check.now) (sym value)
    (list_allows_decides c.args.list.now c.args.check.now)
