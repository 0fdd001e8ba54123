use Rattle.std.proofs.Common.{rules, ◌≡◌, ◌↔◌, IsTrue, Bool, sym, subst}
use Rattle.csp_model.specs.DecideInline.{inline_allows}
use Rattle.csp_model.specs.Inline.{InlineAllows}
use Rattle.csp_model.proofs.InlineDecided.{inline_decides}
use Rattle.csp_rules.proofs.inline.inline_allows.Goals as goal

pub returns-in-Some-clause-allows : goal.returns-in-Some-clause-allows
returns-in-Some-clause-allows c =
    let a = c.args in
    let value : c.sources_allow_inline.result ≡ inline_allows a.policy.now a.kind a.nonce.now a.digests.now = search rules in
    subst (λ (b : Bool). IsTrue b ↔ InlineAllows a.policy.now a.kind a.nonce.now a.digests.now) (sym value)
    (inline_decides a.policy.now a.kind a.nonce.now a.digests.now)
