use Rattle.std.proofs.Common.{◌≡◌, ◌∙◌, sym, ap, refl, List, ℕ}
use Rattle.csp_model.specs.declared.url.Host.TheVariants.{Domain, Address}
use Rattle.csp_model.specs.Paths.{host_text}
use Rattle.csp_match.specs.Under.{any_suffixed}
use Rattle.csp_match.proofs.AnyLaws.{or_here, or_there}
use Rattle.csp_match.proofs.HostLaws.{by_exact, by_wider}
use Rattle.csp_match.proofs.host_index.HostIndex.matches.Goals as goal

pub returns-then-matches_under : goal.returns-then-matches_under
returns-then-matches_under c =
    by_exact _ c.args.asked.now c.args.self.now (c.as_bytes-text.ensures.value ∙ c.as_str.ensures)
    (rw c.exact.ensures.host at (sym c.matches_under.ensures ∙ c.if-matches_under.true))

pub returns-then-matches_under-2 : goal.returns-then-matches_under-2
returns-then-matches_under-2 c =
    by_wider _ c.args.asked.now c.args.self.now _ (c.as_bytes-text.ensures.value ∙ c.as_str.ensures)
    (rw c.exact.ensures.host at (sym c.matches_under.ensures ∙ c.if-matches_under.false))
    (Domain c.in-Domain.field-0) c.in-Domain.is
    (or_here _ _ _ c.matches_under-in-Domain.ensures c.if-matches_under-2.true)

pub returns-else-matches_under-2 : goal.returns-else-matches_under-2
returns-else-matches_under-2 c =
    let text = c.as_bytes-text.ensures.value ∙ c.as_str.ensures in
    let own : c.as_bytes-text.result.now ≡ c.in-Domain.field-0 = text ∙ ap host_text c.in-Domain.is in
    by_wider _ c.args.asked.now c.args.self.now _ text
    (rw c.exact.ensures.host at (sym c.matches_under.ensures ∙ c.if-matches_under.false))
    (Domain c.in-Domain.field-0) c.in-Domain.is
    (or_there _ _ _ _ c.matches_under-in-Domain.ensures c.if-matches_under-2.false
    (c.matches_suffix.ensures ∙ ap (λ (t : List ℕ). any_suffixed t c.args.asked.now c.args.self.now) own))

pub returns-in-Address : goal.returns-in-Address
returns-in-Address c =
    by_wider _ c.args.asked.now c.args.self.now _ (c.as_bytes-text.ensures.value ∙ c.as_str.ensures)
    (rw c.exact.ensures.host at (sym c.matches_under.ensures ∙ c.if-matches_under.false))
    (Address c.in-Address.field-0) c.in-Address.is refl
