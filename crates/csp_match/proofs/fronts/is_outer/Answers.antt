use Rattle.std.proofs.Common.{◌∙◌, sym, ap, drop, length, is_eq}
use Rattle.std.proofs.lemmas.Bool.{false≢true}
use Rattle.std.proofs.lemmas.Bool.Decides.{Decides-eqb}
use Rattle.std.proofs.lemmas.Slice.Eq.{starts_is}
use Rattle.csp_match.specs.Entries.{entry_text}
use Rattle.csp_match.specs.Fronts.{host_cmp}
use Rattle.csp_match.proofs.KeyLaws.{level_host}
use Rattle.csp_match.proofs.RunOfKey.{equal_is}
use Rattle.csp_match.proofs.fronts.is_outer.Goals as goal

pub returns-then-eq : goal.returns-then-eq
returns-then-eq c =
    let x = c.args.outer.now in
    let y = c.args.inner.now in
    let starts = starts_is Decides-eqb (entry_text y) (entry_text x) c.starts_with.result
    (rw (← c.as_bytes-front.ensures.value, ← c.as_bytes.ensures.value) c.starts_with.ensures.value) in (
      λ h. (equal_is (host_cmp x.0 y.0) (level_host x.0 y.0 ∙ sym c.eq.ensures ∙ c.if-eq.true), (drop (length (entry_text x)) (entry_text y), starts.0 h)),
      λ (level, (more, is)). starts.1 more is,
    )

pub returns-else-eq : goal.returns-else-eq
returns-else-eq c =
    let x = c.args.outer.now in
    let y = c.args.inner.now in (
      λ h. absurd (false≢true (sym c.if-eq.false ∙ h)),
      λ (level, begins). c.eq.ensures ∙ sym (level_host x.0 y.0) ∙ ap is_eq level,
    )
