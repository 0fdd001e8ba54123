use Rattle.std.proofs.Common.{List, sym, ap, ◌∙◌}
use Rattle.csp_model.specs.DecideInline.{sources_allow_inline}
use Rattle.csp_model.specs.declared.check.Check.{Check}
use Rattle.csp_model.specs.declared.source.Source.{Source}
use Rattle.csp_verdict.specs.Governed.{governed_allows}
use Rattle.csp_verdict.proofs.compiled_policy.CompiledPolicy.governed_allows.Goals as goal

pub returns-in-Inline : goal.returns-in-Inline
returns-in-Inline c =
    let a = c.in-Inline in
    c.sources_allow_inline.ensures.value
    ∙ ap (λ (s : List Source). sources_allow_inline a.kind a.nonce a.digests s) c.tokens-in-Inline.ensures
    ∙ sym (ap (λ (k : Check). governed_allows c.args.self.now k c.args.found.now) a.is)
