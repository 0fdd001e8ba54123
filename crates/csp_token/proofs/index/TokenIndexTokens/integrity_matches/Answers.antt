use Rattle.std.proofs.Common.{arith, ◌≡◌, ◌∙◌, ap}
use Rattle.std.specs.List.{list_any, list_all}
use Rattle.std.proofs.lemmas.Grind.{common_steps}
use Rattle.csp_model.specs.DecideTokens as tests
use Rattle.csp_model.proofs.TokensDecided.{integrity_decides}
use Rattle.csp_token.proofs.IndexSteps.{all_pairs}
use Rattle.csp_token.proofs.index.TokenIndexTokens.integrity_matches.Goals as goal

pub returns-then-not-is_empty-clause-value : goal.returns-then-not-is_empty-clause-value
returns-then-not-is_empty-clause-value c =
    let found : c.has_all.result ≡ list_all (λ h. list_any (tests.is_hash h) c.args.self.now) c.args.integrity.now =
    c.has_all.ensures
    ∙ all_pairs c.args.integrity.now c.self.inside.sources.now c.self.inside.pairs c.self.invariant.has_pairs
    ∙ ap (λ sources. list_all (λ h. list_any (tests.is_hash h) sources) c.args.integrity.now) c.self.view_is in
    grind (arith, common_steps, found)

pub returns-then-not-is_empty-clause-matches : goal.returns-then-not-is_empty-clause-matches
returns-then-not-is_empty-clause-matches c =
    let value = returns-then-not-is_empty-clause-value c in
    rw value (integrity_decides c.args.integrity.now c.args.self.now)
