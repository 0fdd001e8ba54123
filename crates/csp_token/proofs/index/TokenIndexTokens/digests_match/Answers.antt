use Rattle.std.proofs.Common.{◌∙◌, ap}
use Rattle.csp_model.specs.DecideTokens as tests
use Rattle.csp_model.proofs.TokensDecided.{digests_decide}
use Rattle.csp_token.proofs.index.TokenIndexTokens.digests_match.Goals as goal

pub returns-clause-value : goal.returns-clause-value
returns-clause-value c =
    c.has.ensures ∙ c.self.invariant.has_digests c.args.digests.now c.digests_are_bytes.ensures
    ∙ ap (tests.digests_match c.args.digests.now) c.self.view_is

pub returns-clause-matches : goal.returns-clause-matches
returns-clause-matches c =
    let value = returns-clause-value c in
    rw value (digests_decide c.args.digests.now c.args.self.now)
