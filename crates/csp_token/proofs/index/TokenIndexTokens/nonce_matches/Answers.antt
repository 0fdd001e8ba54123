use Rattle.std.proofs.Common.{arith, ◌≡◌, ◌∙◌, ap}
use Rattle.std.specs.List.{list_any}
use Rattle.std.proofs.lemmas.Grind.{common_steps}
use Rattle.csp_model.specs.DecideTokens as tests
use Rattle.csp_model.proofs.TokensDecided.{nonce_decides}
use Rattle.csp_token.specs.Index.{has_text}
use Rattle.csp_token.proofs.index.TokenIndexTokens.nonce_matches.Goals as goal

pub returns-then-not-is_empty-clause-value : goal.returns-then-not-is_empty-clause-value
returns-then-not-is_empty-clause-value c =
    let found : c.contains.result ≡ list_any (tests.is_nonce c.args.nonce.now) c.args.self.now =
    c.contains.ensures ∙ ap (λ text. has_text text c.self.inside.nonces) c.as_str-then-not-is_empty.ensures.text
    ∙ c.self.invariant.has_nonces c.args.nonce.now ∙ ap (list_any (tests.is_nonce c.args.nonce.now)) c.self.view_is in
    grind (arith, common_steps, found)

pub returns-then-not-is_empty-clause-matches : goal.returns-then-not-is_empty-clause-matches
returns-then-not-is_empty-clause-matches c =
    let value = returns-then-not-is_empty-clause-value c in
    rw value (nonce_decides c.args.nonce.now c.args.self.now)
