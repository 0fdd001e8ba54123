use Rattle.std.proofs.Common.{arith, ◌≡◌}
use Rattle.std.proofs.lemmas.Grind.{common_steps}
use Rattle.csp_model.specs.DecideTokens as spec
use Rattle.csp_model.proofs.TokensDecided.{nonce_decides}
use Rattle.csp_token.proofs.matching.nonce_matches.Goals as goal

pub returns-then-not-is_empty-clause-matches : goal.returns-then-not-is_empty-clause-matches
returns-then-not-is_empty-clause-matches c =
    let value : c.has_nonce.result ≡ spec.nonce_matches c.args.nonce.now c.args.sources.now =
    grind (arith, common_steps) in
    rw value (nonce_decides c.args.nonce.now c.args.sources.now)
