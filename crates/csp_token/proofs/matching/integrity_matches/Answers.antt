use Rattle.std.proofs.Common.{arith, ◌≡◌}
use Rattle.std.proofs.lemmas.Grind.{common_steps}
use Rattle.csp_model.specs.DecideTokens as spec
use Rattle.csp_model.proofs.TokensDecided.{integrity_decides}
use Rattle.csp_token.proofs.matching.integrity_matches.Goals as goal

pub returns-then-not-is_empty-clause-matches : goal.returns-then-not-is_empty-clause-matches
returns-then-not-is_empty-clause-matches c =
    let value : c.has_hashes.result ≡ spec.integrity_matches c.args.integrity.now c.args.sources.now =
    grind (arith, common_steps) in
    rw value (integrity_decides c.args.integrity.now c.args.sources.now)
