use Rattle.std.proofs.Common.{◌≡◌, Err, arith}
use Rattle.std.proofs.lemmas.Grind.{common_steps}
use Rattle.csp_json.specs.View.{view}
use Rattle.csp_request.specs.Described.{lower_hex}
use Rattle.csp_request.proofs.Named.{needed_named}
use Rattle.csp_request.proofs.inline.digest_part.Goals as goal

pub returns-in_err-word-clause-digest : goal.returns-in_err-word-clause-digest
returns-in_err-word-clause-digest g c =
    let refused : c.from_residual.result ≡ Err c.in_err-word.field-0.0 = grind (arith, common_steps) in
    rw (needed_named c.args.name.now (lower_hex g.row.N) c.args.field (view c.args.value.now), ← c.in_err-word.ensures) refused
