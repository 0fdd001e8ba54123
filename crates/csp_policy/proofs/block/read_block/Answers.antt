use Rattle.std.proofs.Common.{◌∙◌, ap}
use Rattle.csp_policy.specs.Refusal.{excess}
use Rattle.csp_policy.proofs.Readable.{list_readable}
use Rattle.csp_policy.proofs.block.read_block.Goals as goal

pub returns-in-None-clause-readable : goal.returns-in-None-clause-readable
returns-in-None-clause-readable c valid =
    let within = c.in-None.ensures _ c.in_ok-reader.ensures.read in
    list_readable c.args.bytes.now c.args.origin.now _ within.1 (ap excess within.1 ∙ within.0) valid
