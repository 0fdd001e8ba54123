use Rattle.csp_model.proofs.AsciiLaws.{IsUtf8-from_ascii_text}
use Rattle.csp_model.proofs.text.Text.from_ascii.Goals as goal

pub unreachable-requires : goal.unreachable-requires
unreachable-requires c = c.in-Err.ensures.cases.0 (IsUtf8-from_ascii_text c.args.ascii.now c.requires)
