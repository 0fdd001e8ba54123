use Rattle.csp_model.proofs.ByteTests.{lower_is, not_scheme}
use Rattle.csp_model.proofs.scheme.is_lower_scheme.Goals as goal

pub returns-then-is_scheme : goal.returns-then-is_scheme
returns-then-is_scheme c = lower_is c.args.text.now c.as_bytes-bytes.result.now c.is_scheme.result c.has_no_upper_case.result c.as_bytes-bytes.ensures.value c.is_scheme.ensures c.has_no_upper_case.ensures c.if-is_scheme.true

pub returns-else-is_scheme : goal.returns-else-is_scheme
returns-else-is_scheme c = not_scheme c.args.text.now c.as_bytes-bytes.result.now c.is_scheme.result c.as_bytes-bytes.ensures.value c.is_scheme.ensures c.if-is_scheme.false
