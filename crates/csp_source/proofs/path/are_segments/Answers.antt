use Rattle.std.proofs.Common.{arith}
use Rattle.csp_source.proofs.PathLaws.{are_segments-at, are_segments-at_slash}
use Rattle.csp_source.proofs.path.are_segments.Goals as goal

pub returns-then-first-ne47 : goal.returns-then-first-ne47
returns-then-first-ne47 c = let segments = are_segments-at c.args.text.now _ _ c.in-Some.ensures.cases.0 in grind arith

pub returns-else-first-ne47 : goal.returns-else-first-ne47
returns-else-first-ne47 c = are_segments-at_slash c.args.text.now _ _ c.in-Some.ensures.cases.0 c.if-first-ne47.false
