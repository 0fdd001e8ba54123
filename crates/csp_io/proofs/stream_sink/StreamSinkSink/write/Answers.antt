use Rattle.std.proofs.Common.{[], take, append-nil, arith, rules}
use Rattle.csp_io.proofs.Handed.{appends_none, appends_nothing, then_kept}
use Rattle.csp_io.proofs.stream_sink.StreamSinkSink.write.Goals as goal
use Rattle.csp_io.proofs.stream_sink.StreamSinkSink.write.Goals.{in_default-via-in-Ok+else-is_empty, then-n-gt0, else-n-gt0, in_default-via-in_default}

pub returns-in-Err-clause-handed : goal.returns-in-Err-clause-handed
returns-in-Err-clause-handed g c = (
  take c.in-Ok.n c.args.piece.now,
  search (rules, c.fault.ensures.taken, c.then_all-self.ensures),
  rw c.fault.ensures.writer (then_kept _ _ _ _ c.in-Ok.ensures.bytes c.in-Err.ensures.bytes),
)

pub returns-in_default-clause-handed : goal.returns-in_default-clause-handed
returns-in_default-clause-handed g c = (
  [],
  search (rules, c.fault-in_default.ensures.taken, append-nil),
  rw c.fault-in_default.ensures.writer elim c.in_default.branch [
    | in_default-via-in-Ok+else-is_empty w ↦ appends_none _ _ w.in-Ok.n c.args.piece.now w.in-Ok.ensures.bytes elim w.if-n-gt0.branch [
      | then-n-gt0 v ↦ absurd (grind (arith, v.value-is, w.if-is_empty.false))
      | else-n-gt0 v ↦ omega (arith, v.if-n-gt0.false)
    ]
    | in_default-via-in_default w ↦ appends_nothing _ _ w.in_default.ensures.bytes
  ],
)
