use Rattle.std.proofs.Common.{◌≡◌, ◌≤◌, drop}
use Rattle.csp_run.proofs.Pieces.{Remaining}
use Rattle.csp_run.proofs.fault_text.write_pieces.Given as goal

abbrev pub invariant-loop-piece : goal.invariant-loop-piece
invariant-loop-piece g l = record {
  rest : Remaining _ (λ piece. piece.now) (g.S.Sink.taken l.fn.out) (g.S.Sink.taken l.out) l.pieces
      (drop l.piece-index l.pieces);
  later : g.S.Sink.faults l.fn.out ≤ g.S.Sink.faults l.out;
  no_fault : g.S.Sink.faults l.out ≡ g.S.Sink.faults l.fn.out;
}
