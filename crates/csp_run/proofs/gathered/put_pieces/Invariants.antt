-- What stands before the piece is put.
use Rattle.std.proofs.Common.{◌≡◌, ◌≤◌, take}
use Rattle.std.specs.List.{flat_map}
use Rattle.csp_run.specs.Gathered.{HasPut}
use Rattle.csp_run.proofs.gathered.put_pieces.Given as goal

abbrev pub invariant-loop-piece : goal.invariant-loop-piece
invariant-loop-piece g l = record {
  put : HasPut (g.S.Sink.taken l.fn.out) (g.S.Sink.taken l.out) l.fn.gathered.items l.gathered.items
      (flat_map (λ piece. piece.now) (take l.piece-index l.pieces));
  later : g.S.Sink.faults l.fn.out ≤ g.S.Sink.faults l.out;
  no_fault : g.S.Sink.faults l.out ≡ g.S.Sink.faults l.fn.out;
}
