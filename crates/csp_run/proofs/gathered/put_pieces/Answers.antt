use Rattle.std.proofs.Common.{◌∙◌, refl, arith}
use Rattle.csp_run.proofs.Gathering.{put_more, put_fails}
use Rattle.csp_run.proofs.gathered.put_pieces.Goals as goal

pub returns-in-Err-clause-prefix : goal.returns-in-Err-clause-prefix
returns-in-Err-clause-prefix g c =
    put_fails (λ piece. piece.now) c.args.pieces.now c.loop-piece.piece-index _ _ _ _ _ _ _ c.loop-piece-test.true refl
    c.loop-piece.invariant.put c.in-Err.ensures.prefix

pub loop-piece-preserved : goal.loop-piece-preserved
loop-piece-preserved g c = record {
  put =
      put_more (λ piece. piece.now) c.args.pieces.now c.loop-piece.piece-index _ _ _ _ _ _ _ _ c.loop-piece-test.true
      refl c.loop-piece.invariant.put c.in-Ok.ensures.put;
  later = omega (arith, c.put.ensures.later, c.loop-piece.invariant.later);
  no_fault = c.in-Ok.ensures.no_fault ∙ c.loop-piece.invariant.no_fault;
}
