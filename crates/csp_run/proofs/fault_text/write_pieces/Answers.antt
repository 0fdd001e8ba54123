use Rattle.std.proofs.Common.{◌∙◌, arith}
use Rattle.std.proofs.lemmas.List.{drop_all}
use Rattle.csp_run.proofs.Pieces.{one_more, fails_at, ends}
use Rattle.csp_run.proofs.fault_text.write_pieces.Goals as goal

pub returns-in-Err-clause-prefix : goal.returns-in-Err-clause-prefix
returns-in-Err-clause-prefix g c =
    fails_at _ _ _ _ _ _ _ _ _ _ c.loop-piece-test.true c.as_bytes.ensures.value c.loop-piece.invariant.rest
    c.in-Err.ensures.prefix

pub loop-piece-preserved : goal.loop-piece-preserved
loop-piece-preserved g c = record {
  rest =
      one_more _ _ _ _ _ _ _ _ _ _ c.loop-piece-test.true c.as_bytes.ensures.value
      c.loop-piece.invariant.rest c.in-Ok.ensures.taken;
  later = omega (arith, c.write_all.ensures.later, c.loop-piece.invariant.later);
  no_fault = c.in-Ok.ensures.no_fault ∙ c.loop-piece.invariant.no_fault;
}

pub returns-clause-taken : goal.returns-clause-taken
returns-clause-taken g c = ends _ _ _ _ _ _ c.loop-piece.invariant.rest (drop_all _ _ c.loop-piece-test.false)
