use Rattle.std.proofs.Common.{ℕ, List, OnOk, OnErr, subst}
use Rattle.csp_io.specs.Told.{GrewBy, GrewByPrefix}
use Rattle.csp_run.proofs.Pieces.{same_text}
use Rattle.csp_run.proofs.fault_text.write_fault.Goals as goal

pub returns-clause-taken : goal.returns-clause-taken
returns-clause-taken g c =
    let P : List ℕ → Type 0 = λ text. OnOk c.write_pieces.result
    (GrewBy (g.S.Sink.taken c.args.out.now) (g.S.Sink.taken c.write_pieces.new.out) text) in
    subst P (same_text _ _ c.pieces-pieces.ensures) c.write_pieces.ensures.taken

pub returns-clause-prefix : goal.returns-clause-prefix
returns-clause-prefix g c =
    let P : List ℕ → Type 0 = λ text. OnErr c.write_pieces.result
    (GrewByPrefix (g.S.Sink.taken c.args.out.now) (g.S.Sink.taken c.write_pieces.new.out) text) in
    subst P (same_text _ _ c.pieces-pieces.ensures) c.write_pieces.ensures.prefix
