use Rattle.std.proofs.lemmas.Result.{IfOk-weaker}
use Rattle.csp_pick.proofs.LastSegments.{unwritten}
use Rattle.csp_pick.proofs.NumberedPieces.{number_is_piece, number_is_kept}
use Rattle.csp_pick.proofs.Placed.{both_ok}
use Rattle.csp_pick.proofs.path.free_piece.Goals as goal

pub returns-clause-valid : goal.returns-clause-valid
returns-clause-valid c = IfOk-weaker c.fresh_text.result _ _ number_is_piece c.fresh_text.ensures.numbered

pub returns-clause-free : goal.returns-clause-free
returns-clause-free c =
    both_ok _ _ _ c.fresh_text.result
    (λ piece numbered fresh. unwritten piece c.args.literals.now (number_is_kept piece numbered) fresh) c.fresh_text.ensures.numbered c.fresh_text.ensures.fresh
