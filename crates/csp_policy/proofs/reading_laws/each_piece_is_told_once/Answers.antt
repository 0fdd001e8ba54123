use Rattle.csp_policy.specs.Fates.{delivered}
use Rattle.csp_policy.proofs.Telling.{told_kept, told_pieces, with_text}
use Rattle.csp_policy.proofs.reading_laws.each_piece_is_told_once.Goals as goal

pub returns-clause-pieces : goal.returns-clause-pieces
returns-clause-pieces c bytes =
    with_text c.each_piece_is_kept_or_dropped.ensures.kept_or_dropped (delivered bytes)

pub returns-clause-kept : goal.returns-clause-kept
returns-clause-kept c bytes = told_kept 0 (delivered bytes)

pub returns-clause-dropped : goal.returns-clause-dropped
returns-clause-dropped c bytes = told_pieces 0 (delivered bytes)
