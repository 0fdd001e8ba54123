use Rattle.std.proofs.lemmas.List.Elements.{All-from_get_or}
use Rattle.percent_encoding.proofs.PercentLemmas.{IsByte}
use Rattle.csp_model.proofs.PathFronts.{pushed_either, pushed_ok}
use Rattle.csp_model.proofs.path.Path.push.Goals as goal

pub invariant_of-self : goal.invariant_of-self
invariant_of-self c =
    pushed_either c.push_piece.result _ _ c.args.piece.now c.self.invariant
    (All-from_get_or IsByte c.args.piece.now 0 (λ i within. (c.type_inv.piece i).fits))
    c.push_piece.ensures.ok c.push_piece.ensures.err

pub returns-clause-ok : goal.returns-clause-ok
returns-clause-ok c =
    rw (← c.self.view_is)
    (pushed_ok c.push_piece.result _ _ c.args.piece.now c.self.invariant
    (All-from_get_or IsByte c.args.piece.now 0 (λ i within. (c.type_inv.piece i).fits))
    c.push_piece.ensures.ok)
