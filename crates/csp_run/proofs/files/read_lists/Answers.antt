use Rattle.std.proofs.Common.{[], ◌∷◌, ◌++◌, ◌+◌, All, refl, subst, sym}
use Rattle.std.proofs.lemmas.List.Elements.{All-push}
use Rattle.std.proofs.lemmas.Result.{err_from_is_err_and}
use Rattle.csp_model.specs.Policies.{IsReadable}
use Rattle.csp_run.proofs.ListFiles.{length_more, one_fails, one_more, one_wants}
use Rattle.csp_run.proofs.files.read_lists.Goals as goal

pub returns-in_err-list-clause-read : goal.returns-in_err-list-clause-read
returns-in_err-list-clause-read g c =
    let p = err_from_is_err_and c.from_residual.result c.from_residual.ensures.1 in
    rw (p.1, p.2)
    (one_fails _ g.I.Inputs c.args.inputs.now c.loop-place.inputs c.read_list.new.inputs c.args.origin.now
    c.args.names.now c.loop-place.place c.index-names-place.result c.loop-place.lists c.in_err-list.field-0.0
    c.loop-place-test.true c.index-names-place.is c.loop-place.invariant.read c.in_err-list.ensures.read)

pub returns-in_err-push-clause-read : goal.returns-in_err-push-clause-read
returns-in_err-push-clause-read g c =
    let p = err_from_is_err_and c.from_residual-in_err-push.result c.from_residual-in_err-push.ensures.1 in
    rw (p.1, p.2)
    (one_wants _ g.I.Inputs c.args.inputs.now c.read_list.new.inputs c.args.origin.now c.args.names.now
    (c.loop-place.place + 1) (c.loop-place.lists ++ c.in_ok-list.list ∷ [])
    (one_more _ g.I.Inputs c.args.inputs.now c.loop-place.inputs c.read_list.new.inputs c.args.origin.now
    c.args.names.now c.loop-place.place c.index-names-place.result c.loop-place.lists _ c.in_ok-list.list
    c.loop-place-test.true c.index-names-place.is refl c.loop-place.invariant.read c.in_ok-list.ensures.read))

pub loop-place-preserved : goal.loop-place-preserved
loop-place-preserved g c = record {
  read = one_more _ g.I.Inputs c.args.inputs.now c.loop-place.inputs c.read_list.new.inputs c.args.origin.now
      c.args.names.now c.loop-place.place c.index-names-place.result c.loop-place.lists c.push.new.self
      c.in_ok-list.list c.loop-place-test.true c.index-names-place.is c.in_ok-push.ensures.ok
      c.loop-place.invariant.read c.in_ok-list.ensures.read;
  many = length_more c.loop-place.lists c.push.new.self c.in_ok-list.list c.loop-place.place c.in_ok-push.ensures.ok
      c.loop-place.invariant.many;
  readable = subst (All IsReadable) (sym c.in_ok-push.ensures.ok)
      (All-push IsReadable c.loop-place.lists c.in_ok-list.list c.loop-place.invariant.readable
      c.in_ok-list.ensures.readable);
}
