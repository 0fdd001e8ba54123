use Rattle.std.proofs.Common.{List, ℕ, ◌∙◌, subst}
use Rattle.std.proofs.lemmas.Result.{on_ok_weaker, on_err_weaker}
use Rattle.csp_io.specs.Told.{GrewBy}
use Rattle.csp_io.proofs.Growth.{then_prefix}
use Rattle.csp_run.proofs.Gathering.{put_written}
use Rattle.csp_run.proofs.gathered.put.Goals as goal

pub returns-clause-put : goal.returns-clause-put
returns-clause-put g c =
    let P : List ℕ → Type 0 =
    λ l. GrewBy (g.S.Sink.taken c.args.out.now) (g.S.Sink.taken c.write_all.new.sink) l in
    let first = subst P (c.as_slice.ensures.value ∙ c.if-gather.ensures) c.in-Ok.ensures.taken in
    on_ok_weaker c.write_all-2.result
    (λ second. put_written _ _ _ _ _ _ c.clear.ensures.items first second) c.write_all-2.ensures.taken

pub returns-clause-prefix : goal.returns-clause-prefix
returns-clause-prefix g c =
    let P : List ℕ → Type 0 =
    λ l. GrewBy (g.S.Sink.taken c.args.out.now) (g.S.Sink.taken c.write_all.new.sink) l in
    let first = subst P (c.as_slice.ensures.value ∙ c.if-gather.ensures) c.in-Ok.ensures.taken in
    on_err_weaker c.write_all-2.result
    (λ failed. then_prefix _ _ _ _ _ first failed) c.write_all-2.ensures.prefix
