use Rattle.std.proofs.lemmas.Result.{on_ok_weaker, on_err_weaker}
use Rattle.csp_run.proofs.Gathering.{then_put, then_fails}
use Rattle.csp_run.proofs.gathered.put_section.Goals as goal

pub returns-clause-put : goal.returns-clause-put
returns-clause-put g c =
    let first = rw c.as_bytes.ensures.value at c.in-Ok.ensures.put in
    on_ok_weaker c.put_telling.result (λ more. then_put _ _ _ _ _ _ _ _ first more) c.put_telling.ensures.put

pub returns-clause-prefix : goal.returns-clause-prefix
returns-clause-prefix g c =
    let first = rw c.as_bytes.ensures.value at c.in-Ok.ensures.put in
    on_err_weaker c.put_telling.result (λ failed. then_fails _ _ _ _ _ _ _ first failed) c.put_telling.ensures.prefix
