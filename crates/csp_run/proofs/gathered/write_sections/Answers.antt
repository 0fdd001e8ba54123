use Rattle.std.proofs.lemmas.Result.{on_ok_weaker, on_err_weaker}
use Rattle.csp_run.proofs.Gathering.{all_written, not_all_written}
use Rattle.csp_run.proofs.gathered.write_sections.Goals as goal

pub returns-in-Err-clause-prefix : goal.returns-in-Err-clause-prefix
returns-in-Err-clause-prefix g c = rw c.new-gathered.ensures.items at c.in-Err.ensures.prefix

pub returns-clause-taken : goal.returns-clause-taken
returns-clause-taken g c =
    let so_far = rw c.new-gathered.ensures.items at c.in-Ok.ensures.put in
    on_ok_weaker c.write_all.result (λ last. all_written _ _ _ _ _ so_far last)
    (rw c.as_slice.ensures.value at c.write_all.ensures.taken)

pub returns-clause-prefix : goal.returns-clause-prefix
returns-clause-prefix g c =
    let so_far = rw c.new-gathered.ensures.items at c.in-Ok.ensures.put in
    on_err_weaker c.write_all.result (λ last. not_all_written _ _ _ _ _ so_far last)
    (rw c.as_slice.ensures.value at c.write_all.ensures.prefix)
