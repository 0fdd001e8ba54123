use Rattle.csp_run.proofs.files.read_operands.Goals as goal

pub returns-in-Ok-read_bytes-clause-read : goal.returns-in-Ok-read_bytes-clause-read
returns-in-Ok-read_bytes-clause-read g c =
    rw c.in-Learnt.is (c.in-Ok-read_bytes.ensures.read c.args.origin.now)

pub returns-in-Err-read_bytes-clause-read : goal.returns-in-Err-read_bytes-clause-read
returns-in-Err-read_bytes-clause-read g c =
    rw c.in-Learnt.is (c.in-Err-read_bytes.ensures.read c.args.origin.now)
