use Rattle.std.proofs.Common.{◌∙◌, sym}
use Rattle.csp_pick.proofs.DigestsMet.{each_byte, said_size, said_meets, free_meets}
use Rattle.csp_pick.proofs.digest.pick_digest.Goals as goal

pub copy_from_slice-requires : goal.copy_from_slice-requires
copy_from_slice-requires c =
    c.requires ∙ sym (said_size c.args.algorithm c.args.cell.now c.placing.ensures.cell c.in-Some.said.now (rw c.placing.ensures.placing at c.in-Some.ensures))

pub returns-in-Some-clause-valid : goal.returns-in-Some-clause-valid
returns-in-Some-clause-valid c = (c.copy_from_slice.ensures.len ∙ c.requires, each_byte c.copy_from_slice.new.self (λ i. (c.type_inv.digest i).fits))

pub returns-in-Some-clause-meets : goal.returns-in-Some-clause-meets
returns-in-Some-clause-meets c =
    rw c.copy_from_slice.ensures.after
    (said_meets c.args.algorithm c.args.cell.now c.placing.ensures.cell c.in-Some.said.now (rw c.placing.ensures.placing at c.in-Some.ensures))

pub returns-in-None-clause-valid : goal.returns-in-None-clause-valid
returns-in-None-clause-valid c = (c.put_lead.auto.digest ∙ c.requires, each_byte c.put_lead.new.digest (λ i. (c.type_inv.digest i).fits))

pub returns-in-None-clause-meets : goal.returns-in-None-clause-meets
returns-in-None-clause-meets c =
    free_meets c.args.algorithm c.args.cell.now c.placing.ensures.cell c.put_lead.new.digest (rw c.placing.ensures.placing at c.in-None.ensures)
    (rw (← c.others.ensures.others, c.put_lead.ensures) c.free_number-number.ensures.free)
