use Rattle.csp_formula.proofs.digests.slice_is_bytes.Goals as goal

pub returns : goal.returns
returns c = λ i. (c.type_inv.slice i).fits
