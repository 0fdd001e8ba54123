use Rattle.csp_why.proofs.allowance.allowance.Goals as goal

pub returns-in-Inline : goal.returns-in-Inline
returns-in-Inline c = rw c.in-Inline.is c.inline_allowance.ensures
