use Rattle.csp_branch.proofs.Literals.{contrary}
use Rattle.csp_branch.proofs.laws.a_contrary_literal_decides_all.Goals as goal

pub returns : goal.returns
returns c around place denied known positive asked forest state e = contrary around forest place denied known positive asked state e
