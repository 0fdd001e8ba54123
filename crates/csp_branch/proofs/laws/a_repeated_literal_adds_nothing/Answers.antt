use Rattle.csp_branch.proofs.Literals.{repeat}
use Rattle.csp_branch.proofs.laws.a_repeated_literal_adds_nothing.Goals as goal

pub returns : goal.returns
returns c around place denied known positive asked forest state e = repeat around forest place denied known positive asked state e
