use Rattle.csp_branch.proofs.Nesting.{around_same_part, nest}
use Rattle.csp_branch.proofs.name_laws.atoms_are_nested_or_apart.Goals as goal

pub returns-clause-parts : goal.returns-clause-parts
returns-clause-parts c = around_same_part

pub returns-clause-nest : goal.returns-clause-nest
returns-clause-nest c = nest
