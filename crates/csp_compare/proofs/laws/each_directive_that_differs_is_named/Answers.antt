use Rattle.csp_compare.proofs.NoneDiffers.{named, same_directives}
use Rattle.csp_compare.proofs.laws.each_directive_that_differs_is_named.Goals as goal

pub returns-clause-named : goal.returns-clause-named
returns-clause-named c = named

pub returns-clause-same : goal.returns-clause-same
returns-clause-same c = same_directives
