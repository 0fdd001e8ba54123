use Rattle.csp_run.proofs.DifferingRuns.{clean_so, named_so}
use Rattle.csp_run.proofs.command_laws.differ_names_each_directive.Goals as goal

pub returns-clause-named : goal.returns-clause-named
returns-clause-named c = named_so c.each_directive_that_differs_is_named.ensures.named

pub returns-clause-clean : goal.returns-clause-clean
returns-clause-clean c = clean_so c.differ_ends_as_compare.ensures.clean
