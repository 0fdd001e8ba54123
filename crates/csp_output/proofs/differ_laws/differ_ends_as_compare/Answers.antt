use Rattle.csp_output.proofs.OneDiffering.{clean, said, same}
use Rattle.csp_output.proofs.differ_laws.differ_ends_as_compare.Goals as goal

pub returns-clause-said : goal.returns-clause-said
returns-clause-said c = said c.no_difference_is_inclusion.ensures

pub returns-clause-clean : goal.returns-clause-clean
returns-clause-clean c = clean c.no_difference_is_inclusion.ensures

pub returns-clause-same : goal.returns-clause-same
returns-clause-same c =
    same c.no_difference_is_inclusion.ensures c.a_comparison_has_one_status.ensures.status c.a_comparison_has_one_status.ensures.found
