use Rattle.csp_branch.proofs.Rows.{rows, rows_of_pairs, rows_apart, row_of_denial}
use Rattle.csp_branch.proofs.name_laws.the_table_is_told_by_what_is_around.Goals as goal

pub returns-clause-one_part : goal.returns-clause-one_part
returns-clause-one_part c = rows

pub returns-clause-integrity : goal.returns-clause-integrity
returns-clause-integrity c = rows_of_pairs

pub returns-clause-other_parts : goal.returns-clause-other_parts
returns-clause-other_parts c = rows_apart

pub returns-clause-negation : goal.returns-clause-negation
returns-clause-negation c = row_of_denial
