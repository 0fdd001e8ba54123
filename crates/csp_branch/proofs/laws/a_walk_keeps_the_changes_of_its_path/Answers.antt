use Rattle.csp_branch.proofs.Changing.{changes_root, changes_more, changes_last, changes_less, last_named}
use Rattle.csp_branch.proofs.laws.a_walk_keeps_the_changes_of_its_path.Goals as goal

pub returns-clause-root : goal.returns-clause-root
returns-clause-root c = changes_root

pub returns-clause-more : goal.returns-clause-more
returns-clause-more c = changes_more

pub returns-clause-last : goal.returns-clause-last
returns-clause-last c = changes_last

pub returns-clause-named : goal.returns-clause-named
returns-clause-named c = last_named

pub returns-clause-less : goal.returns-clause-less
returns-clause-less c = changes_less
