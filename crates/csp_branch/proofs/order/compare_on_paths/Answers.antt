use Rattle.csp_branch.proofs.Comparing.{paths_level, fronts_level, path_first, front_last}
use Rattle.csp_branch.proofs.order.compare_on_paths.Goals as goal

pub returns-in-PathIs-PathIs : goal.returns-in-PathIs-PathIs
returns-in-PathIs-PathIs c = paths_level _ _ _ _ _ c.in-PathIs-PathIs.is-0 c.in-PathIs-PathIs.is-1 c.compare_paths.ensures.value

pub returns-in-PathIs-PathUnder : goal.returns-in-PathIs-PathUnder
returns-in-PathIs-PathUnder c =
    path_first _ _ _ _ _ _ c.in-PathIs-PathUnder.is-0 c.in-PathIs-PathUnder.is-1 c.compare_paths-in-PathIs-PathUnder.ensures.text c.then.ensures

pub returns-in-PathUnder-PathIs : goal.returns-in-PathUnder-PathIs
returns-in-PathUnder-PathIs c =
    front_last _ _ _ _ _ _ c.in-PathUnder-PathIs.is-0 c.in-PathUnder-PathIs.is-1 c.compare_paths-in-PathUnder-PathIs.ensures.text c.then-in-PathUnder-PathIs.ensures

pub returns-in-PathUnder-PathUnder : goal.returns-in-PathUnder-PathUnder
returns-in-PathUnder-PathUnder c =
    fronts_level _ _ _ _ _ c.in-PathUnder-PathUnder.is-0 c.in-PathUnder-PathUnder.is-1 c.compare_paths-in-PathUnder-PathUnder.ensures.value
