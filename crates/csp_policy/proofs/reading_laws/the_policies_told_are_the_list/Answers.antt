use Rattle.std.proofs.Common.{◌∙◌, ap}
use Rattle.csp_policy.specs.Fates.{delivered}
use Rattle.csp_policy.specs.ReadingLaws.{numbered}
use Rattle.csp_policy.proofs.Telling.{listed, told_policies}
use Rattle.csp_policy.proofs.reading_laws.the_policies_told_are_the_list.Goals as goal

pub returns-clause-policies : goal.returns-clause-policies
returns-clause-policies c bytes origin =
    told_policies origin 0 (delivered bytes) ∙ ap (numbered 0) (c.what_is_kept_is_the_list.ensures bytes origin)

pub returns-clause-list : goal.returns-clause-list
returns-clause-list c bytes origin list is =
    told_policies origin 0 (delivered bytes)
    ∙ ap (numbered 0) (c.what_is_kept_is_the_list.ensures bytes origin ∙ listed bytes origin list is)
