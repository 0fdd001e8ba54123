use Rattle.csp_policy.specs.Fates.{delivered}
use Rattle.csp_policy.proofs.Telling.{told_lines}
use Rattle.csp_policy.proofs.reading_laws.each_policy_is_told_once.Goals as goal

pub returns : goal.returns
returns c bytes = told_lines 0 (delivered bytes)
