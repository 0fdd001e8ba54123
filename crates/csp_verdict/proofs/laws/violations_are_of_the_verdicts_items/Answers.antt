use Rattle.csp_verdict.proofs.ItemsReported.{reported_items}
use Rattle.csp_verdict.proofs.laws.violations_are_of_the_verdicts_items.Goals as goal

pub returns : goal.returns
returns c = reported_items
