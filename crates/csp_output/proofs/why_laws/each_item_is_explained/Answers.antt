use Rattle.csp_output.proofs.ItemsExplained.{items_explained}
use Rattle.csp_output.proofs.why_laws.each_item_is_explained.Goals as goal

pub returns : goal.returns
returns c = items_explained
