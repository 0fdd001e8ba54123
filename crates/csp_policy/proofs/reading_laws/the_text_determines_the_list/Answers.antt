use Rattle.csp_policy.proofs.Determined.{determined}
use Rattle.csp_policy.proofs.reading_laws.the_text_determines_the_list.Goals as goal

pub returns : goal.returns
returns c = determined c.what_is_kept_is_the_list.ensures
