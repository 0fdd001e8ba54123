use Rattle.csp_model.specs.Policies.{block_lines}
use Rattle.csp_policy.proofs.Delivering.{kept_from}
use Rattle.csp_policy.proofs.laws.what_is_kept_is_the_list.Goals as goal

pub returns : goal.returns
returns c bytes origin = kept_from origin 1 (block_lines bytes)
