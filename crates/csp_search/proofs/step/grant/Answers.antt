use Rattle.std.proofs.Common.{◌≡◌, rules, true}
use Rattle.csp_proof.specs.Accepts.{blocks}
use Rattle.csp_search.specs.Questions.{lists_of, pair_of}
use Rattle.csp_search.proofs.Blocking.{blocked_leaf}
use Rattle.csp_search.proofs.step.grant.Goals as goal

pub returns-in-Block-clause-step : goal.returns-in-Block-clause-step
returns-in-Block-clause-step c =
    let lists = lists_of c.args.asked.question in
    let pair = pair_of c.args.asked.question in
    let blocked : blocks lists pair c.args.walker.now.literals c.in-Block.policy ≡ true = search rules in
    blocked_leaf lists pair c.args.walker.now.literals c.in-Block.policy c.requires.asked.posed.lists.first.policies blocked
