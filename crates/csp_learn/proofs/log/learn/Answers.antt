-- The policy is that of the log's needs, of which the laws say what it allows and that it reads back.
use Rattle.std.proofs.Common.{arith, ap, length, ◌≤◌}
use Rattle.csp_learn.specs.Allowed.{AllowsTheLog, AllowsWhatIsNeeded}
use Rattle.csp_learn.specs.Logs.{checks_of}
use Rattle.csp_learn.specs.Printed.{ReadsBack}
use Rattle.csp_learn.proofs.LogLaws.{checks_valid, of_answer}
use Rattle.csp_learn.proofs.log.learn.Goals as goal

pub returns-clause-allows : goal.returns-clause-allows
returns-clause-allows c =
    let log = c.args.descriptions.now in
    let past : length log ≤ c.loop-described.described-index = omega (arith, ap length c.as_slice-described-items.ensures) in
    of_answer (AllowsWhatIsNeeded (checks_of log)) c.args.origin.now log _ c.loop-described.learning c.finish.result past c.loop-described.invariant.0
    c.finish.ensures.policy c.finish.ensures.few
    (λ few. c.a_learnt_policy_allows_what_is_needed.ensures (checks_of log) c.args.origin.now (checks_valid log c.requires.valid))

pub returns-clause-allows_log : goal.returns-clause-allows_log
returns-clause-allows_log c =
    let log = c.args.descriptions.now in
    let past : length log ≤ c.loop-described.described-index = omega (arith, ap length c.as_slice-described-items.ensures) in
    of_answer (AllowsTheLog (checks_of log)) c.args.origin.now log _ c.loop-described.learning c.finish.result past c.loop-described.invariant.0
    c.finish.ensures.policy c.finish.ensures.few
    (λ few. c.a_learnt_policy_allows_its_log.ensures (checks_of log) c.args.origin.now (checks_valid log c.requires.valid))

pub returns-clause-back : goal.returns-clause-back
returns-clause-back c good =
    let log = c.args.descriptions.now in
    let past : length log ≤ c.loop-described.described-index = omega (arith, ap length c.as_slice-described-items.ensures) in
    of_answer (ReadsBack c.args.origin.now) c.args.origin.now log _ c.loop-described.learning c.finish.result past c.loop-described.invariant.0
    c.finish.ensures.policy c.finish.ensures.few
    (λ few. c.a_learnt_policy_reads_back.ensures.back (checks_of log) c.args.origin.now good (checks_valid log c.requires.valid) few)
