use Rattle.csp_model.specs.Policies.{token_count}
use Rattle.csp_tidy.specs.Asking.{IsThinner}
use Rattle.csp_tidy.proofs.rounds.settle.Given as goal

abbrev pub invariant-loop-current : goal.invariant-loop-current
invariant-loop-current l = IsThinner l.list l.current

abbrev pub decreases-loop-current : goal.decreases-loop-current
decreases-loop-current l = token_count l.current.policies
