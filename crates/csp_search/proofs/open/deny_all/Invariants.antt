use Rattle.csp_search.proofs.Going.{Denies}
use Rattle.csp_search.proofs.open.deny_all.Given as goal

abbrev pub invariant-loop-name : goal.invariant-loop-name
invariant-loop-name l = Denies l.asked.question l.asked.names.now l.fn.walker l.walker l.name-index
