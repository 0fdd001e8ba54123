use Rattle.csp_search.proofs.Going.{GoesOn}
use Rattle.csp_search.proofs.probing.refuse_second.Given as goal

abbrev pub invariant-loop-conjunction : goal.invariant-loop-conjunction
invariant-loop-conjunction l = GoesOn l.asked l.fn.walker l.walker

abbrev pub invariant-loop-pair : goal.invariant-loop-pair
invariant-loop-pair l = GoesOn l.asked l.fn.walker l.walker
