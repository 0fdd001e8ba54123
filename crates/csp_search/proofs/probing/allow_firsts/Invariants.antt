use Rattle.csp_search.proofs.Going.{GoesOn}
use Rattle.csp_search.proofs.probing.allow_firsts.Given as goal

abbrev pub invariant-loop-place : goal.invariant-loop-place
invariant-loop-place l = GoesOn l.asked l.fn.walker l.walker
