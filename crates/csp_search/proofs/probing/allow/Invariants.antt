use Rattle.csp_search.proofs.Going.{GoesOn}
use Rattle.csp_search.proofs.probing.allow.Given as goal

abbrev pub invariant-loop-name : goal.invariant-loop-name
invariant-loop-name l = record {
  can_next : (goal.iterator-loop-name).can_next l.name-iterator;
  is_finite : (goal.iterator-loop-name).is_finite l.name-iterator;
  goes_on : GoesOn l.asked l.fn.walker l.walker;
}
