use Rattle.std.proofs.Common.{◌≡◌}
use Rattle.csp_search.proofs.probing.refuse.Given as goal

abbrev pub invariant-loop-name : goal.invariant-loop-name
invariant-loop-name l = record {
  can_next : (goal.iterator-loop-name).can_next l.name-iterator;
  is_finite : (goal.iterator-loop-name).is_finite l.name-iterator;
  same : l.walker ≡ l.fn.walker;
}
