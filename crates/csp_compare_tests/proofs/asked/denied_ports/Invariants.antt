use Rattle.std.proofs.Common.{◌≡◌, ◌+◌, ◌≤◌, filter, length, drop}
use Rattle.csp_pick.specs.Picks.{denies_port}
use Rattle.csp_compare_tests.proofs.asked.denied_ports.Given as goal

abbrev pub invariant-loop-literal : goal.invariant-loop-literal
invariant-loop-literal l = (l.count ≤ l.literal-index)
    × (l.count + length (filter denies_port (drop l.literal-index l.literals)) ≡ length (filter denies_port l.literals))
