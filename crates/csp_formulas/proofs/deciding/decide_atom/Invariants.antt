use Rattle.std.proofs.Common.{◌≡◌, drop}
use Rattle.csp_facts.specs.Follows.{decided}
use Rattle.csp_formulas.proofs.deciding.decide_atom.Given as goal

abbrev pub invariant-loop-literal : goal.invariant-loop-literal
invariant-loop-literal l = decided (drop l.literal-index l.literals) l.atom ≡ decided l.literals l.atom
