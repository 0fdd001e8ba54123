use Rattle.std.proofs.Common.{◌≢◌, ◌<◌, ℕ, None, get_or}
use Rattle.csp_facts.specs.Follows.{decided}
use Rattle.csp_branch.specs.Groups.{atom_in}
use Rattle.csp_search.proofs.step.open_name.Given as goal

-- no name so far is open
abbrev pub invariant-loop-name : goal.invariant-loop-name
invariant-loop-name l = (k : ℕ) → k < l.name-index
    → decided l.branch.literals (atom_in l.branch.atoms (get_or l.name-items k 0)) ≢ None
