use Rattle.std.proofs.Common.{◌≡◌, map, take}
use Rattle.csp_verdict.specs.Entries.{entry_of}
use Rattle.csp_verdict.proofs.compiled_policy.entries_of.Given as goal

-- the entries of the names so far
abbrev pub invariant-loop-name : goal.invariant-loop-name
invariant-loop-name l = l.made.items ≡ map (entry_of l.policy) (take l.name-index l.name-items)
