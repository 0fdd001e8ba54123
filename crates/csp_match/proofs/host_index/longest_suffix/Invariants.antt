use Rattle.std.proofs.Common.{ℕ, ◌≤◌, ◌<◌, get_or}
use Rattle.csp_match.specs.Entries.{Entry}
use Rattle.csp_match.specs.Keys.{key_length}
use Rattle.csp_match.proofs.host_index.longest_suffix.Given as goal

abbrev pub invariant-loop-entry : goal.invariant-loop-entry
invariant-loop-entry l = (k : ℕ) (d : Entry) → k < l.entry-index → key_length (get_or l.entries k d).0 ≤ l.longest
