-- A set of hashes that has those of a source list.
use Rattle.std.specs.Prelude.{◌≡◌, Bool, List}
use Rattle.std.specs.Borrow.{Bor}
use Rattle.std.specs.BTreeSet.{BTreeSet, contains_by}
use Rattle.std.specs.List.{list_any}
use Rattle.csp_model.specs.DecideTokens.{is_hash}
use Rattle.csp_model.specs.contracts.source.HashOrd.TheImpl as order
use Rattle.csp_model.specs.declared.source.Hash.{Hash}
use Rattle.csp_model.specs.declared.source.Source.{Source}

-- the set has the hash
abbrev pub is_in : BTreeSet (Bor Hash) → Hash → Bool
is_in set h = contains_by (λ key. (order.ghosts).cmp h key.now) set

abbrev pub IsSetOf : List Source → BTreeSet (Bor Hash) → Type 0
IsSetOf sources set = (h : Hash) → is_in set h ≡ list_any (is_hash h) sources
