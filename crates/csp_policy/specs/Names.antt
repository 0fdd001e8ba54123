-- Words of a private type's impls and of private contracts, which stand here since they cite only specs/.
use Rattle.std.specs.Prelude.{◌≡◌, ℕ, List}
use Rattle.std.specs.BTreeSet as set
use Rattle.std.specs.BTreeSet.{BTreeSet}
use Rattle.std.specs.Cmp.Lexicographic.{slice_cmp}
use Rattle.std.specs.List.{filter_map}
use Rattle.std.specs.Ordering.{nat_cmp}
use Rattle.std.specs.declared.cmp.Ordering.{Ordering}
use Rattle.csp_model.specs.Ascii.{lower}
use Rattle.csp_model.specs.Policies.{directive_of, firsts}
use Rattle.csp_policy.specs.Types.{Directive, CaselessName}
use Rattle.csp_policy.specs.Fates.{has_name}

-- the name in lower case
abbrev pub folded : CaselessName → List ℕ
folded name = lower name.bytes.now

-- the order of names
abbrev pub name_cmp : CaselessName → CaselessName → Ordering
name_cmp a b = slice_cmp nat_cmp (folded a) (folded b)

-- the set has the names of these directives
abbrev pub Knows : BTreeSet CaselessName → List Directive → Type 0
Knows seen ds = (q : CaselessName) → set.contains name_cmp seen q ≡ has_name (folded q) ds

-- the set has the names of the directives of these pieces
abbrev pub KnowsNames : BTreeSet CaselessName → List (List ℕ) → Type 0
KnowsNames seen pieces = Knows seen (firsts (filter_map directive_of pieces))
