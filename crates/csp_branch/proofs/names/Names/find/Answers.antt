use Rattle.std.proofs.Common.{◌≡◌, refl, subst, ◌≤◌, List, length, slice_get, Some, rules}
use Rattle.std.proofs.lemmas.Option.{slice_get_read}
use Rattle.csp_facts.specs.declared.atom.Atom.{Atom}
use Rattle.csp_branch.proofs.Finding.{another_there, below_at, beyond_all, itself_there}
use Rattle.csp_branch.proofs.names.Names.find.Goals as goal

pub returns-in_err-found : goal.returns-in_err-found
returns-in_err-found c =
    let atoms = c.args.self.now in
    let rise = c.atoms-atoms.ensures.order.rise in
    let name = c.partition_point-name.result in
    let point = below_at atoms c.atoms-atoms.result.now c.args.atom.now name rise c.atoms-atoms.ensures.atoms c.partition_point-name.ensures.partitioned (λ a r q h. search rules) in
    let past : length atoms ≤ name = subst (λ (l : List Atom). length l ≤ name) c.atoms-atoms.ensures.atoms c.in_err-found.ensures.lookup.3 in
    rw c.from_residual.ensures (beyond_all atoms c.args.atom.now rise name point past)

pub returns-then-is_eq : goal.returns-then-is_eq
returns-then-is_eq c =
    let atoms = c.args.self.now in
    let name = c.partition_point-name.result in
    let found = c.in_ok-found.found.now in
    let at : slice_get atoms name ≡ Some found =
    subst (λ (l : List Atom). slice_get l name ≡ Some found) c.atoms-atoms.ensures.atoms
    (slice_get_read _ _ name found refl c.in_ok-found.ensures.lookup.3.0 c.in_ok-found.ensures.lookup.1) in
    itself_there atoms c.args.atom.now c.atoms-atoms.ensures.order.rise name found at (rw (c.compare_names.ensures) at (rw c.is_eq.ensures at c.if-is_eq.true))

pub returns-else-is_eq : goal.returns-else-is_eq
returns-else-is_eq c =
    let atoms = c.args.self.now in
    let rise = c.atoms-atoms.ensures.order.rise in
    let name = c.partition_point-name.result in
    let found = c.in_ok-found.found.now in
    let point = below_at atoms c.atoms-atoms.result.now c.args.atom.now name rise c.atoms-atoms.ensures.atoms c.partition_point-name.ensures.partitioned (λ a r q h. search rules) in
    let at : slice_get atoms name ≡ Some found =
    subst (λ (l : List Atom). slice_get l name ≡ Some found) c.atoms-atoms.ensures.atoms
    (slice_get_read _ _ name found refl c.in_ok-found.ensures.lookup.3.0 c.in_ok-found.ensures.lookup.1) in
    another_there atoms c.args.atom.now rise name found point at (rw (c.compare_names.ensures) at (rw c.is_eq.ensures at c.if-is_eq.false))
