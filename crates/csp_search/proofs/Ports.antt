-- A cell denies no more ports than two lists can name.
use Rattle.std.proofs.Common.{◌≡◌, ◌≢◌, ◌∙◌, Bool, true, false, refl, sym, ap, List, ◌++◌, length, length-append, get_or, arith, All, AllPairs, Contains, filter}
use Rattle.std.proofs.lemmas.List.Elements.{All-contains, All-contains_itself, All-filter, filter_passes, filter-append}
use Rattle.std.proofs.lemmas.List.Kept.{AllPairs-filter}
use Rattle.csp_model.specs.Policies.{IsReadable}
use Rattle.csp_facts.specs.Follows.{follows}
use Rattle.csp_facts.specs.declared.atom.Atom.{Atom}
use Rattle.csp_facts.specs.declared.atom.Atom.TheVariants.{HostDomain, PortIs}
use Rattle.csp_facts.specs.declared.atom.Literal.{Literal}
use Rattle.csp_cell.specs.Cells.{Covers, StandTogether}
use Rattle.csp_pick.proofs.Pigeonhole.{pigeonhole}
use Rattle.csp_pick.proofs.Placed.{of_filter}
use Rattle.csp_pick.specs.Picks.{LeavesPorts, denies_port, denies_port_of}
use Rattle.csp_search.specs.Questions.{asked_atoms, atoms_of}
use Rattle.csp_search.specs.declared.searching.Question.{Question}
use Rattle.csp_search.proofs.FewPorts.{few_ports}
use Rattle.csp_search.proofs.PortsSaid.{names_port}

-- Denials of different ports

denied : (atom : Atom) (positive : Bool) → denies_port_of atom positive ≡ true → (positive ≡ false) × (names_port atom ≡ true)
denied (PortIs n) false e = (refl, refl)
denied (PortIs n) true e = cc
denied other positive e = cc

alike : (l m : Literal) → l.atom ≡ m.atom → l.positive ≡ m.positive → Covers l m
alike l m atom sign asked value says =
    ap (λ (a : Atom). follows (record { atom = a; positive = l.positive }) asked) atom
    ∙ ap (λ (b : Bool). follows (record { atom = m.atom; positive = b }) asked) sign ∙ says

apart : (l m : Literal) → denies_port l ≡ true → denies_port m ≡ true → StandTogether l m → l.atom ≢ m.atom
apart l m one other together = λ same.
    together.0 (alike l m same ((denied l.atom l.positive one).0 ∙ sym (denied m.atom m.positive other).0))

pub leaves_ports : (q : Question) → IsReadable q.lists.now.first.now → IsReadable q.lists.now.second.now → (ls : List Literal) → AllPairs StandTogether ls
    → All (λ (l : Literal). Contains (asked_atoms q) l.atom) ls → LeavesPorts ls
leaves_ports q one two ls pairs among =
    let ones = atoms_of q.lists.now.vocabulary.hashes q.shape q.lists.now.first.now in
    let twos = atoms_of q.lists.now.vocabulary.hashes q.shape q.lists.now.second.now in
    let ports = filter names_port (ones ++ twos) in
    let denials = filter denies_port ls in
    let d : Literal = record { atom = HostDomain; positive = false } in
    let passes = filter_passes denies_port ls in
    let inside = All-filter denies_port (λ (l : Literal). Contains (asked_atoms q) l.atom) ls among in
    let different = AllPairs-filter StandTogether denies_port ls pairs in
    let each = of_filter names_port (Contains ports) (ones ++ twos) (All-contains_itself ports) in
    let fewer = pigeonhole (λ k. (get_or denials k d).atom) (length denials) ports
    (λ j k low high. apart (get_or denials j d) (get_or denials k d) (passes j d (omega arith)) (passes k d high) (different j k d low high))
    (λ k high. All-contains (λ a. names_port a ≡ true → Contains ports a) (ones ++ twos) (get_or denials k d).atom each (inside k d high)
    (denied (get_or denials k d).atom (get_or denials k d).positive (passes k d high)).1) in
    let size = ap length (filter-append names_port ones twos) ∙ length-append (filter names_port ones) (filter names_port twos) in
    omega (arith, fewer, size, few_ports q.lists.now.first.now one q.shape q.lists.now.vocabulary.hashes, few_ports q.lists.now.second.now two q.shape q.lists.now.vocabulary.hashes)
