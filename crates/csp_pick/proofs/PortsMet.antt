-- The port that is picked meets the literals on ports.
use Rattle.std.proofs.Common.{◌≡◌, ◌≢◌, ◌==◌, ◌≤◌, ◌∙◌, ℕ, Bool, true, false, not, List, [], ◌∷◌, length, filter, Option, Some, None, All, Any, AllPairs, refl, sym, ap, arith}
use Rattle.std.specs.Prelude.{unwrap_or}
use Rattle.std.specs.List.{filter_map}
use Rattle.std.proofs.lemmas.Bool.{false_from_ne_true}
use Rattle.std.proofs.lemmas.Bool.Decides.{Decides-eqb}
use Rattle.std.proofs.lemmas.List.Elements.{All-weaker}
use Rattle.csp_model.specs.Schemes.{default_port}
use Rattle.csp_model.specs.declared.check.CheckPart.TheVariants as part
use Rattle.csp_model.specs.declared.url.Scheme.{Scheme}
use Rattle.csp_facts.specs.Atoms.{part_of}
use Rattle.csp_facts.specs.Follows.{follows_true}
use Rattle.csp_facts.specs.declared.atom.Atom.{Atom}
use Rattle.csp_facts.specs.declared.atom.Atom.TheVariants.{PortIs, IntegrityHas, IntegrityOutside}
use Rattle.csp_facts.specs.declared.atom.Literal.{Literal}
use Rattle.csp_cell.specs.Cells.{StandTogether, places}
use Rattle.csp_pick.specs.Picks.{denies_port}
use Rattle.csp_pick.specs.Parts.{MeetPart, port_holds}
use Rattle.csp_pick.specs.Said.{number_of, port_of}
use Rattle.csp_pick.proofs.Placed.{said_by, positive_of, placed_meets, denied_meets}

is_port : (a : Atom) (n : ℕ) → port_of a ≡ Some n → a ≡ PortIs n
is_port (PortIs m) n e = ap PortIs cc
is_port a n e = absurd cc

-- what holds of the literals on ports is what their numbers say

known : (scheme : Scheme) (port : Option ℕ) (a : Atom) → part_of a ≡ part.Port
    → follows_true (PortIs (unwrap_or port (default_port scheme))) a ≡ Some (port_holds scheme port a)
known scheme port (PortIs m) e = refl
known scheme port a e = absurd cc

never : (a : Atom) → port_of a ≡ None → part_of a ≢ part.Port
never (PortIs m) e = absurd cc
never a e = λ same. absurd cc

apart : (scheme : Scheme) (port : Option ℕ) (a : Atom) → port_of a ≢ Some (unwrap_or port (default_port scheme)) → port_holds scheme port a ≡ false
apart scheme port (PortIs m) h =
    let there = unwrap_or port (default_port scheme) in
    false_from_ne_true (there == m) (λ same. h (ap Some (sym ((Decides-eqb there m).0 same))))
apart scheme port a h = refl

pub wanted_meets : (scheme : Scheme) (port : Option ℕ) (n : ℕ) (ls : List Literal) → AllPairs StandTogether ls
    → Any (λ l. port_of l.atom ≡ Some n) (filter places ls) → unwrap_or port (default_port scheme) ≡ n
    → MeetPart part.Port (port_holds scheme port) ls
wanted_meets scheme port n ls pairs said same =
    let (m, has, placing, says) = said_by port_of places ls n said in
    placed_meets part.Port (port_holds scheme port) ls m pairs has (positive_of m placing)
    (λ a e. ap (λ known. follows_true known a) (is_port m.atom n says ∙ ap PortIs (sym same)) ∙ known scheme port a e)

pub allowed_meets : (scheme : Scheme) (port : Option ℕ) (ls : List Literal)
    → All (λ l. port_of l.atom ≡ None) (filter places ls)
    → All (λ l. port_of l.atom ≢ Some (unwrap_or port (default_port scheme))) (filter (λ l. not (places l)) ls)
    → MeetPart part.Port (port_holds scheme port) ls
allowed_meets scheme port ls none free =
    denied_meets part.Port (port_holds scheme port) ls (λ e. cc)
    (All-weaker (λ l. port_of l.atom ≡ None) (λ l. part_of l.atom ≢ part.Port) (λ l. never l.atom) (filter places ls) none)
    (All-weaker (λ l. port_of l.atom ≢ Some (unwrap_or port (default_port scheme))) (λ l. part_of l.atom ≡ part.Port → port_holds scheme port l.atom ≡ false)
    (λ l h on. apart scheme port l.atom h) (filter (λ l. not (places l)) ls) free)

-- Of the literals that place nothing no more name a port than deny one

abbrev port_named : Literal → Option ℕ
port_named l = number_of part.Port l.atom

by_literal : (a : Atom) (sign : Bool) (ls : List Literal)
    → length (filter_map port_named (filter (λ l. not (places l)) ls)) ≤ length (filter denies_port ls)
    → length (filter_map port_named (filter (λ l. not (places l)) (record { atom = a; positive = sign } ∷ ls)))
    ≤ length (filter denies_port (record { atom = a; positive = sign } ∷ ls))
by_literal (PortIs n) true ls h = h
by_literal (PortIs n) false ls h = omega arith
by_literal (IntegrityHas hash) true ls h = h
by_literal (IntegrityHas hash) false ls h = h
by_literal IntegrityOutside true ls h = h
by_literal IntegrityOutside false ls h = h
by_literal a true ls h = h
by_literal a false ls h = h

pub counted : (ls : List Literal) → length (filter_map port_named (filter (λ l. not (places l)) ls)) ≤ length (filter denies_port ls)
counted [] = omega arith
counted (l ∷ ls) = by_literal l.atom l.positive ls (counted ls)
