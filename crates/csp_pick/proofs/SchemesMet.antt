-- The scheme that is picked is valid, and meets the literals on schemes of URLs without a host.
use Rattle.std.proofs.Common.{◌≡◌, ◌≢◌, ◌∙◌, ◌==◌, ℕ, true, false, not, List, [], ◌∷◌, filter, Some, None, All, Any, IsTrue, codes, refl, sym, ap, subst}
use Rattle.std.specs.Prelude.{IsNone}
use Rattle.std.specs.Char.{to_ascii_lowercase}
use Rattle.std.specs.List.{list_all}
use Rattle.std.specs.Str.{bytes_eq}
use Rattle.std.proofs.lemmas.Bool.{and_from, and_parts, false_from_ne_true}
use Rattle.std.proofs.lemmas.Bool.Decides.{Decides-eqb}
use Rattle.std.proofs.lemmas.List.Elements.{All-weaker, All-contains}
use Rattle.std.proofs.lemmas.Slice.Eq.{bytes_eq-Decides}
use Rattle.csp_model.specs.Ascii.{lower}
use Rattle.csp_model.specs.Grammar.{is_scheme, is_scheme_char}
use Rattle.csp_model.specs.Schemes.{scheme_named}
use Rattle.csp_model.specs.Validity.{is_lower_scheme}
use Rattle.csp_model.specs.declared.check.CheckPart.TheVariants as part
use Rattle.csp_facts.specs.Atoms.{part_of, IsValidAtom}
use Rattle.csp_facts.specs.Follows.{follows_true}
use Rattle.csp_facts.specs.declared.atom.Atom.{Atom}
use Rattle.csp_facts.specs.declared.atom.Atom.TheVariants.{SchemeIs}
use Rattle.csp_facts.specs.declared.atom.Literal.{Literal}
use Rattle.csp_cell.specs.Cells.{IsCell, IsOf, Region, places}
use Rattle.csp_pick.specs.Parts.{MeetPart, scheme_holds}
use Rattle.csp_pick.specs.Said.{scheme_of, text_of}
use Rattle.csp_pick.specs.Fresh.{IsNumbered}
use Rattle.csp_pick.proofs.Numbered.{numbered_passes}
use Rattle.csp_pick.proofs.Placed.{said_by, positive_of, placed_meets, denied_meets}

is_scheme_atom : (a : Atom) (s : List ℕ) → scheme_of a ≡ Some s → a ≡ SchemeIs s
is_scheme_atom (SchemeIs t) s e = ap SchemeIs cc
is_scheme_atom a s e = absurd cc

known : (s : List ℕ) (a : Atom) → part_of a ≡ part.PlainScheme → follows_true (SchemeIs s) a ≡ Some (scheme_holds s a)
known s (SchemeIs t) e = refl
known s a e = absurd cc

never : (a : Atom) → scheme_of a ≡ None → part_of a ≢ part.PlainScheme
never (SchemeIs t) e = absurd cc
never a e = λ same. absurd cc

apart : (s : List ℕ) (a : Atom) → scheme_of a ≢ Some s → scheme_holds s a ≡ false
apart s (SchemeIs t) h = false_from_ne_true (bytes_eq s t) (λ same. h (ap Some (sym ((bytes_eq-Decides s t).0 same))))
apart s a h = refl

pub wanted_meets : (s : List ℕ) (cell : Region) → IsCell cell
    → Any (λ l. scheme_of l.atom ≡ Some s) (filter places cell.literals) → MeetPart part.PlainScheme (scheme_holds s) cell.literals
wanted_meets s cell is said =
    let (m, has, placing, says) = said_by scheme_of places cell.literals s said in
    placed_meets part.PlainScheme (scheme_holds s) cell.literals m is.pairs has (positive_of m placing)
    (λ a e. ap (λ known. follows_true known a) (is_scheme_atom m.atom s says) ∙ known s a e)

pub wanted_is_valid : (s : List ℕ) (cell : Region) → IsCell cell
    → Any (λ l. scheme_of l.atom ≡ Some s) (filter places cell.literals) → IsTrue (is_lower_scheme s) × IsNone (scheme_named s)
wanted_is_valid s cell is said =
    let (m, has, placing, says) = said_by scheme_of places cell.literals s said in
    subst IsValidAtom (is_scheme_atom m.atom s says) (All-contains (IsOf cell.shape) cell.literals m is.each has).0

pub allowed_meets : (s : List ℕ) (ls : List Literal) → All (λ l. scheme_of l.atom ≡ None) (filter places ls)
    → All (λ l. scheme_of l.atom ≢ Some s) (filter (λ l. not (places l)) ls) → MeetPart part.PlainScheme (scheme_holds s) ls
allowed_meets s ls none free =
    denied_meets part.PlainScheme (scheme_holds s) ls (λ e. cc)
    (All-weaker (λ l. scheme_of l.atom ≡ None) (λ l. part_of l.atom ≢ part.PlainScheme) (λ l. never l.atom) (filter places ls) none)
    (All-weaker (λ l. scheme_of l.atom ≢ Some s) (λ l. part_of l.atom ≡ part.PlainScheme → scheme_holds s l.atom ≡ false)
    (λ l h on. apart s l.atom h) (filter (λ l. not (places l)) ls) free)

-- `data` or `blob` with some number, or none

low_all : (text : List ℕ) → list_all (λ c. to_ascii_lowercase c == c) text ≡ true → lower text ≡ text
low_all [] each = refl
low_all (c ∷ text) each =
    let (here, rest) = and_parts (to_ascii_lowercase c == c) (list_all (λ c. to_ascii_lowercase c == c) text) each in
    rw ((Decides-eqb (to_ascii_lowercase c) c).0 here) (ap (λ cs. c ∷ cs) (low_all text rest))

is_low : (front text : List ℕ) → list_all (λ c. to_ascii_lowercase c == c) front ≡ true → IsNumbered front [] text → bytes_eq (lower text) text ≡ true
is_low front text low is =
    (bytes_eq-Decides (lower text) text).1 (low_all text (numbered_passes (λ c. to_ascii_lowercase c == c) refl front [] text low refl is))

abbrev IsValidScheme : List ℕ → Type 0
IsValidScheme text = IsTrue (is_lower_scheme text) × IsNone (scheme_named text)

pub data_is_valid : (text : List ℕ) → IsNumbered (codes "data") [] text → IsValidScheme text
unfolding is_lower_scheme is_scheme_char
data_is_valid text is =
    let chars = numbered_passes is_scheme_char refl (codes "data") [] text refl refl is in (
      and_from (is_scheme text) (bytes_eq (lower text) text) (ap is_scheme is.2 ∙ sym (ap (list_all is_scheme_char) is.2) ∙ chars)
          (is_low (codes "data") text refl is),
      subst (λ t. IsNone (scheme_named t)) (sym is.2) refl,
    )

pub blob_is_valid : (text : List ℕ) → IsNumbered (codes "blob") [] text → IsValidScheme text
unfolding is_lower_scheme is_scheme_char
blob_is_valid text is =
    let chars = numbered_passes is_scheme_char refl (codes "blob") [] text refl refl is in (
      and_from (is_scheme text) (bytes_eq (lower text) text) (ap is_scheme is.2 ∙ sym (ap (list_all is_scheme_char) is.2) ∙ chars)
          (is_low (codes "blob") text refl is),
      subst (λ t. IsNone (scheme_named t)) (sym is.2) refl,
    )

pub unnamed : (text : List ℕ) (ls : List Literal) → All (λ l. text_of l.atom ≢ Some text) ls → All (λ l. scheme_of l.atom ≢ Some text) ls
unnamed text ls fresh =
    All-weaker (λ l. text_of l.atom ≢ Some text) (λ l. scheme_of l.atom ≢ Some text) (λ l. by_atom l.atom) ls fresh
  where
    by_atom : (a : Atom) → text_of a ≢ Some text → scheme_of a ≢ Some text
    by_atom (SchemeIs s) differs = differs
    by_atom a differs = λ e. cc
