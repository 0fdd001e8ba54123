-- The nonce that is picked meets the literals on nonces.
use Rattle.std.proofs.Common.{◌≡◌, ◌≢◌, ◌∙◌, ℕ, true, false, not, List, [], filter, Some, None, All, Any, AllPairs, refl, sym, ap, subst}
use Rattle.std.specs.Str.{bytes_eq}
use Rattle.std.proofs.lemmas.Bool.{false≢true, false_from_ne_true}
use Rattle.std.proofs.lemmas.List.Elements.{All-weaker, All-filter}
use Rattle.std.proofs.lemmas.Slice.Eq.{bytes_eq-Decides}
use Rattle.csp_model.specs.Grammar.{is_base64_value}
use Rattle.csp_model.specs.declared.check.CheckPart.TheVariants as part
use Rattle.csp_facts.specs.Atoms.{part_of, IsValidAtom}
use Rattle.csp_facts.specs.Follows.{follows_true}
use Rattle.csp_facts.specs.declared.atom.Atom.{Atom}
use Rattle.csp_facts.specs.declared.atom.Atom.TheVariants.{NonceIs}
use Rattle.csp_facts.specs.declared.atom.Literal.{Literal}
use Rattle.csp_cell.specs.Cells.{StandTogether, IsOf, places}
use Rattle.csp_facts.specs.declared.shape.Shape.{Shape}
use Rattle.csp_pick.specs.Parts.{MeetPart, nonce_holds}
use Rattle.csp_pick.specs.Said.{nonce_of}
use Rattle.csp_pick.proofs.Placed.{said_by, positive_of, placed_meets, denied_meets}

is_nonce : (a : Atom) (v : List ℕ) → nonce_of a ≡ Some v → a ≡ NonceIs v
is_nonce (NonceIs w) v e = ap NonceIs cc
is_nonce a v e = absurd cc

known : (v : List ℕ) (a : Atom) → part_of a ≡ part.Nonce → follows_true (NonceIs v) a ≡ Some (nonce_holds v a)
known v (NonceIs w) e = refl
known v a e = absurd cc

never : (a : Atom) → nonce_of a ≡ None → part_of a ≢ part.Nonce
never (NonceIs w) e = absurd cc
never a e = λ same. absurd cc

pub wanted_meets : (v : List ℕ) (ls : List Literal) → AllPairs StandTogether ls
    → Any (λ l. nonce_of l.atom ≡ Some v) (filter places ls) → MeetPart part.Nonce (nonce_holds v) ls
wanted_meets v ls pairs said =
    let (m, has, placing, says) = said_by nonce_of places ls v said in
    placed_meets part.Nonce (nonce_holds v) ls m pairs has (positive_of m placing)
    (λ a e. ap (λ known. follows_true known a) (is_nonce m.atom v says) ∙ known v a e)

-- a base64-value isn't empty

some_value : (v : List ℕ) → is_base64_value v ≡ true → [] ≢ v
unfolding is_base64_value
some_value v valid e = let none : is_base64_value [] ≡ true = subst (λ w. is_base64_value w ≡ true) (sym e) valid in false≢true none

apart : (a : Atom) → IsValidAtom a → nonce_holds [] a ≡ false
apart (NonceIs v) valid = false_from_ne_true (bytes_eq [] v) (λ same. some_value v valid ((bytes_eq-Decides [] v).0 same))
apart a valid = refl

pub none_meets : (kind : Shape) (ls : List Literal) → All (IsOf kind) ls → All (λ l. nonce_of l.atom ≡ None) (filter places ls)
    → MeetPart part.Nonce (nonce_holds []) ls
none_meets kind ls each none =
    denied_meets part.Nonce (nonce_holds []) ls (λ e. cc)
    (All-weaker (λ l. nonce_of l.atom ≡ None) (λ l. part_of l.atom ≢ part.Nonce) (λ l. never l.atom) (filter places ls) none)
    (All-filter (λ l. not (places l)) (λ l. part_of l.atom ≡ part.Nonce → nonce_holds [] l.atom ≡ false) ls
    (All-weaker (IsOf kind) (λ l. part_of l.atom ≡ part.Nonce → nonce_holds [] l.atom ≡ false) (λ l valid on. apart l.atom valid.0) ls each))
