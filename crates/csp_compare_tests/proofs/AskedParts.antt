-- What is asked of a cell's literals, asked of those that place a part and of the others.
use Rattle.std.proofs.Common.{◌≡◌, ◌↔◌, ◌≤◌, Bool, true, false, not, List, [], ◌∷◌, length, get_or, filter, All, refl, sym, ap, subst}
use Rattle.std.proofs.lemmas.List.Elements.{All-filter}
use Rattle.csp_model.specs.declared.source.Hash.{Hash}
use Rattle.csp_facts.specs.Vocabulary.{IsOfVocabulary}
use Rattle.csp_facts.specs.declared.atom.Atom.{Atom}
use Rattle.csp_facts.specs.declared.atom.Atom.TheVariants.{PortIs, IntegrityHas, IntegrityOutside}
use Rattle.csp_facts.specs.declared.atom.Literal.{Literal}
use Rattle.csp_cell.specs.Cells.{places}
use Rattle.csp_pick.specs.Picks.{denies_port, port_limit, AreOfVocabulary, LeavesPorts}
use Rattle.csp_pick.proofs.Placed.{of_filter}

-- a test and its denial leave nothing out
both_parts : {X : Type 0} (p : X → Bool) (Q : X → Type 0) (xs : List X) → All Q (filter p xs) → All Q (filter (λ x. not (p x)) xs) → All Q xs
both_parts p Q xs passing others k d h = by (p (get_or xs k d)) refl where
  by : (t : Bool) → p (get_or xs k d) ≡ t → Q (get_or xs k d)
  by true e = of_filter p Q xs passing k d h e
  by false e = of_filter (λ x. not (p x)) Q xs others k d h (ap not e)

abbrev unplaced : Literal → Bool
unplaced l = not (places l)

by_literal : (a : Atom) (sign : Bool) (ls : List Literal) → filter denies_port (filter unplaced ls) ≡ filter denies_port ls
    → filter denies_port (filter unplaced (record { atom = a; positive = sign } ∷ ls)) ≡ filter denies_port (record { atom = a; positive = sign } ∷ ls)
by_literal (PortIs n) true ls h = h
by_literal (PortIs n) false ls h = ap (λ (r : List Literal). record { atom = PortIs n; positive = false } ∷ r) h
by_literal (IntegrityHas hash) true ls h = h
by_literal (IntegrityHas hash) false ls h = h
by_literal IntegrityOutside true ls h = h
by_literal IntegrityOutside false ls h = h
by_literal a true ls h = h
by_literal a false ls h = h

-- what places a part denies no port
denials : (ls : List Literal) → filter denies_port (filter unplaced ls) ≡ filter denies_port ls
denials [] = refl
denials (l ∷ ls) = by_literal l.atom l.positive ls (denials ls)

abbrev IsKnown : List Hash → Literal → Type 0
IsKnown hashes l = IsOfVocabulary hashes l.atom

pub asked_of_parts : (hashes : List Hash) (ls placing others : List Literal) → placing ≡ filter places ls → others ≡ filter unplaced ls
    → (AreOfVocabulary hashes placing × AreOfVocabulary hashes others × LeavesPorts others) ↔ (AreOfVocabulary hashes ls × LeavesPorts ls)
asked_of_parts hashes ls placing others first second = (together, apart) where
  together : AreOfVocabulary hashes placing × AreOfVocabulary hashes others × LeavesPorts others → AreOfVocabulary hashes ls × LeavesPorts ls
  together (one, two, ports) = (
    both_parts places (IsKnown hashes) ls (subst (All (IsKnown hashes)) first one) (subst (All (IsKnown hashes)) second two),
    subst (λ (kept : List Literal). length kept ≤ port_limit) (denials ls) (subst LeavesPorts second ports),
  )

  apart : AreOfVocabulary hashes ls × LeavesPorts ls → AreOfVocabulary hashes placing × AreOfVocabulary hashes others × LeavesPorts others
  apart (all, ports) = (
    subst (All (IsKnown hashes)) (sym first) (All-filter places (IsKnown hashes) ls all),
    subst (All (IsKnown hashes)) (sym second) (All-filter unplaced (IsKnown hashes) ls all),
    subst LeavesPorts (sym second) (subst (λ (kept : List Literal). length kept ≤ port_limit) (sym (denials ls)) ports),
  )
