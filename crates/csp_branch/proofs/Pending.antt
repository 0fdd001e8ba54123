-- The branches that wait along a path, as it grows and shrinks.
use Rattle.std.proofs.Common.{◌≡◌, Bool, true, false, refl, sym, List, [], ◌∷◌, ◌++◌, append_assoc, append-nil}
use Rattle.csp_facts.specs.declared.atom.Atom.{Atom}
use Rattle.csp_facts.specs.declared.atom.Literal.{Literal}
use Rattle.csp_branch.specs.Walks.{with, pending, waits}

-- one literal more at the end of a path: its branch waits before all others
pending_push : (before ls : List Literal) (a : Atom) (positive : Bool) → pending before (with ls a positive) ≡ waits (before ++ ls) a positive ++ pending before ls
pending_push before [] a positive = rw (append-nil before) (sym (append-nil (waits before a positive)))
pending_push before (l ∷ ls) a positive =
    rw (pending_push (before ++ l ∷ []) ls a positive, append_assoc before (l ∷ []) ls, append_assoc) refl

pub taken_true : (ls : List Literal) (a : Atom) → pending [] (with ls a true) ≡ with ls a false ∷ pending [] ls
taken_true ls a = pending_push [] ls a true

pub taken_false : (ls : List Literal) (a : Atom) → pending [] (with ls a false) ≡ pending [] ls
taken_false ls a = pending_push [] ls a false

-- where a branch turns: the deepest literal that is positive becomes negative
pub turned : (old new later : List Literal) (a : Atom) (positive : Bool) → old ≡ with new a positive → positive ≡ true → later ≡ with new a false → later ∷ pending [] later ≡ pending [] old
turned old new later a positive e s f = rw (e, s, f, taken_true new a, taken_false new a) refl

pub left : (old new : List Literal) (a : Atom) (positive : Bool) → old ≡ with new a positive → positive ≡ false → pending [] new ≡ pending [] old
left old new a positive e s = rw (e, s, taken_false new a) refl
