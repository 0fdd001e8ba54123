-- One step of the walk: at a split, at a leaf, and where a case turns.
use Rattle.std.proofs.Common.{◌≡◌, ◌≢◌, ℕ, suc, ◌+◌, ◌<◌, Bool, true, false, refl, sym, ap, List, [], ◌∷◌, ◌++◌, length, None, get_or, drop, drop-cons, add-one, ◌∙◌, append_assoc, append-nil}
use Rattle.csp_facts.specs.declared.atom.Atom.{Atom}
use Rattle.csp_facts.specs.declared.atom.Literal.{Literal}
use Rattle.csp_proof.specs.declared.proof.Node.{Node}
use Rattle.csp_proof.specs.declared.proof.Node.TheVariants.{Split, Blocked, Met}
use Rattle.csp_branch.specs.Walks.{with, pending}
use Rattle.csp_branch.proofs.Pending.{taken_true}
use Rattle.csp_checker.specs.Walk.{atoms_of, unless_first, walk}

-- the elements from place k on
pub here : {X : Type 0} (xs : List X) (k : ℕ) (x : X) → k < length xs → x ≡ get_or xs k x → drop k xs ≡ x ∷ drop (k + 1) xs
here xs k x h e = rw (add-one, drop-cons xs k x) (ap (λ y. y ∷ drop (suc k) xs) (sym e))

pub walk_split : (rule : List Literal → Node → Bool) (ls : List Literal) (ns : List Node) (k : ℕ) (n : Node) (a : Atom) → k < length ns → n ≡ get_or ns k n → n ≡ Split a
    → walk rule k (ls ∷ pending [] ls) (drop k ns) ≡ walk rule (k + 1) (with ls a true ∷ pending [] (with ls a true)) (drop (k + 1) ns)
walk_split rule ls ns k n a h e is = rw (here ns k n h e, is, taken_true ls a) refl

pub atoms_split : (ns : List Node) (k : ℕ) (n : Node) (a : Atom) → k < length ns → n ≡ get_or ns k n → n ≡ Split a → atoms_of (drop k ns) ≡ a ∷ atoms_of (drop (k + 1) ns)
atoms_split ns k n a h e is = rw (here ns k n h e, is) refl

leaf : (rule : List Literal → Node → Bool) (place : ℕ) (ls : List Literal) (cases : List (List Literal)) (n : Node) (ns : List Node) → ((a : Atom) → n ≢ Split a)
    → walk rule place (ls ∷ cases) (n ∷ ns) ≡ unless_first (rule ls n) place (walk rule (place + 1) cases ns)
leaf rule place ls cases (Split a) ns h = absurd (h a refl)
leaf rule place ls cases (Blocked i) ns h = refl
leaf rule place ls cases Met ns h = refl

no_atom : (n : Node) (ns : List Node) → ((a : Atom) → n ≢ Split a) → atoms_of (n ∷ ns) ≡ atoms_of ns
no_atom (Split a) ns h = absurd (h a refl)
no_atom (Blocked i) ns h = refl
no_atom Met ns h = refl

pub atoms_leaf : (ns : List Node) (k : ℕ) (n : Node) → k < length ns → n ≡ get_or ns k n → ((a : Atom) → n ≢ Split a) → atoms_of (drop k ns) ≡ atoms_of (drop (k + 1) ns)
atoms_leaf ns k n h e is = rw (here ns k n h e) (no_atom n (drop (k + 1) ns) is)

pub walk_leaf : (rule : List Literal → Node → Bool) (ls : List Literal) (ns : List Node) (k : ℕ) (n : Node) → k < length ns → n ≡ get_or ns k n → ((a : Atom) → n ≢ Split a)
    → rule ls n ≡ true → walk rule k (ls ∷ pending [] ls) (drop k ns) ≡ walk rule (k + 1) (pending [] ls) (drop (k + 1) ns)
walk_leaf rule ls ns k n h e is f = rw (here ns k n h e, leaf rule k ls (pending [] ls) n (drop (k + 1) ns) is, f) refl

done : (rule : List Literal → Node → Bool) (place : ℕ) (ns : List Node) → walk rule place [] ns ≡ None
done rule place [] = refl
done rule place (n ∷ ns) = refl

pub walk_end : (rule : List Literal → Node → Bool) (ls : List Literal) (ns : List Node) (k : ℕ) (n : Node) → k < length ns → n ≡ get_or ns k n → ((a : Atom) → n ≢ Split a)
    → rule ls n ≡ true → pending [] ls ≡ [] → walk rule k (ls ∷ pending [] ls) (drop k ns) ≡ None
walk_end rule ls ns k n h e is f b = walk_leaf rule ls ns k n h e is f ∙ rw b (done rule (k + 1) (drop (k + 1) ns))
