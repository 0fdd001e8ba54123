-- The cell of a branch, literal by literal.
use Rattle.std.proofs.Common.{◌≡◌, ◌∙◌, ℕ, zero, suc, ◌+◌, ◌<◌, Bool, sym, ap, subst, List, [], ◌∷◌, ◌++◌, length, map, take, Option, Some, None, All, Contains, IsTrue, slice_get, get_or, append_assoc, append-nil}
use Rattle.std.proofs.lemmas.List.{get_or_default, take_more}
use Rattle.std.proofs.lemmas.List.Elements.{All-push, All-weaker, Contains-append_left, Contains-push}
use Rattle.std.proofs.lemmas.Option.{slice_get_within, get_or_from_slice_get, slice_get-get_or, slice_get-map}
use Rattle.std.specs.Option.{option_map}
use Rattle.csp_facts.specs.Follows.{decided, follows, or_else}
use Rattle.csp_facts.specs.Holding.{is_true_of}
use Rattle.csp_facts.specs.declared.atom.Atom.{Atom}
use Rattle.csp_facts.specs.declared.atom.Atom.TheVariants.{HostDomain}
use Rattle.csp_facts.specs.declared.atom.Literal.{Literal}
use Rattle.csp_branch.specs.Groups.{atom_in}
use Rattle.csp_branch.specs.Paths.{literal_of}
use Rattle.csp_branch.specs.declared.branch.Change.{Change}
use Rattle.csp_branch.proofs.Telling.{path_more}
use Rattle.csp_cell.specs.Cells.{Region, Takes}
use Rattle.csp_cell.proofs.Splitting.{meets}
use Rattle.csp_cell.proofs.Taking.{all_taken}
use Rattle.csp_proof.specs.Accepts.{literal}
use Rattle.csp_facts.specs.declared.shape.Shape.{Shape}
use Rattle.csp_search.specs.Branches.{IsCellOf, IsFresh}

-- each literal is on an atom that those before it leave open
fresh_from : (before ls : List Literal) (i : ℕ) (l : Literal) → IsFresh before ls → slice_get ls i ≡ Some l → decided (before ++ take i ls) l.atom ≡ None
fresh_from before [] i l fresh at = cc
fresh_from before (m ∷ ls) zero l fresh at =
    let same : m ≡ l = cc in
    subst (λ (n : Literal). decided (before ++ []) n.atom ≡ None) same (subst (λ (xs : List Literal). decided xs m.atom ≡ None) (sym (append-nil before)) fresh.0)
fresh_from before (m ∷ ls) (suc i) l fresh at =
    subst (λ (xs : List Literal). decided xs l.atom ≡ None) (append_assoc before (m ∷ []) (take i ls)) (fresh_from (before ++ m ∷ []) ls i l fresh.1 at)

pub fresh_at : (ls : List Literal) (i : ℕ) (l : Literal) → IsFresh [] ls → slice_get ls i ≡ Some l → decided (take i ls) l.atom ≡ None
fresh_at ls i l fresh at = fresh_from [] ls i l fresh at

one_more : (ls : List Literal) (i : ℕ) (l : Literal) → slice_get ls i ≡ Some l → take (i + 1) ls ≡ take i ls ++ l ∷ []
one_more ls i l at = take_more ls i l (slice_get_within ls i l at) ∙ ap (λ (m : Literal). take i ls ++ m ∷ []) (get_or_from_slice_get ls i l l at)

-- with one literal more
cell_push : (kind : Shape) (ls : List Literal) (l : Literal) (old new : Region) → IsCellOf kind ls old → new.shape ≡ old.shape → Takes old.literals l new.literals
    → ((atom : Atom) → decided new.literals atom ≡ decided (old.literals ++ l ∷ []) atom) → IsCellOf kind (ls ++ l ∷ []) new
cell_push kind ls l old new is shape takes decides = record {
  shape = shape ∙ is.shape;
  decides = λ atom.
      decides atom ∙ path_more old.literals l atom ∙ ap (λ (o : Option Bool). or_else o (follows l atom)) (is.decides atom) ∙ sym (path_more ls l atom);
  meets = λ hashes asked all.
      let both = (meets hashes asked old.literals new.literals l takes).0 all in
      All-push (λ (m : Literal). IsTrue (is_true_of hashes asked m)) ls l (is.meets hashes asked both.0) both.1;
  each = all_taken (Contains (ls ++ l ∷ [])) old.literals new.literals l takes
      (All-weaker (Contains ls) (Contains (ls ++ l ∷ [])) (λ m has. Contains-append_left ls (l ∷ []) m has) old.literals is.each)
      (Contains-push ls l);
}

pub cell_more : (kind : Shape) (ls : List Literal) (i : ℕ) (l : Literal) (old new : Region) → slice_get ls i ≡ Some l → IsCellOf kind (take i ls) old
    → new.shape ≡ old.shape → Takes old.literals l new.literals
    → ((atom : Atom) → decided new.literals atom ≡ decided (old.literals ++ l ∷ []) atom) → IsCellOf kind (take (i + 1) ls) new
cell_more kind ls i l old new at is shape takes decides =
    subst (λ (xs : List Literal). IsCellOf kind xs new) (sym (one_more ls i l at)) (cell_push kind (take i ls) l old new is shape takes decides)

-- The atom of a name, and the literal of a step of a walk

pub atom_here : (names seen : List Atom) (name : ℕ) (a : Atom) → seen ≡ names → name < length names → a ≡ get_or seen name a → atom_in names name ≡ a
atom_here names seen name a same within is =
    get_or_default names name HostDomain a within ∙ sym (subst (λ (atoms : List Atom). a ≡ get_or atoms name a) same is)

pub step_at : (names seen : List Atom) (changes : List Change) (ls : List Literal) (i : ℕ) (d : Change) (a : Atom) → map (λ (change : Change). literal_of names change.step) changes ≡ ls
    → All (λ (change : Change). change.step.name < length names) changes → seen ≡ names → i < length changes → a ≡ get_or seen (get_or changes i d).step.name a
    → slice_get ls i ≡ Some (literal a (get_or changes i d).step.positive)
step_at names seen changes ls i d a says named same within is =
    let change = get_or changes i d in
    let says_of = λ (c : Change). literal_of names c.step in
    subst (λ (xs : List Literal). slice_get xs i ≡ Some (literal a change.step.positive)) says
    (slice_get-map says_of changes i ∙ ap (option_map says_of) (slice_get-get_or changes i d within)
    ∙ ap (λ (b : Atom). Some (literal b change.step.positive)) (atom_here names seen change.step.name a same (named i d within) is))
