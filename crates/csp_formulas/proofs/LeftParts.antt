-- What is left of the and, or of the or, of formulas that are gone over one after another.
use Rattle.std.proofs.Common.{arith, ◌≡◌, ◌∙◌, sym, ap, subst, refl, ℕ, ◌+◌, ◌<◌, get_or, drop, Bool, true, false, not, List, [], ◌∷◌, ◌++◌, length, map, append-nil, inl, inr, All}
use Rattle.std.specs.Prelude.{Option, Some, None, Contains, ◌⊎◌}
use Rattle.std.specs.List.{flat_map, list_all}
use Rattle.std.proofs.lemmas.Bool.{and_from}
use Rattle.std.proofs.lemmas.List.{map_push, drop_more}
use mathlib.Core.Bool.{beq}
use Rattle.std.proofs.lemmas.List.Concat.{flat_map-append}
use Rattle.std.proofs.lemmas.List.Elements.{All-nil, All-push, All-head, All-tail, All-append, Contains-append_left, Contains-append_right, Contains-append_cases}
use Rattle.csp_facts.specs.Follows.{decided}
use Rattle.csp_facts.specs.declared.atom.Atom.{Atom}
use Rattle.csp_facts.specs.declared.atom.Literal.{Literal}
use Rattle.csp_formula.specs.Sentences.{Sentence}
use Rattle.csp_formulas.specs.Formulas.{sentence_of}
use Rattle.csp_formula.specs.Surely.{maybe_and, maybe_or, surely}
use Rattle.csp_formula.specs.Values.{atoms_in}
use Rattle.csp_formulas.specs.declared.formula.Formula.{Formula}
use Rattle.csp_formulas.specs.declared.formula.Formula.TheVariants as formula
use Rattle.csp_formulas.specs.Residuals.{has_no_constant, KeepsValues, value_under, joined_by, IsUnsure, IsLeft}
use Rattle.csp_formulas.proofs.LeftOver.{says_Constant, surely_is}

-- Ands and ors of values

abbrev maybe_join : Bool → Option Bool → Option Bool → Option Bool
maybe_join true x y = maybe_and x y
maybe_join false x y = maybe_or x y

join_first : (e : Bool) (x : Option Bool) → maybe_join e (Some e) x ≡ x
join_first true x = refl
join_first false x = refl

join_last : (e : Bool) (x : Option Bool) → maybe_join e x (Some e) ≡ x
join_last true (Some true) = refl
join_last true (Some false) = refl
join_last true None = refl
join_last false (Some true) = refl
join_last false (Some false) = refl
join_last false None = refl

join_stops : (e : Bool) (x y : Option Bool) → maybe_join e x (maybe_join e (Some (not e)) y) ≡ Some (not e)
join_stops true (Some true) y = refl
join_stops true (Some false) y = refl
join_stops true None y = refl
join_stops false (Some true) y = refl
join_stops false (Some false) y = refl
join_stops false None y = refl

join_assoc : (e : Bool) (x y z : Option Bool) → maybe_join e (maybe_join e x y) z ≡ maybe_join e x (maybe_join e y z)
join_assoc true (Some true) y z = refl
join_assoc true (Some false) y z = refl
join_assoc true None (Some true) z = refl
join_assoc true None (Some false) z = refl
join_assoc true None None (Some true) = refl
join_assoc true None None (Some false) = refl
join_assoc true None None None = refl
join_assoc false (Some true) y z = refl
join_assoc false (Some false) y z = refl
join_assoc false None (Some true) z = refl
join_assoc false None (Some false) z = refl
join_assoc false None None (Some true) = refl
join_assoc false None None (Some false) = refl
join_assoc false None None None = refl

join_nones : (e : Bool) (x : Option Bool) → x ≡ None → maybe_join e None x ≡ None
join_nones true x none = ap (maybe_and None) none
join_nones false x none = ap (maybe_or None) none

join_alone : (e : Bool) → maybe_join e None (Some e) ≡ None
join_alone e = join_last e None

-- Sentences joined

value_nil : (v : Atom → Option Bool) (e : Bool) → value_under v (joined_by e []) ≡ Some e
value_nil v true = refl
value_nil v false = refl

value_cons : (v : Atom → Option Bool) (e : Bool) (s : Sentence) (ss : List Sentence) → value_under v (joined_by e (s ∷ ss)) ≡ maybe_join e (value_under v s) (value_under v (joined_by e ss))
value_cons v true s ss = refl
value_cons v false s ss = refl

value_push : (v : Atom → Option Bool) (e : Bool) (ss : List Sentence) (s : Sentence) → value_under v (joined_by e (ss ++ s ∷ [])) ≡ maybe_join e (value_under v (joined_by e ss)) (value_under v s)
value_push v e [] s =
    value_cons v e s [] ∙ ap (maybe_join e (value_under v s)) (value_nil v e) ∙ join_last e (value_under v s)
    ∙ sym (ap (λ (o : Option Bool). maybe_join e o (value_under v s)) (value_nil v e) ∙ join_first e (value_under v s))
value_push v e (t ∷ ss) s =
    value_cons v e t (ss ++ s ∷ []) ∙ ap (maybe_join e (value_under v t)) (value_push v e ss s) ∙ sym (join_assoc e (value_under v t) (value_under v (joined_by e ss)) (value_under v s))
    ∙ ap (λ (o : Option Bool). maybe_join e o (value_under v s)) (sym (value_cons v e t ss))

-- the formulas' and, or their or
abbrev joint : Bool → List Formula → Sentence
joint e formulas = joined_by e (map sentence_of formulas)

-- the atoms that stand in some of the formulas
abbrev facts_of : List Formula → List Atom
facts_of formulas = flat_map (λ (f : Formula). atoms_in (sentence_of f)) formulas

joint_facts : (e : Bool) (formulas : List Formula) → atoms_in (joint e formulas) ≡ facts_of formulas
joint_facts true [] = refl
joint_facts false [] = refl
joint_facts true (f ∷ fs) = ap (λ (atoms : List Atom). atoms_in (sentence_of f) ++ atoms) (joint_facts true fs)
joint_facts false (f ∷ fs) = ap (λ (atoms : List Atom). atoms_in (sentence_of f) ++ atoms) (joint_facts false fs)

facts_push : (left : List Formula) (f : Formula) → facts_of (left ++ f ∷ []) ≡ facts_of left ++ atoms_in (sentence_of f)
facts_push left f =
    let of_one = λ (g : Formula). atoms_in (sentence_of g) in
    flat_map-append of_one left (f ∷ []) ∙ ap (λ (atoms : List Atom). facts_of left ++ atoms) (append-nil (atoms_in (sentence_of f)))

-- One part after another

-- what is left of the first parts, with the rest, is what is left of all
pub record IsSoFar (ls : List Literal) (e : Bool) (all rest left : List Formula) : Type 0 where
  pub same : (v : Atom → Option Bool) → KeepsValues (decided ls) v (facts_of all)
      → maybe_join e (value_under v (joined_by e (map sentence_of left))) (value_under v (joined_by e (map sentence_of rest))) ≡ value_under v (joined_by e (map sentence_of all))
  pub atoms : (a : Atom) → Contains (facts_of left) a → Contains (facts_of all) a
  pub within : (a : Atom) → Contains (facts_of rest) a → Contains (facts_of all) a
  pub unsure : All (IsUnsure ls) left

no_atom : (a : Atom) → Contains [] a → ⊥
no_atom a has = omega (arith, has.1)

pub so_far_here : (ls : List Literal) (e : Bool) (all left : List Formula) (i : ℕ) (part : Formula) → IsSoFar ls e all (drop i all) left → i < length all → part ≡ get_or all i part
    → IsSoFar ls e all (part ∷ drop (i + 1) all) left
so_far_here ls e all left i part so within is =
    subst (λ (rest : List Formula). IsSoFar ls e all rest left) (drop_more all i part within ∙ ap (λ (f : Formula). f ∷ drop (i + 1) all) (sym is)) so

pub differs : (a b : Bool) → not (beq a b) ≡ true → a ≡ not b
differs true true is = cc is
differs true false is = refl
differs false true is = refl
differs false false is = cc is

pub agrees : (a b : Bool) → not (beq a b) ≡ false → a ≡ b
agrees true true is = refl
agrees true false is = cc is
agrees false true is = cc is
agrees false false is = refl

pub unsure_of : (ls : List Literal) (s : Sentence) (f : Formula) → IsLeft ls s f → ((known : Bool) → f ≡ formula.Constant known → ⊥) → IsUnsure ls f
unsure_of ls s f is other = elim is.form [
  | inl constant ↦ absurd (other constant.0 constant.1)
  | inr unsure ↦ unsure
]

pub so_far_start : (ls : List Literal) (e : Bool) (all : List Formula) → IsSoFar ls e all all []
so_far_start ls e all = record {
  same = λ v keeps. ap (λ (o : Option Bool). maybe_join e o (value_under v (joint e all))) (value_nil v e) ∙ join_first e (value_under v (joint e all));
  atoms = λ a has. absurd (no_atom a has);
  within = λ a has. has;
  unsure = All-nil (IsUnsure ls);
}

part_value : (ls : List Literal) (e : Bool) (all : List Formula) (part : Formula) (rest left : List Formula) (f : Formula) (v : Atom → Option Bool) → IsSoFar ls e all (part ∷ rest) left
    → IsLeft ls (sentence_of part) f → KeepsValues (decided ls) v (facts_of all) → value_under v (sentence_of f) ≡ value_under v (sentence_of part)
part_value ls e all part rest left f v so is keeps =
    is.same v (λ a has some. keeps a (so.within a (Contains-append_left (atoms_in (sentence_of part)) (facts_of rest) a has)) some)

-- the value of all, with the part's own value in its place
value_with : (ls : List Literal) (e : Bool) (all : List Formula) (part : Formula) (rest left : List Formula) (f : Formula) (v : Atom → Option Bool) → IsSoFar ls e all (part ∷ rest) left
    → IsLeft ls (sentence_of part) f → KeepsValues (decided ls) v (facts_of all)
    → maybe_join e (value_under v (joint e left)) (maybe_join e (value_under v (sentence_of f)) (value_under v (joint e rest))) ≡ value_under v (joint e all)
value_with ls e all part rest left f v so is keeps =
    ap (λ (o : Option Bool). maybe_join e (value_under v (joint e left)) (maybe_join e o (value_under v (joint e rest)))) (part_value ls e all part rest left f v so is keeps)
    ∙ ap (maybe_join e (value_under v (joint e left))) (sym (value_cons v e (sentence_of part) (map sentence_of rest))) ∙ so.same v keeps

constant_in : (f : Formula) (b : Bool) (v : Atom → Option Bool) → f ≡ formula.Constant b → value_under v (sentence_of f) ≡ Some b
constant_in f b v is = ap (λ (g : Formula). value_under v (sentence_of g)) is ∙ ap (value_under v) (says_Constant b)

pub so_far_skip : (ls : List Literal) (e : Bool) (all : List Formula) (part : Formula) (rest left : List Formula) (f : Formula) → IsSoFar ls e all (part ∷ rest) left
    → IsLeft ls (sentence_of part) f → f ≡ formula.Constant e → IsSoFar ls e all rest left
so_far_skip ls e all part rest left f so is constant = record {
  same = λ v keeps.
      ap (maybe_join e (value_under v (joint e left))) (sym (ap (λ (o : Option Bool). maybe_join e o (value_under v (joint e rest))) (constant_in f e v constant) ∙ join_first e (value_under v (joint e rest))))
      ∙ value_with ls e all part rest left f v so is keeps;
  atoms = so.atoms;
  within = λ a has. so.within a (Contains-append_right (atoms_in (sentence_of part)) (facts_of rest) a has);
  unsure = so.unsure;
}

pub so_far_push : (ls : List Literal) (e : Bool) (all : List Formula) (part : Formula) (rest left : List Formula) (f : Formula) → IsSoFar ls e all (part ∷ rest) left
    → IsLeft ls (sentence_of part) f → IsUnsure ls f → IsSoFar ls e all rest (left ++ f ∷ [])
so_far_push ls e all part rest left f so is unsure = record {
  same = λ v keeps.
      ap (λ (ss : List Sentence). maybe_join e (value_under v (joined_by e ss)) (value_under v (joint e rest))) (map_push sentence_of left f)
      ∙ ap (λ (o : Option Bool). maybe_join e o (value_under v (joint e rest))) (value_push v e (map sentence_of left) (sentence_of f))
      ∙ join_assoc e (value_under v (joint e left)) (value_under v (sentence_of f)) (value_under v (joint e rest))
      ∙ value_with ls e all part rest left f v so is keeps;
  atoms = λ a has. elim (Contains-append_cases (facts_of left) (atoms_in (sentence_of f)) a (subst (λ (atoms : List Atom). Contains atoms a) (facts_push left f) has)) [
    | inl before ↦ so.atoms a before
    | inr here ↦ so.within a (Contains-append_left (atoms_in (sentence_of part)) (facts_of rest) a (is.atoms a here))
  ];
  within = λ a has. so.within a (Contains-append_right (atoms_in (sentence_of part)) (facts_of rest) a has);
  unsure = All-push (IsUnsure ls) left f so.unsure unsure;
}

keeps_facts : (ls : List Literal) (e : Bool) (all : List Formula) (v : Atom → Option Bool) → KeepsValues (decided ls) v (atoms_in (joint e all)) → KeepsValues (decided ls) v (facts_of all)
keeps_facts ls e all v keeps = subst (KeepsValues (decided ls) v) (joint_facts e all) keeps

pub so_far_stop : (ls : List Literal) (e : Bool) (all : List Formula) (part : Formula) (rest left : List Formula) (f : Formula) → IsSoFar ls e all (part ∷ rest) left
    → IsLeft ls (sentence_of part) f → f ≡ formula.Constant (not e) → IsLeft ls (joined_by e (map sentence_of all)) (formula.Constant (not e))
so_far_stop ls e all part rest left f so is constant = record {
  same = λ v keeps.
      ap (value_under v) (says_Constant (not e)) ∙ sym (join_stops e (value_under v (joint e left)) (value_under v (joint e rest)))
      ∙ ap (λ (o : Option Bool). maybe_join e (value_under v (joint e left)) (maybe_join e o (value_under v (joint e rest)))) (sym (constant_in f (not e) v constant))
      ∙ value_with ls e all part rest left f v so is (keeps_facts ls e all v keeps);
  atoms = λ a has. absurd (no_atom a (subst (λ (t : Sentence). Contains (atoms_in t) a) (says_Constant (not e)) has));
  form = inl (not e, refl);
}

-- All parts

all_open : (ls : List Literal) (left : List Formula) → All (IsUnsure ls) left → list_all has_no_constant left ≡ true
all_open ls [] unsure = refl
all_open ls (f ∷ left) unsure = and_from _ _ (All-head (IsUnsure ls) f left unsure).open_ended (all_open ls left (All-tail (IsUnsure ls) f left unsure))

all_undecided : (ls : List Literal) (left : List Formula) → All (IsUnsure ls) left → All (λ (a : Atom). decided ls a ≡ None) (facts_of left)
all_undecided ls [] unsure = All-nil (λ (a : Atom). decided ls a ≡ None)
all_undecided ls (f ∷ left) unsure =
    All-append (λ (a : Atom). decided ls a ≡ None) (atoms_in (sentence_of f)) (facts_of left) (All-head (IsUnsure ls) f left unsure).undecided (all_undecided ls left (All-tail (IsUnsure ls) f left unsure))

all_unsure : (ls : List Literal) (e : Bool) (f : Formula) (left : List Formula) → All (IsUnsure ls) (f ∷ left) → value_under (decided ls) (joint e (f ∷ left)) ≡ None
all_unsure ls e f [] unsure =
    let first = All-head (IsUnsure ls) f [] unsure in
    value_cons (decided ls) e (sentence_of f) [] ∙ ap (maybe_join e (value_under (decided ls) (sentence_of f))) (value_nil (decided ls) e)
    ∙ join_last e (value_under (decided ls) (sentence_of f)) ∙ sym (surely_is ls (sentence_of f)) ∙ first.unsure
all_unsure ls e f (g ∷ left) unsure =
    let first = All-head (IsUnsure ls) f (g ∷ left) unsure in
    value_cons (decided ls) e (sentence_of f) (map sentence_of (g ∷ left))
    ∙ ap (λ (o : Option Bool). maybe_join e o (value_under (decided ls) (joint e (g ∷ left)))) (sym (surely_is ls (sentence_of f)) ∙ first.unsure)
    ∙ join_nones e (value_under (decided ls) (joint e (g ∷ left))) (all_unsure ls e g left (All-tail (IsUnsure ls) f (g ∷ left) unsure))

pub so_far_end : (ls : List Literal) (e : Bool) (all left : List Formula) (made : Formula) → IsSoFar ls e all [] left → sentence_of made ≡ joined_by e (map sentence_of left)
    → (left ≡ [] → made ≡ formula.Constant e) → ((left ≡ [] → ⊥) → has_no_constant made ≡ list_all has_no_constant left) → IsLeft ls (joined_by e (map sentence_of all)) made
so_far_end ls e all left made so says nothing some = record {
  same = λ v keeps.
      ap (value_under v) says ∙ sym (ap (maybe_join e (value_under v (joint e left))) (value_nil v e) ∙ join_last e (value_under v (joint e left)))
      ∙ so.same v (keeps_facts ls e all v keeps);
  atoms = λ a has.
      subst (λ (atoms : List Atom). Contains atoms a) (sym (joint_facts e all))
      (so.atoms a (subst (λ (atoms : List Atom). Contains atoms a) (ap atoms_in says ∙ joint_facts e left) has));
  form = by left so.unsure says nothing some;
} where
  by : (left : List Formula) → All (IsUnsure ls) left → sentence_of made ≡ joint e left → (left ≡ [] → made ≡ formula.Constant e) → ((left ≡ [] → ⊥) → has_no_constant made ≡ list_all has_no_constant left)
      → ((known : Bool) × (made ≡ formula.Constant known)) ⊎ IsUnsure ls made
  by [] unsure says nothing some = inl (e, nothing refl)
  by (f ∷ left) unsure says nothing some = inr (record {
    open_ended = some (λ is. cc is) ∙ all_open ls (f ∷ left) unsure;
    undecided = subst (All (λ (a : Atom). decided ls a ≡ None)) (sym (ap atoms_in says ∙ joint_facts e (f ∷ left))) (all_undecided ls (f ∷ left) unsure);
    unsure = ap (surely ls) says ∙ surely_is ls (joint e (f ∷ left)) ∙ all_unsure ls e f left unsure;
  })
