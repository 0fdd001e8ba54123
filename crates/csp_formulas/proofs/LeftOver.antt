-- What is left of a formula has the formula's value, and is a constant exactly where the literals decide the
-- formula.
use Rattle.std.proofs.Common.{arith, ◌≡◌, ◌∙◌, sym, ap, subst, refl, Bool, true, false, not, ◌&&◌, ◌||◌, List, [], ◌∷◌, map, inl, inr, All, ◌↔◌}
use Rattle.std.specs.Prelude.{Option, Some, None, IfSome, IsSome, IsTrue, Contains}
use Rattle.std.proofs.lemmas.List.Elements.{All-nil, All-cons}
use Rattle.std.proofs.lemmas.List.Folds.{list_all-map}
use Rattle.std.proofs.lemmas.Option.{same_Some}
use Rattle.csp_model.specs.declared.check.Check.{Check}
use Rattle.csp_model.specs.declared.source.Hash.{Hash}
use Rattle.csp_facts.specs.Follows.{decided}
use Rattle.csp_facts.specs.Holding.{holds}
use Rattle.csp_facts.specs.declared.atom.Atom.{Atom}
use Rattle.csp_facts.specs.declared.atom.Literal.{Literal}
use Rattle.csp_formula.specs.Sentences.{Sentence, Known, Fact, Not, Both, Either}
use Rattle.csp_formulas.specs.Formulas.{sentence_of, sentence_step}
use Rattle.csp_formula.specs.Surely.{maybe_not, maybe_and, maybe_or, surely}
use Rattle.csp_formula.specs.Values.{AreTrueOf, atoms_in, is_true_for}
use Rattle.csp_formulas.specs.declared.formula.Formula.{Formula}
use Rattle.csp_formulas.specs.declared.formula.Formula.TheVariants as formula
use Rattle.csp_formulas.specs.declared.formula.Formula.TheVariants.{rolls-Constant, rolls-Fact, rolls-Not, rolls-Every, rolls-OneOf}
use Rattle.csp_formulas.specs.declared.formula.Formula.TheOpen.{Formula-F}
use Rattle.csp_formulas.specs.declared.formula.Formula.TheFolds.{fold-roll-Formula}
use Rattle.csp_formula.proofs.SurelySound.{surely_sound}
use Rattle.std.specs.Global.{Vec}
use Rattle.std.specs.List.{list_all}
use Rattle.csp_formulas.specs.Residuals.{some_all, no_constant_step, has_no_constant, KeepsValues, value_under, IsUnsure, IsLeft, IsDenied}

-- One layer

pub says_Constant : (b : Bool) → sentence_of (formula.Constant b) ≡ Known b
says_Constant b = ap sentence_of (sym (rolls-Constant b)) ∙ fold-roll-Formula Sentence sentence_step (Formula-F.Constant b)

pub says_Fact : (a : Atom) → sentence_of (formula.Fact a) ≡ Fact a
says_Fact a = ap sentence_of (sym (rolls-Fact a)) ∙ fold-roll-Formula Sentence sentence_step (Formula-F.Fact a)

pub says_Not : (x : _) → sentence_of (formula.Not x) ≡ Not (sentence_of x.value)
says_Not x = ap sentence_of (sym (rolls-Not x)) ∙ fold-roll-Formula Sentence sentence_step (Formula-F.Not x)

pub fact_is_open : (a : Atom) → has_no_constant (formula.Fact a) ≡ true
fact_is_open a = ap has_no_constant (sym (rolls-Fact a)) ∙ fold-roll-Formula Bool no_constant_step (Formula-F.Fact a)

pub not_is_open : (x : _) → has_no_constant (formula.Not x) ≡ has_no_constant x.value
not_is_open x = ap has_no_constant (sym (rolls-Not x)) ∙ fold-roll-Formula Bool no_constant_step (Formula-F.Not x)

some_each : (fs : List Formula) → (fs ≡ [] → ⊥) → some_all (map has_no_constant fs) ≡ list_all has_no_constant fs
some_each [] some = absurd (some refl)
some_each (f ∷ fs) some = list_all-map (λ (test : Bool). test) has_no_constant (f ∷ fs)

pub every_is_open : (v : Vec Formula) → (v.items ≡ [] → ⊥) → has_no_constant (formula.Every v) ≡ list_all has_no_constant v.items
every_is_open v some = ap has_no_constant (sym (rolls-Every v)) ∙ fold-roll-Formula Bool no_constant_step (Formula-F.Every v) ∙ some_each v.items some

pub one_is_open : (v : Vec Formula) → (v.items ≡ [] → ⊥) → has_no_constant (formula.OneOf v) ≡ list_all has_no_constant v.items
one_is_open v some = ap has_no_constant (sym (rolls-OneOf v)) ∙ fold-roll-Formula Bool no_constant_step (Formula-F.OneOf v) ∙ some_each v.items some

-- Values

pub surely_is : (ls : List Literal) (s : Sentence) → surely ls s ≡ value_under (decided ls) s
surely_is ls (Known b) = refl
surely_is ls (Fact a) = refl
surely_is ls (Not x) = ap maybe_not (surely_is ls x)
surely_is ls (Both x y) = ap (λ (o : Option Bool). maybe_and o (surely ls y)) (surely_is ls x) ∙ ap (maybe_and (value_under (decided ls) x)) (surely_is ls y)
surely_is ls (Either x y) = ap (λ (o : Option Bool). maybe_or o (surely ls y)) (surely_is ls x) ∙ ap (maybe_or (value_under (decided ls) x)) (surely_is ls y)

-- the values on a check
abbrev on_check : List Hash → Check → Atom → Option Bool
on_check hashes asked atom = Some (holds hashes asked atom)

some_and : (a b : Bool) → Some (a && b) ≡ maybe_and (Some a) (Some b)
some_and true b = refl
some_and false b = refl

some_or : (a b : Bool) → Some (a || b) ≡ maybe_or (Some a) (Some b)
some_or true b = refl
some_or false b = refl

is_true_is : (hashes : List Hash) (asked : Check) (s : Sentence) → Some (is_true_for hashes asked s) ≡ value_under (on_check hashes asked) s
is_true_is hashes asked (Known b) = refl
is_true_is hashes asked (Fact a) = refl
is_true_is hashes asked (Not x) = ap maybe_not (is_true_is hashes asked x)
is_true_is hashes asked (Both x y) =
    some_and (is_true_for hashes asked x) (is_true_for hashes asked y)
    ∙ ap (λ (o : Option Bool). maybe_and o (Some (is_true_for hashes asked y))) (is_true_is hashes asked x) ∙ ap (maybe_and (value_under (on_check hashes asked) x)) (is_true_is hashes asked y)
is_true_is hashes asked (Either x y) =
    some_or (is_true_for hashes asked x) (is_true_for hashes asked y)
    ∙ ap (λ (o : Option Bool). maybe_or o (Some (is_true_for hashes asked y))) (is_true_is hashes asked x) ∙ ap (maybe_or (value_under (on_check hashes asked) x)) (is_true_is hashes asked y)

keeps_itself : (known : Atom → Option Bool) (atoms : List Atom) → KeepsValues known known atoms
keeps_itself known atoms a has some = refl

same_value : (o : Option Bool) (b : Bool) → IfSome o (λ k. b ≡ k) → IsSome o → Some b ≡ o
same_value None b is some = cc some
same_value (Some k) b is some = ap Some is

keeps_check : (hashes : List Hash) (asked : Check) (ls : List Literal) (atoms : List Atom) → AreTrueOf hashes asked ls → KeepsValues (decided ls) (on_check hashes asked) atoms
keeps_check hashes asked ls atoms meets a has some = same_value (decided ls a) (holds hashes asked a) (surely_sound hashes asked ls (Fact a) meets) some

-- What the clauses say

constant_value : (ls : List Literal) (s : Sentence) (left : Formula) (known : Bool) → IsLeft ls s left → left ≡ formula.Constant known → surely ls s ≡ Some known
constant_value ls s left known is same =
    surely_is ls s ∙ sym (is.same (decided ls) (keeps_itself (decided ls) (atoms_in s))) ∙ ap (λ (f : Formula). value_under (decided ls) (sentence_of f)) same ∙ ap (value_under (decided ls)) (says_Constant known)

left_value : (ls : List Literal) (s : Sentence) (left : Formula) → IsLeft ls s left → surely ls (sentence_of left) ≡ surely ls s
left_value ls s left is = surely_is ls (sentence_of left) ∙ is.same (decided ls) (keeps_itself (decided ls) (atoms_in s)) ∙ sym (surely_is ls s)

pub constant_where_sure : (ls : List Literal) (s : Sentence) (left : Formula) → IsLeft ls s left → (known : Bool) → (left ≡ formula.Constant known) ↔ (surely ls s ≡ Some known)
constant_where_sure ls s left is known = (
  constant_value ls s left known is,
  λ sure. elim is.form [
    | inl constant ↦ constant.1 ∙ ap formula.Constant (same_Some _ _ (sym (constant_value ls s left constant.0 is constant.1) ∙ sure))
    | inr unsure ↦ let none = unsure.unsure in let same = left_value ls s left is in cc
  ],
)

pub no_constant_elsewhere : (ls : List Literal) (s : Sentence) (left : Formula) → IsLeft ls s left → surely ls s ≡ None → IsTrue (has_no_constant left)
no_constant_elsewhere ls s left is none = elim is.form [
  | inl constant ↦ let some = constant_value ls s left constant.0 is constant.1 in cc
  | inr unsure ↦ unsure.open_ended
]

pub undecided : (ls : List Literal) (s : Sentence) (left : Formula) → IsLeft ls s left → All (λ (a : Atom). decided ls a ≡ None) (atoms_in (sentence_of left))
undecided ls s left is = elim is.form [
  | inl constant ↦ subst (λ (f : Formula). All (λ (a : Atom). decided ls a ≡ None) (atoms_in (sentence_of f))) (sym constant.1)
      (subst (λ (t : Sentence). All (λ (a : Atom). decided ls a ≡ None) (atoms_in t)) (sym (says_Constant constant.0)) (All-nil (λ (a : Atom). decided ls a ≡ None)))
  | inr unsure ↦ unsure.undecided
]

pub value_kept : (ls : List Literal) (s : Sentence) (left : Formula) → IsLeft ls s left → (hashes : List Hash) (asked : Check) → AreTrueOf hashes asked ls
    → is_true_for hashes asked (sentence_of left) ≡ is_true_for hashes asked s
value_kept ls s left is hashes asked meets =
    same_Some _ _ (is_true_is hashes asked (sentence_of left) ∙ is.same (on_check hashes asked) (keeps_check hashes asked ls (atoms_in s) meets) ∙ sym (is_true_is hashes asked s))

pub further_kept : (ls : List Literal) (s : Sentence) (left : Formula) → IsLeft ls s left → (others : List Literal) → KeepsValues (decided ls) (decided others) (atoms_in s)
    → surely others (sentence_of left) ≡ surely others s
further_kept ls s left is others keeps = surely_is others (sentence_of left) ∙ is.same (decided others) keeps ∙ sym (surely_is others s)

-- Constants, facts and denials

no_atom : (a : Atom) → Contains [] a → ⊥
no_atom a has = omega (arith, has.1)

pub left_constant : (ls : List Literal) (b : Bool) → IsLeft ls (Known b) (formula.Constant b)
left_constant ls b = record {
  same = λ values keeps. ap (value_under values) (says_Constant b);
  atoms = λ a has. subst (λ (t : Sentence). Contains (atoms_in t) a) (says_Constant b) has;
  form = inl (b, refl);
}

pub left_decided : (ls : List Literal) (a : Atom) (b : Bool) → decided ls a ≡ Some b → IsLeft ls (Fact a) (formula.Constant b)
left_decided ls a b is = record {
  same = λ values keeps. ap (value_under values) (says_Constant b) ∙ sym (keeps a (0, omega arith, refl) (subst IsSome (sym is) refl) ∙ is);
  atoms = λ other has. absurd (no_atom other (subst (λ (t : Sentence). Contains (atoms_in t) other) (says_Constant b) has));
  form = inl (b, refl);
}

pub left_undecided : (ls : List Literal) (a : Atom) → decided ls a ≡ None → IsLeft ls (Fact a) (formula.Fact a)
left_undecided ls a is = record {
  same = λ values keeps. ap (value_under values) (says_Fact a);
  atoms = λ other has. subst (λ (t : Sentence). Contains (atoms_in t) other) (says_Fact a) has;
  form = inr (record {
    open_ended = fact_is_open a;
    undecided = subst (λ (t : Sentence). All (λ (x : Atom). decided ls x ≡ None) (atoms_in t)) (sym (says_Fact a)) (All-cons (λ (x : Atom). decided ls x ≡ None) a [] is (All-nil (λ (x : Atom). decided ls x ≡ None)));
    unsure = ap (surely ls) (says_Fact a) ∙ is;
  });
}

denied_unsure : (ls : List Literal) (old new : Formula) → IsDenied old new → IsUnsure ls old → IsUnsure ls new
denied_unsure ls old new is unsure = record {
  open_ended = is.open_ended unsure.open_ended;
  undecided = subst (All (λ (x : Atom). decided ls x ≡ None)) (sym is.atoms) unsure.undecided;
  unsure = surely_is ls (sentence_of new) ∙ is.says (decided ls) ∙ ap maybe_not (sym (surely_is ls (sentence_of old)) ∙ unsure.unsure);
}

pub left_denied : (ls : List Literal) (s : Sentence) (old new : Formula) → IsLeft ls s old → IsDenied old new → IsLeft ls (Not s) new
left_denied ls s old new left is = record {
  same = λ values keeps. is.says values ∙ ap maybe_not (left.same values keeps);
  atoms = λ a has. left.atoms a (subst (λ (atoms : List Atom). Contains atoms a) is.atoms has);
  form = elim left.form [
    | inl constant ↦ inl (not constant.0, is.constant constant.0 constant.1)
    | inr unsure ↦ inr (denied_unsure ls old new is unsure)
  ];
}
