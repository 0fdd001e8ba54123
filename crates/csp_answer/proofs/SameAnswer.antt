-- Answers of the same conjunctions and the same rule on integrity metadata say the same, and the test of two answers finds such ones.
use Rattle.std.proofs.Common.{◌≡◌, ◌∙◌, refl, sym, ap, subst, ℕ, ◌<◌, true, List, length, Option, Some, None, All, IfSome}
use Rattle.std.specs.Bool.{Decides}
use Rattle.std.specs.Cmp.Lexicographic.{pointwise}
use Rattle.std.specs.Option.{option_eq}
use Rattle.std.specs.Prelude.{◌==◌}
use Rattle.std.proofs.lemmas.Bool.{and_parts}
use Rattle.std.proofs.lemmas.Bool.Decides.{Decides-and, Decides-eqb}
use Rattle.std.proofs.lemmas.Slice.Eq.{slice_eq-Decides}
use Rattle.csp_facts.specs.declared.atom.Atom.{Atom}
use Rattle.csp_formula.specs.Sentences.{Sentence, Either}
use Rattle.csp_answer.specs.Answers.{AreThere, IsAmong, IsIntegrityThere, Rise, answer_in, disjunction_in, integrity_in, sentence_in, SaysTheSame}
use Rattle.csp_answer.specs.Policies.{IsSameAnswer, IsSameIntegrity}
use Rattle.csp_answer.specs.Tables.{Says}
use Rattle.csp_answer.specs.contracts.answer.ShapeAnswerPartialEq.TheImpl as answers
use Rattle.csp_answer.specs.contracts.answer.IntegrityPartialEq.TheImpl as integrities
use Rattle.csp_answer.specs.contracts.conjunction.ConjunctionPartialEq.TheImpl as conjunctions
use Rattle.csp_answer.specs.declared.answer.ShapeAnswer.{ShapeAnswer}
use Rattle.csp_answer.specs.declared.answer.Integrity.{Integrity}
use Rattle.csp_answer.specs.declared.conjunction.Conjunction.{Conjunction}

-- What they say

integrity_same : (atoms : List Atom) (one other : Option Integrity) → IsSameIntegrity one other → integrity_in atoms one ≡ integrity_in atoms other
integrity_same atoms None None same = refl
integrity_same atoms (Some i) (Some j) same = rw (same.0, same.1, same.2) refl
integrity_same atoms None (Some j) same = absurd same
integrity_same atoms (Some i) None same = absurd same

there_same : (count : ℕ) (one other : Option Integrity) → IsSameIntegrity one other → IfSome other (IsIntegrityThere count) → IfSome one (IsIntegrityThere count)
there_same count None None same there = tt
there_same count (Some i) (Some j) same there = record {
  outside = subst (λ (n : ℕ). n < count) (sym same.0) there.outside;
  others = subst (All (λ name. name < count)) (sym same.1) there.others;
  own = subst (All (λ name. name < count)) (sym same.2) there.own;
}
there_same count None (Some j) same there = absurd same
there_same count (Some i) None same there = absurd same

pub says_too : (atoms : List Atom) (sentence : Sentence) (one other : ShapeAnswer) → IsSameAnswer one other → Says atoms sentence other → Says atoms sentence one
says_too atoms sentence one other same says =
    let is : sentence_in atoms one ≡ sentence_in atoms other =
    ap (λ (cs : List Conjunction). answer_in atoms cs one.integrity) same.conjunctions
    ∙ ap (Either (disjunction_in atoms other.conjunctions.items)) (integrity_same atoms one.integrity other.integrity same.integrity) in
    record {
      answer = record {
        there = subst (All (AreThere (length atoms))) (sym same.conjunctions) says.answer.there;
        integrity = there_same (length atoms) one.integrity other.integrity same.integrity says.answer.integrity;
        rise = subst Rise (sym same.conjunctions) says.answer.rise;
      };
      says = subst (λ (s : Sentence). SaysTheSame s sentence) (sym is) says.says;
      among = subst (λ (s : Sentence). IsAmong s sentence) (sym is) says.among;
    }

-- The test

pub name_decides : (a b : Option ℕ) → Decides (option_eq ◌==◌ a b) (a ≡ b)
name_decides None None = (λ e. refl, λ is. refl)
name_decides (Some m) (Some n) = let d = Decides-eqb m n in (λ e. ap Some (d.0 e), λ is. d.1 (cc is))
name_decides a b = (λ e. cc e, λ is. cc is)

from_names : (a b : Conjunction) → a.lead ≡ b.lead → a.port ≡ b.port → a.path ≡ b.path → a ≡ b
from_names a b e f g = rw (e, f, g) refl

conjunction_decides : (a b : Conjunction) → Decides ((conjunctions.ghosts).eq a b) (a ≡ b)
conjunction_decides a b =
    let all = Decides-and _ _ (name_decides a.lead b.lead) (Decides-and _ _ (name_decides a.port b.port) (name_decides a.path b.path)) in
    (λ e. let h = all.0 e in from_names a b h.0 h.1.0 h.1.1, λ is. all.1 (ap (λ c. c.lead) is, (ap (λ c. c.port) is, ap (λ c. c.path) is)))

same_names : (xs ys : List ℕ) → Decides (pointwise ◌==◌ xs ys) (xs ≡ ys)
same_names xs ys = slice_eq-Decides Decides-eqb xs ys (pointwise ◌==◌ xs ys) refl

integrity_found : (i j : Integrity) → (integrities.ghosts).eq i j ≡ true → IsSameIntegrity (Some i) (Some j)
integrity_found i j e =
    let all = Decides-and _ _ (Decides-eqb i.outside j.outside) (Decides-and _ _ (same_names i.others.items j.others.items) (same_names i.own.items j.own.items)) in
    let h = all.0 e in
    (h.0, h.1.0, h.1.1)

rule_found : (one other : Option Integrity) → option_eq (integrities.ghosts).eq one other ≡ true → IsSameIntegrity one other
rule_found None None e = tt
rule_found (Some i) (Some j) e = integrity_found i j e
rule_found None (Some j) e = cc e
rule_found (Some i) None e = cc e

pub same_found : (one other : ShapeAnswer) → (answers.ghosts).eq one other ≡ true → IsSameAnswer one other
same_found one other e =
    let both = and_parts (pointwise (conjunctions.ghosts).eq one.conjunctions.items other.conjunctions.items) (option_eq (integrities.ghosts).eq one.integrity other.integrity) e in
    record {
      conjunctions = (slice_eq-Decides conjunction_decides one.conjunctions.items other.conjunctions.items _ refl).0 both.0;
      integrity = rule_found one.integrity other.integrity both.1;
    }
