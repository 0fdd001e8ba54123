-- A check of an open branch is one that the first list allows and the policy of the second refuses.
use Rattle.std.proofs.Common.{arith, ◌≡◌, ◌∙◌, sym, subst, refl, ℕ, ◌<◌, zero, suc, Bool, true, false, not, ◌||◌, List, [], ◌∷◌, length, Option, Some, None, All, IfSome, IsTrue, MatchOption, slice_get, inl, inr, Result, Ok, Err, IfOk}
use Rattle.std.specs.List.{list_all}
use Rattle.std.proofs.lemmas.Bool.{cases_Bool, and_from, or_left, or_right, not_from_false}
use Rattle.csp_model.specs.DecideVerdict.{allows}
use Rattle.csp_model.specs.Validity.{IsValidCheck}
use Rattle.csp_model.specs.Verdict.{is_enforce}
use Rattle.csp_model.specs.declared.check.Check.{Check}
use Rattle.csp_model.specs.declared.policy.Policy.{Policy}
use Rattle.csp_facts.specs.declared.atom.Literal.{Literal}
use Rattle.csp_cell.specs.Cells.{Meets}
use Rattle.csp_facts.specs.Shapes.{HasShape}
use Rattle.csp_formula.specs.Compiled.{policy_sentence}
use Rattle.csp_formula.specs.Surely.{surely}
use Rattle.csp_formula.specs.Values.{is_true_for}
use Rattle.csp_formula.proofs.SurelySound.{surely_sound}
use Rattle.csp_proof.specs.Accepts.{Lists, hashes_in, IsSaid, AreSaid}
use Rattle.csp_proof.specs.Pairs.{Pair}
use Rattle.csp_search.specs.Answers.{ShowsNone}
use Rattle.csp_search.specs.Leaves.{IsOpen, IsSurely}

module _ (lists : Lists) (pair : Pair) (literals : List Literal) (asked : Check) (valid : IsValidCheck asked) (shape : HasShape asked pair.shape)
    (meets : Meets (hashes_in lists) asked literals) where
  -- a policy that surely has a value has it on the check
  value_of : (expected : Bool) (p : Policy) → IsSaid (hashes_in lists) p → surely literals (policy_sentence p pair.shape (hashes_in lists)) ≡ Some expected → allows p asked ≡ expected
  value_of expected p said sure =
      let s = policy_sentence p pair.shape (hashes_in lists) in
      let so : is_true_for (hashes_in lists) asked s ≡ expected =
      subst (λ (o : Option Bool). IfSome o (λ known. is_true_for (hashes_in lists) asked s ≡ known)) sure (surely_sound (hashes_in lists) asked literals s meets) in
      sym (said pair.shape asked shape valid) ∙ so

  -- the policies, one by one
  each_allows : (ps : List Policy) → All (IsSaid (hashes_in lists)) ps
      → ((i : ℕ) → i < length ps → IsSurely true (hashes_in lists) pair.shape literals (slice_get ps i))
      → list_all (λ (p : Policy). not (is_enforce p.disposition) || allows p asked) ps ≡ true
  each_allows [] said sure = refl
  each_allows (p ∷ ps) said sure =
      and_from (not (is_enforce p.disposition) || allows p asked) _
      (elim (cases_Bool (is_enforce p.disposition)) [
        | inl enforced ↦ or_right (not (is_enforce p.disposition)) (allows p asked) (value_of true p (said 0 p (omega arith)) (sure 0 (omega arith) enforced))
        | inr reports ↦ or_left (not (is_enforce p.disposition)) (allows p asked) (not_from_false (is_enforce p.disposition) reports)
      ])
      (each_allows ps (λ k d within. said (suc k) d (omega arith)) (λ i within. sure (suc i) (omega arith)))

  -- the policy of the second list
  refuses : (o : Option Policy) → IfSome o (IsSaid (hashes_in lists)) → IsSurely false (hashes_in lists) pair.shape literals o
      → MatchOption o ⊥ (λ (p : Policy). IsTrue (is_enforce p.disposition)) → MatchOption o ⊥ (λ (p : Policy). allows p asked ≡ false)
  refuses None said sure enforced = enforced
  refuses (Some p) said sure enforced = value_of false p said (sure enforced)

  said_at : (ps : List Policy) (i : ℕ) → All (IsSaid (hashes_in lists)) ps → IfSome (slice_get ps i) (IsSaid (hashes_in lists))
  said_at [] i said = tt
  said_at (p ∷ ps) zero said = said 0 p (omega arith)
  said_at (p ∷ ps) (suc i) said = said_at ps i (λ k d within. said (suc k) d (omega arith))

  pub shows_none : AreSaid lists.first lists.second → IsOpen lists pair literals
      → MatchOption (slice_get lists.second.policies pair.policy) ⊥ (λ (p : Policy). IsTrue (is_enforce p.disposition)) → ShowsNone lists pair asked
  shows_none said is_open enforced = record {
    valid = valid;
    shape = shape;
    allowed = each_allows lists.first.policies said.by_first is_open.first;
    refused = refuses (slice_get lists.second.policies pair.policy) (said_at lists.second.policies pair.policy said.by_second) is_open.second enforced;
  }

pub if_all : {T E : Type 0} (P Q R S : T → Type 0) (r : Result T E) → IfOk r P → IfOk r Q → IfOk r R → ((x : T) → P x → Q x → R x → S x) → IfOk r S
if_all P Q R S (Ok x) p q r each = each x p q r
if_all P Q R S (Err e) p q r each = tt
