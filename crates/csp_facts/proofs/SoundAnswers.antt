-- When an answer agrees with what is so.
use Rattle.std.proofs.Common.{◌≡◌, Bool, true, false, not, Option, Some, None, IfSome, refl, sym, subst, ◌⊎◌, inl, inr}
use Rattle.std.specs.Bool.{Decides, ⊤}
use Rattle.std.proofs.lemmas.Bool.{false≢true, not-true, false_from_ne_true}
use Rattle.csp_model.proofs.Deciding.{fails}
use Rattle.csp_facts.specs.Follows.{true_where, false_where, nested}

-- P, or its denial
abbrev Signed : Bool → Type 0 → Type 0
Signed true P = P
Signed false P = ¬ P

-- an answer, where there is one, is whether P holds
abbrev pub Agrees : Option Bool → Type 0 → Type 0
Agrees None P = ⊤
Agrees (Some known) P = Signed known P

-- so it is the value of the test of P
pub value_of_Agrees : {P : Type 0} (test : Bool) (answer : Option Bool) → Decides test P → Agrees answer P → IfSome answer (λ known. test ≡ known)
value_of_Agrees test None decided so = tt
value_of_Agrees test (Some true) decided so = decided.1 so
value_of_Agrees test (Some false) decided so = false_from_ne_true test (λ h. so (decided.0 h))

pub Agrees-test : {P : Type 0} (test : Bool) → Decides test P → Agrees (Some test) P
Agrees-test true decided = decided.0 refl
Agrees-test false decided = λ p. false≢true (decided.1 p)

pub Agrees-true_where : {P : Type 0} (test : Bool) → (test ≡ true → P) → Agrees (true_where test) P
Agrees-true_where true so = so refl
Agrees-true_where false so = tt

pub Agrees-false_where : {P : Type 0} (test : Bool) → (test ≡ true → ¬ P) → Agrees (false_where test) P
Agrees-false_where true denied = denied refl
Agrees-false_where false denied = tt

-- what is asked is so where the known lies inside it, and only where one of the two lies inside the other
pub Agrees-nested : {P I O : Type 0} (inner outer : Bool) → Decides inner I → Decides outer O → (I → P) → (P → I ⊎ O) → Agrees (nested inner outer) P
Agrees-nested true outer is_inner is_outer within either = within (is_inner.0 refl)
Agrees-nested false outer is_inner is_outer within either =
    Agrees-false_where (not outer) (λ apart p. elim (either p) [ inl i ↦ false≢true (is_inner.1 i) | inr o ↦ fails is_outer (not-true outer apart) o ])

-- what the test says of one value is so of what equals it
pub Agrees-at : {X : Type 0} (P : X → Type 0) (x known : X) (test : Bool) → Decides test (P known) → x ≡ known → Agrees (Some test) (P x)
Agrees-at P x known test decided e = Agrees-test test (subst (λ y. Decides test (P y)) (sym e) decided)

-- what is asked needs what the test decides
pub Agrees-unless : {P Q : Type 0} (test : Bool) → Decides test P → (Q → P) → Agrees (false_where (not test)) Q
Agrees-unless test decided needs = Agrees-false_where (not test) (λ apart q. fails decided (not-true test apart) (needs q))
