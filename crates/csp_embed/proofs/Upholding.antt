-- Whatever is enforced on a response that is shown upholds what is required of it.
use Rattle.std.proofs.Common.{◌≡◌, ◌↔◌, ◌∙◌, sym, subst, refl, Bool, true, false, not, ◌&&◌, ◌||◌, ◌++◌, IsTrue, IfSome}
use Rattle.csp_model.specs.DecideVerdict.{allows}
use Rattle.csp_model.specs.Verdict.{Allows, is_enforce, list_allows}
use Rattle.csp_model.specs.declared.check.Check.{Check}
use Rattle.csp_model.specs.declared.policy.Disposition.{Disposition}
use Rattle.csp_model.specs.declared.policy.Disposition.TheVariants.{Enforce}
use Rattle.csp_model.specs.declared.policy.Policy.{Policy}
use Rattle.csp_model.specs.declared.policy.PolicyList.{PolicyList}
use Rattle.csp_embed.specs.Decisions.{IsDecision, alone, enforced_list, Upholds}
use Rattle.csp_embed.specs.declared.decision.Decision.{Decision}
use Rattle.csp_embed.specs.declared.decision.Decision.TheVariants as decision

only : (a : Bool) → (a && true) ≡ true → a ≡ true
only true is = refl
only false is = is

second_of : (a b : Bool) → (a && b) ≡ true → b ≡ true
second_of true b is = is
second_of false b is = absurd (cc is)

-- an enforced policy allows what the list of it alone allows
alone_allows : (p : Policy) (asked : Check) → p.disposition ≡ Enforce → list_allows (alone p) asked ≡ true
    → allows p asked ≡ true
alone_allows p asked enforced is =
    let P : Disposition → Type 0 = λ d. ((not (is_enforce d) || allows p asked) && true) ≡ true in
    only (allows p asked) (subst P enforced is)

abbrev pub IsDecided : Type 0
IsDecided = (p : Policy) (asked : Check) → IsTrue (allows p asked) ↔ Allows p asked

abbrev pub IsJoined : Type 0
IsJoined = (first second : PolicyList) (asked : Check)
    → list_allows (record { policies = first.policies ++ second.policies }) asked
    ≡ (list_allows first asked && list_allows second asked)

pub upheld : IsDecided → IsJoined → (allowed : Bool) (required : Policy) (response : PolicyList) (d : Decision)
    → required.disposition ≡ Enforce → IsDecision allowed required response d
    → IfSome (enforced_list response d) (λ list. Upholds list required)
upheld decided joined true required response (decision.Added list) enforced is = λ asked valid allowed.
    let P : PolicyList → Type 0 = λ l. list_allows l asked ≡ true in
    let both = sym (joined response (alone required) asked) ∙ subst P is allowed in
    (decided required asked).0 (alone_allows required asked enforced (second_of _ _ both))
upheld decided joined false required response (decision.Served proof) enforced is = λ asked valid allowed.
    (decided required asked).0 (alone_allows required asked enforced (is.1 asked valid allowed))
upheld decided joined false required response (decision.Refused asked) enforced is = tt
upheld decided joined allowed required response d enforced is = absurd is
