-- What is allowed by lists of policies that are made of others.
use Rattle.std.proofs.Common.{◌≡◌, Bool, true, not, ◌&&◌, ◌||◌, List, ◌∷◌, ◌++◌, All, refl, sym, ap, ◌∙◌, IsPermutation, IsTrue, []}
use Rattle.std.specs.List.{list_all}
use Rattle.std.proofs.lemmas.List.Folds.{list_all-append}
use Rattle.std.proofs.lemmas.List.Sorted.{All-permutation, IsPermutation-sym}
use Rattle.std.proofs.lemmas.Bool.{and_parts}
use Rattle.std.proofs.lemmas.List.Elements.{All-head, All-tail}
use Rattle.csp_model.specs.Inclusion.{Subsumes}
use Rattle.csp_model.specs.Validity.{IsValidCheck}
use Rattle.csp_model.specs.DecideVerdict.{allows}
use Rattle.csp_model.specs.Verdict.{is_enforce, list_allows, allows_all}
use Rattle.csp_model.proofs.Deciding.{all_decides, itself, same_bool}
use Rattle.csp_model.specs.Types.{Check, Disposition, Policy, PolicyList}
use Rattle.csp_model.specs.declared.policy.Disposition.TheVariants.{Report}

abbrev enforced_allows : Check → Policy → Bool
enforced_allows asked p = not (is_enforce p.disposition) || allows p asked

pub joined_allows : (first second : PolicyList) (asked : Check)
    → list_allows (record { policies = first.policies ++ second.policies }) asked ≡ (list_allows first asked && list_allows second asked)
joined_allows first second asked = list_all-append (enforced_allows asked) first.policies second.policies

report_allows : (asked : Check) (p : Policy) → p.disposition ≡ Report → enforced_allows asked p ≡ true
report_allows asked p report = ap (λ (d : Disposition). not (is_enforce d) || allows p asked) report

pub report_forbids_nothing : (front back : List Policy) (p : Policy) (asked : Check) → p.disposition ≡ Report
    → list_allows (record { policies = front ++ p ∷ back }) asked ≡ list_allows (record { policies = front ++ back }) asked
report_forbids_nothing front back p asked report =
    let test = enforced_allows asked in
    list_all-append test front (p ∷ back)
    ∙ ap (λ (b : Bool). list_all test front && (b && list_all test back)) (report_allows asked p report)
    ∙ sym (list_all-append test front back)

shuffled_allows : (asked : Check) (ps qs : List Policy) → IsPermutation ps qs
    → list_all (enforced_allows asked) ps ≡ true → list_all (enforced_allows asked) qs ≡ true
shuffled_allows asked ps qs shuffled h =
    let P = λ (p : Policy). enforced_allows asked p ≡ true in
    let decides = all_decides (enforced_allows asked) P (λ p. itself (enforced_allows asked p)) in
    (decides qs).1 (All-permutation P ps qs shuffled ((decides ps).0 h))

pub order_is_free : (first second : PolicyList) (asked : Check) → IsPermutation first.policies second.policies
    → list_allows first asked ≡ list_allows second asked
order_is_free first second asked shuffled =
    same_bool (list_allows first asked) (list_allows second asked)
    (shuffled_allows asked first.policies second.policies shuffled)
    (shuffled_allows asked second.policies first.policies (IsPermutation-sym first.policies second.policies shuffled))

-- Requests

and_true : (a b : Bool) → a ≡ true → b ≡ true → (a && b) ≡ true
and_true a b p q = ap (λ (x : Bool). x && b) p ∙ q

requests_hold : (first second : PolicyList) → Subsumes first second → (checks : List Check) → All IsValidCheck checks
    → allows_all first checks ≡ true → allows_all second checks ≡ true
requests_hold first second subsumes [] valid all = refl
requests_hold first second subsumes (asked ∷ rest) valid all =
    let parts = and_parts (list_allows first asked) (allows_all first rest) all in
    and_true (list_allows second asked) (allows_all second rest)
    (subsumes asked (All-head IsValidCheck asked rest valid) parts.0)
    (requests_hold first second subsumes rest (All-tail IsValidCheck asked rest valid) parts.1)

pub requests_follow : (first second : PolicyList) → Subsumes first second → (checks : List Check) → All IsValidCheck checks
    → IsTrue (allows_all first checks) → IsTrue (allows_all second checks)
requests_follow first second subsumes checks valid all = requests_hold first second subsumes checks valid all

-- More policies

pub more_is_stricter : (first second : PolicyList) → Subsumes (record { policies = first.policies ++ second.policies }) first
more_is_stricter first second asked valid allowed =
    (and_parts (list_allows first asked) (list_allows second asked) (sym (joined_allows first second asked) ∙ allowed)).0
