-- What is allowed, as a test, is what the relation says; and a policy in which nothing governs a check allows it.
use Rattle.std.proofs.Common.{◌≡◌, Bool, true, not, ◌||◌, Option, None, refl, ap}
use Rattle.std.specs.Bool.{Decides}
use Rattle.std.proofs.lemmas.Bool.Decides.{Decides-like}
use Rattle.csp_model.specs.DecideGoverning.{allows_by}
use Rattle.csp_model.specs.Governing.{Governor, governor}
use Rattle.csp_model.specs.DecideNavigation.{is_report}
use Rattle.csp_model.specs.Laws.{EnforcedAllow}
use Rattle.csp_model.specs.DecideVerdict.{allows}
use Rattle.csp_model.specs.Verdict.{Allows, is_enforce, list_allows, effective_name}
use Rattle.csp_model.proofs.Deciding.{yes, all_decides}
use Rattle.csp_model.proofs.FetchDecided.{fetch_decides}
use Rattle.csp_model.proofs.InlineDecided.{inline_decides, eval_decides, wasm_decides}
use Rattle.csp_model.proofs.NavigationDecided.{base_decides, form_decides, ancestor_decides, opaque_ancestor_decides, capability_decides, worker_start_decides}
use Rattle.csp_model.specs.Types.{Check, Disposition, Policy, PolicyList}
use Rattle.csp_model.specs.declared.policy.Disposition.TheVariants.{Enforce, Report}

pub allows_decides : (policy : Policy) (asked : Check) → Decides (allows policy asked) (Allows policy asked)
allows_decides policy (Check.Fetch group there redirects nonce integrity parser_inserted) =
    fetch_decides policy group there redirects nonce integrity parser_inserted
allows_decides policy (Check.Inline kind nonce digests) = inline_decides policy kind nonce digests
allows_decides policy Check.Eval = eval_decides policy
allows_decides policy Check.Wasm = wasm_decides policy
allows_decides policy (Check.Base there) = base_decides policy there
allows_decides policy (Check.Form there redirects) = form_decides policy there redirects
allows_decides policy (Check.Ancestor there) = ancestor_decides policy there
allows_decides policy Check.OpaqueAncestor = opaque_ancestor_decides policy
allows_decides policy (Check.Capability capability) = capability_decides policy capability
allows_decides policy Check.WorkerStart = worker_start_decides policy

if_enforced : {P : Type 0} (d : Disposition) (x : Bool) → Decides x P → Decides (not (is_enforce d) || x) (d ≡ Enforce → P)
if_enforced Enforce x p = Decides-like x (λ h _. h) (λ f. f refl) p
if_enforced Report x p = yes (λ (h : Report ≡ Enforce). cc)

pub list_allows_decides : (list : PolicyList) (asked : Check) → Decides (list_allows list asked) (EnforcedAllow list asked)
list_allows_decides list asked =
    all_decides (λ (p : Policy). not (is_enforce p.disposition) || allows p asked)
    (λ (p : Policy). p.disposition ≡ Enforce → Allows p asked)
    (λ p. if_enforced p.disposition (allows p asked) (allows_decides p asked)) list.policies

-- Where nothing governs

by_none : (o : Option Governor) (test : Governor → Bool) → o ≡ None → allows_by o test ≡ true
by_none o test none = ap (λ (x : Option Governor). allows_by x test) none

by_report : (policy : Policy) (rest : Bool) → rest ≡ true → (is_report policy.disposition || rest) ≡ true
by_report policy rest h = elim policy.disposition as (λ d. (is_report d || rest) ≡ true) [ Report ↦ refl | Enforce ↦ h ]

pub ungoverned : (policy : Policy) (asked : Check) → governor policy (effective_name asked) ≡ None → allows policy asked ≡ true
ungoverned policy (Check.Fetch group there redirects nonce integrity parser_inserted) none = by_none _ _ none
ungoverned policy (Check.Inline kind nonce digests) none = by_none _ _ none
ungoverned policy Check.Eval none = by_none _ _ none
ungoverned policy Check.Wasm none = by_none _ _ none
ungoverned policy (Check.Base there) none = by_none _ _ none
ungoverned policy (Check.Form there redirects) none = by_none _ _ none
ungoverned policy (Check.Ancestor there) none = by_none _ _ none
ungoverned policy Check.OpaqueAncestor none = by_none _ _ none
ungoverned policy (Check.Capability capability) none = by_report policy _ (by_none _ _ none)
ungoverned policy Check.WorkerStart none = by_report policy _ (by_none _ _ none)
