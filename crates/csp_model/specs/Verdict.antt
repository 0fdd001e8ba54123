-- What policies and lists of policies answer (Content Security Policy Level 3, sections 4.1.2, 4.2, 5 and
-- 6.3.1.1).
use Rattle.std.specs.Prelude.{ℕ, ◌+◌, Bool, true, false, not, ◌&&◌, ◌||◌, if◌then◌else◌, List, [], ◌∷◌, slice_get, Option, None, unwrap_or}
use Rattle.std.specs.List.{list_any, list_all, flat_map, filter_map, cons_option}
use Rattle.std.specs.Option.{option_map}
use Rattle.csp_model.specs.Names.{group_directive, inline_directive}
use Rattle.csp_model.specs.Governing.{governor}
use Rattle.csp_model.specs.Fetch.{FetchAllows}
use Rattle.csp_model.specs.Inline.{InlineAllows, EvalAllows, WasmAllows}
use Rattle.csp_model.specs.Navigation.{BaseAllows, FormAllows, AncestorAllows, OpaqueAncestorAllows, CapabilityAllows, WorkerStartAllows}
use Rattle.csp_model.specs.DecideVerdict.{allows}
use Rattle.csp_model.specs.DecideTokens.{has_keyword}
use Rattle.csp_model.specs.Policies.{policy_text}
use Rattle.csp_model.specs.Types.{Name, Check, Keyword, Disposition, Policy, PolicyList, Item, Verdict}
use Rattle.csp_model.specs.Types.{Described, Violation}
use Rattle.csp_model.specs.declared.name.Name.TheVariants.{ScriptSrc, BaseUri, FormAction, FrameAncestors, Sandbox}
use Rattle.csp_model.specs.declared.policy.Disposition.TheVariants.{Enforce, Report}

-- What is allowed

-- a policy allows a check, whatever its disposition
abbrev pub Allows : Policy → Check → Type 0
Allows policy (Check.Fetch group there redirects nonce integrity parser_inserted) =
    FetchAllows policy group there redirects nonce integrity parser_inserted
Allows policy (Check.Inline kind nonce digests) = InlineAllows policy kind nonce digests
Allows policy Check.Eval = EvalAllows policy
Allows policy Check.Wasm = WasmAllows policy
Allows policy (Check.Base there) = BaseAllows policy there
Allows policy (Check.Form there redirects) = FormAllows policy there redirects
Allows policy (Check.Ancestor there) = AncestorAllows policy there
Allows policy Check.OpaqueAncestor = OpaqueAncestorAllows policy
Allows policy (Check.Capability capability) = CapabilityAllows policy capability
Allows policy Check.WorkerStart = WorkerStartAllows policy

abbrev pub is_enforce : Disposition → Bool
is_enforce Enforce = true
is_enforce Report = false

-- the numbers of the enforced policies, where the first policy has this number
abbrev pub enforced_from : ℕ → List Policy → List ℕ
enforced_from number [] = []
enforced_from number (p ∷ ps) =
    if is_enforce p.disposition then number ∷ enforced_from (number + 1) ps
    else enforced_from (number + 1) ps

abbrev pub enforced : PolicyList → List ℕ
enforced list = enforced_from 0 list.policies

-- a list allows a check: each enforced policy does
abbrev pub list_allows : PolicyList → Check → Bool
list_allows list asked =
    list_all (λ (p : Policy). not (is_enforce p.disposition) || allows p asked) list.policies

-- a list allows a request: it allows each of its checks
abbrev pub allows_all : PolicyList → List Check → Bool
allows_all list checks = list_all (list_allows list) checks

-- The verdict

-- the directive that a check asks for
abbrev pub effective_name : Check → Name
effective_name (Check.Fetch group there redirects nonce integrity parser_inserted) = group_directive group
effective_name (Check.Inline kind nonce digests) = inline_directive kind
effective_name Check.Eval = ScriptSrc
effective_name Check.Wasm = ScriptSrc
effective_name (Check.Base there) = BaseUri
effective_name (Check.Form there redirects) = FormAction
effective_name (Check.Ancestor there) = FrameAncestors
effective_name Check.OpaqueAncestor = FrameAncestors
effective_name (Check.Capability capability) = Sandbox
effective_name Check.WorkerStart = Sandbox

-- the item of the policy of this number, where what governs in it doesn't allow the check
abbrev pub item_of : ℕ → Policy → Check → Option Item
item_of number policy asked =
    if allows policy asked then None
    else option_map (λ g. record {
      policy = number;
      disposition = policy.disposition;
      effective = effective_name asked;
      governing = g.name;
    }) (governor policy (effective_name asked))

-- the items of policies in order, of which the first has this number
abbrev pub items_from : ℕ → List Policy → Check → List Item
items_from number [] asked = []
items_from number (policy ∷ policies) asked =
    cons_option (item_of number policy asked) (items_from (number + 1) policies asked)

abbrev pub is_enforced : Item → Bool
is_enforced item = is_enforce item.disposition

-- the items up to and with the first enforced one
abbrev pub through_enforced : List Item → List Item
through_enforced [] = []
through_enforced (item ∷ items) = if is_enforced item then item ∷ [] else item ∷ through_enforced items

-- a base check ends at the first enforced policy that doesn't allow it
abbrev pub shown_items : Check → List Item → List Item
shown_items (Check.Base there) items = through_enforced items
shown_items asked items = items

-- the items of a check
abbrev pub items_of : PolicyList → Check → List Item
items_of list asked = shown_items asked (items_from 0 list.policies asked)

-- the checks of a request that are judged: up to and with the first that the list blocks
abbrev pub judged_checks : PolicyList → List Check → List Check
judged_checks list [] = []
judged_checks list (asked ∷ rest) = asked ∷ (if list_allows list asked then judged_checks list rest else [])

-- the verdict on a request
abbrev pub verdict_of : PolicyList → List Check → Verdict
verdict_of list checks =
    let items = flat_map (items_of list) (judged_checks list checks) in
    record { blocked = list_any is_enforced items; items = items }

-- Violations (section 5)

-- a sandbox makes no report
abbrev pub is_reported : Check → Bool
is_reported (Check.Fetch group there redirects nonce integrity parser_inserted) = true
is_reported (Check.Inline kind nonce digests) = true
is_reported Check.Eval = true
is_reported Check.Wasm = true
is_reported (Check.Base there) = true
is_reported (Check.Form there redirects) = true
is_reported (Check.Ancestor there) = true
is_reported Check.OpaqueAncestor = true
is_reported (Check.Capability capability) = false
is_reported Check.WorkerStart = false

-- a report may show a sample of the source
abbrev pub has_sample : Check → Bool
has_sample (Check.Inline kind nonce digests) = true
has_sample Check.Eval = true
has_sample asked = false

-- it does, where what governs asks for samples
abbrev pub is_sampled : Policy → Check → Bool
is_sampled policy asked =
    has_sample asked && unwrap_or (option_map (λ g. has_keyword Keyword.ReportSample g.directive.sources)
    (governor policy (effective_name asked))) false

-- the violation of this policy for an item
abbrev pub violation_of : Described → Check → Item → Policy → Violation
violation_of described asked item policy = record {
  disposition = item.disposition;
  effective = item.effective;
  blocked_uri = described.blocked_uri;
  sample = if is_sampled policy asked then described.sample else [];
  policy = policy_text policy;
}

-- a violation for each item of a check
abbrev pub check_violations : PolicyList → Described → Check → List Violation
check_violations list described asked =
    if is_reported asked
    then filter_map (λ (item : Item).
    option_map (violation_of described asked item) (slice_get list.policies item.policy))
    (items_of list asked)
    else []

-- the violations of a request
abbrev pub violations_of : PolicyList → Described → List Violation
violations_of list described =
    flat_map (check_violations list described) (judged_checks list described.checks)
