-- The violations of a request are those of its verdict's items, without those of a sandbox.
use Rattle.std.proofs.Common.{◌≡◌, ℕ, suc, ◌+◌, true, false, not, List, [], ◌∷◌, ◌++◌, cond, Option, Some, None, slice_get, refl, sym, ap, subst, ◌∙◌, arith}
use Rattle.std.proofs.lemmas.List.Elements.{filter-append}
use Rattle.std.specs.List.{cons_option, filter, filter_map, flat_map}
use Rattle.std.specs.Option.{option_map}
use Rattle.csp_model.specs.DecideVerdict.{allows}
use Rattle.csp_model.specs.Governing.{Governor, governor}
use Rattle.csp_model.specs.Policies.{policy_text}
use Rattle.csp_model.specs.Verdict.{effective_name, item_of, items_from, through_enforced, is_enforced, shown_items, items_of, judged_checks, verdict_of, is_reported, violation_of, check_violations, violations_of}
use Rattle.csp_model.proofs.VerdictLaws.{item_by}
use Rattle.csp_model.specs.declared.check.Check.{Check}
use Rattle.csp_model.specs.declared.check.Check.TheVariants as check
use Rattle.csp_model.specs.declared.check.Group.TheVariants as group
use Rattle.csp_model.specs.declared.check.InlineKind.TheVariants as kind
use Rattle.csp_model.specs.declared.policy.Policy.{Policy}
use Rattle.csp_model.specs.declared.policy.PolicyList.{PolicyList}
use Rattle.csp_model.specs.declared.verdict.Described.{Described}
use Rattle.csp_model.specs.declared.verdict.Item.{Item}
use Rattle.csp_model.specs.declared.verdict.Violation.{Violation}
use Rattle.csp_verdict.specs.Reported.{violation_at, is_sandbox, makes_report, IsOf, AreOf}

-- Items

abbrev Each : (Item → Type 0) → List Item → Type 0
Each P [] = Unit {0}
Each P (item ∷ items) = P item × Each P items

-- an item is of a policy of the list, and of the directive that the check asks for
record IsItem (policies : List Policy) (asked : Check) (item : Item) : Type 0 where
  policy : Policy
  at : slice_get policies item.policy ≡ Some policy
  effective : item.effective ≡ effective_name asked

-- policies that stand in a list from a place on
abbrev Stand : ℕ → List Policy → List Policy → Type 0
Stand n rest all = (k : ℕ) (p : Policy) → slice_get rest k ≡ Some p → slice_get all (n + k) ≡ Some p

stand_later : (n : ℕ) (p : Policy) (rest all : List Policy) → Stand n (p ∷ rest) all → Stand (n + 1) rest all
stand_later n p rest all stand k q is =
    let e : n + 1 + k ≡ n + suc k = omega arith in
    rw e (stand (suc k) q is)

found_item : (n : ℕ) (p : Policy) (asked : Check) (all : List Policy) (items : List Item) (o : Option Governor)
    → slice_get all n ≡ Some p → Each (IsItem all asked) items
    → Each (IsItem all asked) (cons_option (option_map (item_by n p asked) o) items)
found_item n p asked all items None is others = others
found_item n p asked all items (Some g) is others = (record { policy = p; at = is; effective = refl }, others)

one_item : (n : ℕ) (p : Policy) (asked : Check) (all : List Policy) (items : List Item)
    → slice_get all n ≡ Some p → Each (IsItem all asked) items
    → Each (IsItem all asked) (cons_option (item_of n p asked) items)
one_item n p asked all items is others =
    elim (allows p asked) as (λ b. Each (IsItem all asked)
    (cons_option (cond b None (option_map (item_by n p asked) (governor p (effective_name asked)))) items)) [
      | true ↦ others
      | false ↦ found_item n p asked all items (governor p (effective_name asked)) is others
    ]

all_items : (n : ℕ) (rest all : List Policy) (asked : Check) → Stand n rest all
    → Each (IsItem all asked) (items_from n rest asked)
all_items n [] all asked stand = tt
all_items n (p ∷ rest) all asked stand =
    let e : n + 0 ≡ n = omega arith in
    let here : slice_get all n ≡ Some p = subst (λ m. slice_get all m ≡ Some p) e (stand 0 p refl) in
    one_item n p asked all (items_from (n + 1) rest asked) here
    (all_items (n + 1) rest all asked (stand_later n p rest all stand))

through_all : (P : Item → Type 0) (items : List Item) → Each P items → Each P (through_enforced items)
through_all P [] each = tt
through_all P (item ∷ items) each =
    elim (is_enforced item) as (λ b. Each P (cond b (item ∷ []) (item ∷ through_enforced items))) [
      | true ↦ (each.0, tt)
      | false ↦ (each.0, through_all P items each.1)
    ]

shown_all : (P : Item → Type 0) (asked : Check) (items : List Item) → Each P items → Each P (shown_items asked items)
shown_all P (check.Base there) items each = through_all P items each
shown_all P asked items each = each

each_item : (list : PolicyList) (asked : Check) → Each (IsItem list.policies asked) (items_of list asked)
each_item list asked =
    shown_all _ asked _ (all_items 0 list.policies list.policies asked (λ k p is. let e : 0 + k ≡ k = omega arith in rw e is))

-- Directives

-- a check is reported where it doesn't ask for a sandbox
reported_where : (asked : Check) → is_reported asked ≡ not (is_sandbox (effective_name asked))
reported_where (check.Fetch group.Connect there redirects nonce integrity parser_inserted) = refl
reported_where (check.Fetch group.Font there redirects nonce integrity parser_inserted) = refl
reported_where (check.Fetch group.Frame there redirects nonce integrity parser_inserted) = refl
reported_where (check.Fetch group.Img there redirects nonce integrity parser_inserted) = refl
reported_where (check.Fetch group.Manifest there redirects nonce integrity parser_inserted) = refl
reported_where (check.Fetch group.Media there redirects nonce integrity parser_inserted) = refl
reported_where (check.Fetch group.Object there redirects nonce integrity parser_inserted) = refl
reported_where (check.Fetch group.StyleElem there redirects nonce integrity parser_inserted) = refl
reported_where (check.Fetch group.ScriptElem there redirects nonce integrity parser_inserted) = refl
reported_where (check.Fetch group.Worker there redirects nonce integrity parser_inserted) = refl
reported_where (check.Inline kind.Script nonce digests) = refl
reported_where (check.Inline kind.ScriptAttribute nonce digests) = refl
reported_where (check.Inline kind.Style nonce digests) = refl
reported_where (check.Inline kind.StyleAttribute nonce digests) = refl
reported_where (check.Inline kind.Navigation nonce digests) = refl
reported_where check.Eval = refl
reported_where check.Wasm = refl
reported_where (check.Base there) = refl
reported_where (check.Form there redirects) = refl
reported_where (check.Ancestor there) = refl
reported_where check.OpaqueAncestor = refl
reported_where (check.Capability capability) = refl
reported_where check.WorkerStart = refl

makes_where : (policies : List Policy) (asked : Check) (item : Item) → IsItem policies asked item
    → makes_report item ≡ is_reported asked
makes_where policies asked item is =
    ap (λ name. not (is_sandbox name)) is.effective ∙ sym (reported_where asked)

-- Violations

violation_for : (list : PolicyList) (described : Described) (asked : Check) (item : Item)
    → IsItem list.policies asked item
    → (v : Violation) × (violation_at list.policies described asked item ≡ Some v) × IsOf list item v
violation_for list described asked item is = (
  violation_of described asked item is.policy,
  ap (option_map (violation_of described asked item)) is.at,
  record {
    disposition = refl;
    effective = refl;
    policy = ap (option_map policy_text) is.at;
  },
)

-- where the check is reported, each item has a violation
each_reported : (list : PolicyList) (described : Described) (asked : Check) (items : List Item)
    → Each (IsItem list.policies asked) items → is_reported asked ≡ true
    → AreOf list (filter makes_report items) (filter_map (violation_at list.policies described asked) items)
each_reported list described asked [] each is = tt
each_reported list described asked (item ∷ items) each is =
    let made = violation_for list described asked item each.0 in
    let passes : makes_report item ≡ true = makes_where list.policies asked item each.0 ∙ is in
    rw (passes, made.1) (made.2, each_reported list described asked items each.1 is)

-- and else none
none_reported : (policies : List Policy) (asked : Check) (items : List Item)
    → Each (IsItem policies asked) items → is_reported asked ≡ false → filter makes_report items ≡ []
none_reported policies asked [] each is = refl
none_reported policies asked (item ∷ items) each is =
    let fails : makes_report item ≡ false = makes_where policies asked item each.0 ∙ is in
    rw fails (none_reported policies asked items each.1 is)

of_check : (list : PolicyList) (described : Described) (asked : Check)
    → AreOf list (filter makes_report (items_of list asked)) (check_violations list described asked)
of_check list described asked =
    let items = items_of list asked in
    let found = filter_map (violation_at list.policies described asked) items in
    elim (is_reported asked) as (λ b. is_reported asked ≡ b
    → AreOf list (filter makes_report items) (cond b found [])) [
      | true ↦ λ is. each_reported list described asked items (each_item list asked) is
      | false ↦ λ is. rw (none_reported list.policies asked items (each_item list asked) is) tt
    ] refl

are_append : (list : PolicyList) (is js : List Item) (vs ws : List Violation) → AreOf list is vs → AreOf list js ws
    → AreOf list (is ++ js) (vs ++ ws)
are_append list [] js [] ws one two = two
are_append list [] js (v ∷ vs) ws one two = absurd one
are_append list (i ∷ is) js [] ws one two = absurd one
are_append list (i ∷ is) js (v ∷ vs) ws one two = (one.0, are_append list is js vs ws one.1 two)

of_checks : (list : PolicyList) (described : Described) (checks : List Check)
    → AreOf list (filter makes_report (flat_map (items_of list) checks))
    (flat_map (check_violations list described) checks)
of_checks list described [] = tt
of_checks list described (asked ∷ checks) =
    rw (filter-append makes_report (items_of list asked) (flat_map (items_of list) checks))
    (are_append list _ _ _ _ (of_check list described asked) (of_checks list described checks))

pub reported_items : (list : PolicyList) (described : Described)
    → AreOf list (filter makes_report (verdict_of list described.checks).items) (violations_of list described)
reported_items list described = of_checks list described (judged_checks list described.checks)
