-- A verdict is blocked exactly where the list doesn't allow the request.
use Rattle.std.proofs.Common.{◌≡◌, ℕ, ◌+◌, Bool, true, false, not, ◌&&◌, ◌||◌, cond, List, [], ◌∷◌, Option, Some, None, refl, sym, ap, ◌∙◌, arith}
use Rattle.std.specs.List.{list_any, list_all, flat_map, cons_option}
use Rattle.std.specs.Option.{option_map}
use Rattle.std.proofs.lemmas.Bool.{false≢true}
use Rattle.std.proofs.lemmas.Grind.{common_steps}
use Rattle.std.proofs.lemmas.List.Folds.{list_any-append}
use Rattle.csp_model.specs.Governing.{Governor, governor}
use Rattle.csp_model.specs.DecideVerdict.{allows}
use Rattle.csp_model.specs.Verdict.{list_allows, allows_all, effective_name, item_of, items_from, is_enforce, is_enforced, through_enforced, shown_items, items_of, judged_checks}
use Rattle.csp_model.proofs.VerdictDecided.{ungoverned}
use Rattle.csp_model.specs.Types.{Check, Policy, PolicyList, Item, Verdict}

-- the item of the policy of this number by what governs
abbrev pub item_by : ℕ → Policy → Check → Governor → Item
item_by n p asked g = record { policy = n; disposition = p.disposition; effective = effective_name asked; governing = g.name }

-- the verdict of these items
abbrev pub verdict_with : List Item → Verdict
verdict_with items = record { blocked = list_any is_enforced items; items = items }

-- where a policy doesn't allow a check, the item is there
refused_item : (n : ℕ) (p : Policy) (asked : Check) (o : Option Governor) → governor p (effective_name asked) ≡ o
    → allows p asked ≡ false → list_any is_enforced (cons_option (option_map (item_by n p asked) o) []) ≡ is_enforce p.disposition
refused_item n p asked None none refused = absurd (false≢true (sym refused ∙ ungoverned p asked none))
refused_item n p asked (Some g) some refused = elim (is_enforce p.disposition) as (λ b. (b || false) ≡ b) [ true ↦ refl | false ↦ refl ]

cons_any : (o : Option Item) (items : List Item)
    → list_any is_enforced (cons_option o items) ≡ (list_any is_enforced (cons_option o []) || list_any is_enforced items)
cons_any None items = refl
cons_any (Some item) items =
    elim (is_enforced item) as (λ b. (b || list_any is_enforced items) ≡ ((b || false) || list_any is_enforced items)) [
      | true ↦ refl
      | false ↦ refl
    ]

item_any : (n : ℕ) (p : Policy) (asked : Check)
    → list_any is_enforced (cons_option (item_of n p asked) []) ≡ not (not (is_enforce p.disposition) || allows p asked)
item_any n p asked =
    let given = option_map (item_by n p asked) (governor p (effective_name asked)) in
    elim (allows p asked) as (λ b. allows p asked ≡ b
    → list_any is_enforced (cons_option (cond b None given) []) ≡ not (not (is_enforce p.disposition) || b)) [
      | true ↦ λ _. elim (is_enforce p.disposition) as (λ e. false ≡ not (not e || true)) [ true ↦ refl | false ↦ refl ]
      | false ↦ λ refused. refused_item n p asked (governor p (effective_name asked)) refl refused
          ∙ elim (is_enforce p.disposition) as (λ e. e ≡ not (not e || false)) [ true ↦ refl | false ↦ refl ]
    ] refl

either : (x y a b : Bool) → x ≡ not a → y ≡ not b → (x || y) ≡ not (a && b)
either x y true b p q = ap (λ (z : Bool). z || y) p ∙ q
either x y false b p q = ap (λ (z : Bool). z || y) p

pub items_any : (n : ℕ) (ps : List Policy) (asked : Check)
    → list_any is_enforced (items_from n ps asked)
    ≡ not (list_all (λ (p : Policy). not (is_enforce p.disposition) || allows p asked) ps)
items_any n [] asked = refl
items_any n (p ∷ ps) asked =
    cons_any (item_of n p asked) (items_from (n + 1) ps asked)
    ∙ either (list_any is_enforced (cons_option (item_of n p asked) [])) (list_any is_enforced (items_from (n + 1) ps asked))
    (not (is_enforce p.disposition) || allows p asked)
    (list_all (λ (q : Policy). not (is_enforce q.disposition) || allows q asked) ps)
    (item_any n p asked) (items_any (n + 1) ps asked)

through_any : (items : List Item) → list_any is_enforced (through_enforced items) ≡ list_any is_enforced items
through_any [] = refl
through_any (item ∷ items) = grind (arith, common_steps, through_any items)

shown_any : (asked : Check) (items : List Item) → list_any is_enforced (shown_items asked items) ≡ list_any is_enforced items
shown_any (Check.Base there) items = through_any items
shown_any asked items = refl

-- a list blocks a check exactly where an item of the check is enforced
pub check_any : (list : PolicyList) (asked : Check) → list_any is_enforced (items_of list asked) ≡ not (list_allows list asked)
check_any list asked = shown_any asked (items_from 0 list.policies asked) ∙ items_any 0 list.policies asked

pub blocked_where_refused : (list : PolicyList) (checks : List Check)
    → list_any is_enforced (flat_map (items_of list) (judged_checks list checks)) ≡ not (allows_all list checks)
blocked_where_refused list [] = refl
blocked_where_refused list (asked ∷ rest) =
    let judged = λ (cs : List Check). list_any is_enforced (flat_map (items_of list) cs) in
    let later : judged (cond (list_allows list asked) (judged_checks list rest) [])
    ≡ cond (list_allows list asked) (not (allows_all list rest)) false =
    elim (list_allows list asked) as (λ b. judged (cond b (judged_checks list rest) []) ≡ cond b (not (allows_all list rest)) false) [
      | true ↦ blocked_where_refused list rest
      | false ↦ refl
    ] in
    list_any-append is_enforced (items_of list asked) (flat_map (items_of list) (cond (list_allows list asked) (judged_checks list rest) []))
    ∙ ap (λ (b : Bool). b || judged (cond (list_allows list asked) (judged_checks list rest) [])) (check_any list asked)
    ∙ ap (λ (b : Bool). not (list_allows list asked) || b) later
    ∙ elim (list_allows list asked) as (λ b. (not b || cond b (not (allows_all list rest)) false) ≡ not (b && allows_all list rest)) [
      | true ↦ refl
      | false ↦ refl
    ]
