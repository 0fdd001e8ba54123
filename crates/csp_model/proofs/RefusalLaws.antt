-- The items of a check speak of the policies that don't allow it, in order.
use Rattle.std.proofs.Common.{◌≡◌, ℕ, zero, suc, ◌+◌, true, false, cond, List, [], ◌∷◌, Option, Some, None, slice_get, refl, sym, ap, subst, ◌∙◌, arith, Any, All}
use Rattle.std.specs.List.{cons_option}
use Rattle.std.specs.Option.{option_map}
use Rattle.std.proofs.lemmas.Bool.{false≢true, cases_Bool}
use Rattle.std.proofs.lemmas.List.Elements.{All-nil, All-cons, All-head, All-tail}
use Rattle.std.proofs.Common.{inl, inr}
use Rattle.csp_model.specs.DecideVerdict.{allows}
use Rattle.csp_model.specs.Governing.{Governor, governor}
use Rattle.csp_model.specs.Laws.{IsRefusal}
use Rattle.csp_model.specs.Verdict.{Allows, effective_name, item_of, items_from, is_enforced, through_enforced, shown_items, items_of}
use Rattle.csp_model.proofs.AnyCases.{Any-here, Any-later}
use Rattle.csp_model.proofs.VerdictDecided.{allows_decides, ungoverned}
use Rattle.csp_model.proofs.VerdictLaws.{item_by}
use Rattle.csp_model.specs.Types.{Check, Policy, PolicyList, Item}

refuses : (p : Policy) (asked : Check) → (Allows p asked → ⊥) → allows p asked ≡ false
refuses p asked never = elim (cases_Bool (allows p asked)) [
  | inl is ↦ absurd (never ((allows_decides p asked).0 is))
  | inr is ↦ is
]

refused : (p : Policy) (asked : Check) → allows p asked ≡ false → Allows p asked → ⊥
refused p asked is allowed = false≢true (sym is ∙ (allows_decides p asked).1 allowed)

-- ---- a policy that doesn't allow the check has an item

item_there : (number : ℕ) (p : Policy) (asked : Check) → allows p asked ≡ false → (g : Governor) × (item_of number p asked ≡ Some (item_by number p asked g))
item_there number p asked refuses = by (governor p (effective_name asked)) refl where
  by : (o : Option Governor) → governor p (effective_name asked) ≡ o → (g : Governor) × (item_of number p asked ≡ Some (item_by number p asked g))
  by None none = absurd (false≢true (sym refuses ∙ ungoverned p asked none))
  by (Some g) some = (g, rw (refuses, some) refl)

abbrev Speaks : ℕ → Item → Type 0
Speaks n item = item.policy ≡ n

first_speaks : (number : ℕ) (p : Policy) (asked : Check) (items : List Item) → allows p asked ≡ false → Any (Speaks number) (cons_option (item_of number p asked) items)
first_speaks number p asked items refuses =
    let (g, is) = item_there number p asked refuses in
    subst (λ (o : Option Item). Any (Speaks number) (cons_option o items)) (sym is) (Any-here (Speaks number) (item_by number p asked g) items refl)

later_speaks : (n : ℕ) (o : Option Item) (items : List Item) → Any (Speaks n) items → Any (Speaks n) (cons_option o items)
later_speaks n None items some = some
later_speaks n (Some item) items some = Any-later (Speaks n) item items some

speaks_from : (number : ℕ) (ps : List Policy) (asked : Check) (n : ℕ) (p : Policy) → slice_get ps n ≡ Some p → allows p asked ≡ false → Any (Speaks (number + n)) (items_from number ps asked)
speaks_from number [] asked n p is refuses = absurd (let e : None ≡ Some p = is in cc)
speaks_from number (q ∷ ps) asked zero p is refuses =
    let same : q ≡ p = cc in
    let e : number + zero ≡ number = omega arith in
    subst (λ m. Any (Speaks m) (items_from number (q ∷ ps) asked)) (sym e)
    (first_speaks number q asked (items_from (number + 1) ps asked) (ap (λ (r : Policy). allows r asked) same ∙ refuses))
speaks_from number (q ∷ ps) asked (suc n) p is refuses =
    let e : number + 1 + n ≡ number + suc n = omega arith in
    later_speaks (number + suc n) (item_of number q asked) (items_from (number + 1) ps asked)
    (subst (λ m. Any (Speaks m) (items_from (number + 1) ps asked)) e (speaks_from (number + 1) ps asked n p is refuses))

pub each_refusal_has_an_item : (list : PolicyList) (asked : Check) (n : ℕ) (p : Policy) → slice_get list.policies n ≡ Some p
    → ¬ Allows p asked → Any (λ (item : Item). item.policy ≡ n) (items_from 0 list.policies asked)
each_refusal_has_an_item list asked n p is never =
    let e : 0 + n ≡ n = omega arith in
    subst (λ m. Any (Speaks m) (items_from 0 list.policies asked)) e (speaks_from 0 list.policies asked n p is (refuses p asked never))

-- ---- and no other

abbrev Stand : ℕ → List Policy → List Policy → Type 0
Stand n rest all = (k : ℕ) (p : Policy) → slice_get rest k ≡ Some p → slice_get all (n + k) ≡ Some p

stand_later : (n : ℕ) (p : Policy) (rest all : List Policy) → Stand n (p ∷ rest) all → Stand (n + 1) rest all
stand_later n p rest all stand k q is =
    let e : n + 1 + k ≡ n + suc k = omega arith in
    rw e (stand (suc k) q is)

with_item : (list : PolicyList) (asked : Check) (n : ℕ) (p : Policy) (o : Option Governor) (items : List Item) → slice_get list.policies n ≡ Some p
    → allows p asked ≡ false → All (IsRefusal list asked) items → All (IsRefusal list asked) (cons_option (option_map (item_by n p asked) o) items)
with_item list asked n p None items is refuses others = others
with_item list asked n p (Some g) items is refuses others =
    All-cons (IsRefusal list asked) (item_by n p asked g) items (record { policy = p; at = is; refuses = refused p asked refuses; disposition = refl; effective = refl }) others

one_more : (list : PolicyList) (asked : Check) (n : ℕ) (p : Policy) (items : List Item) → slice_get list.policies n ≡ Some p
    → All (IsRefusal list asked) items → All (IsRefusal list asked) (cons_option (item_of n p asked) items)
one_more list asked n p items is others =
    elim (allows p asked) as (λ b. allows p asked ≡ b → All (IsRefusal list asked)
    (cons_option (cond b None (option_map (item_by n p asked) (governor p (effective_name asked)))) items)) [
      | true ↦ λ _. others
      | false ↦ λ refuses. with_item list asked n p (governor p (effective_name asked)) items is refuses others
    ] refl

refusals_from : (list : PolicyList) (asked : Check) (n : ℕ) (rest : List Policy) → Stand n rest list.policies → All (IsRefusal list asked) (items_from n rest asked)
refusals_from list asked n [] stand = All-nil (IsRefusal list asked)
refusals_from list asked n (p ∷ rest) stand =
    let e : n + 0 ≡ n = omega arith in
    let here : slice_get list.policies n ≡ Some p = subst (λ m. slice_get list.policies m ≡ Some p) e (stand 0 p refl) in
    one_more list asked n p (items_from (n + 1) rest asked) here (refusals_from list asked (n + 1) rest (stand_later n p rest list.policies stand))

through : (P : Item → Type 0) (items : List Item) → All P items → All P (through_enforced items)
through P [] all = all
through P (item ∷ items) all =
    elim (is_enforced item) as (λ b. All P (cond b (item ∷ []) (item ∷ through_enforced items))) [
      | true ↦ All-cons P item [] (All-head P item items all) (All-nil P)
      | false ↦ All-cons P item (through_enforced items) (All-head P item items all) (through P items (All-tail P item items all))
    ]

shown : (P : Item → Type 0) (asked : Check) (items : List Item) → All P items → All P (shown_items asked items)
shown P (Check.Base there) items all = through P items all
shown P asked items all = all

pub each_item_is_a_refusal : (list : PolicyList) (asked : Check) → All (IsRefusal list asked) (items_of list asked)
each_item_is_a_refusal list asked =
    shown (IsRefusal list asked) asked (items_from 0 list.policies asked)
    (refusals_from list asked 0 list.policies (λ k p is. let e : 0 + k ≡ k = omega arith in rw e is))
