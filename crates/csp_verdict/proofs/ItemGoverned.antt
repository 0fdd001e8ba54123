-- The item of a check is found from what governs it.
use Rattle.std.proofs.Common.{◌≡◌, ℕ, Bool, true, false, cond, Option, Some, None, refl, sym, ap, ◌∙◌}
use Rattle.std.specs.Option.{option_map}
use Rattle.csp_model.specs.DecideVerdict.{allows}
use Rattle.csp_model.specs.DecideGoverning.{allows_by}
use Rattle.csp_model.specs.Governing.{Governor, governor}
use Rattle.csp_model.specs.Verdict.{effective_name, item_of}
use Rattle.csp_model.proofs.VerdictLaws.{item_by}
use Rattle.csp_model.specs.declared.check.Check.{Check}
use Rattle.csp_model.specs.declared.check.Check.TheVariants as check
use Rattle.csp_model.specs.declared.name.Name.{Name}
use Rattle.csp_model.specs.declared.policy.Disposition.{Disposition}
use Rattle.csp_model.specs.declared.policy.Policy.{Policy}
use Rattle.csp_model.specs.declared.verdict.Item.{Item}
use Rattle.csp_verdict.specs.Governed.{governed_allows}

pub no_item : (n : ℕ) (p : Policy) (asked : Check) → governor p (effective_name asked) ≡ None → item_of n p asked ≡ None
no_item n p asked none =
    ap (λ (o : Option Governor). cond (allows p asked) None (option_map (item_by n p asked) o)) none
    ∙ elim (allows p asked) as (λ b. ◌≡◌ {A = Option Item} (cond b None None) None) [ true ↦ refl | false ↦ refl ]

by_some : (o : Option Governor) (test : Governor → Bool) (g : Governor) → o ≡ Some g → allows_by o test ≡ test g
by_some o test g some = ap (λ (x : Option Governor). allows_by x test) some

-- where something governs, it decides
pub governed : (p : Policy) (asked : Check) (g : Governor) → governor p (effective_name asked) ≡ Some g
    → allows p asked ≡ governed_allows p asked g
governed p (check.Fetch group there redirects nonce integrity parser_inserted) g some = by_some _ _ g some
governed p (check.Inline kind nonce digests) g some = by_some _ _ g some
governed p check.Eval g some = by_some _ _ g some
governed p check.Wasm g some = by_some _ _ g some
governed p (check.Base there) g some = by_some _ _ g some
governed p (check.Form there redirects) g some = by_some _ _ g some
governed p (check.Ancestor there) g some = by_some _ _ g some
governed p check.OpaqueAncestor g some = by_some _ _ g some
governed p (check.Capability capability) g some = refl
governed p check.WorkerStart g some = refl

refused_item : (n : ℕ) (p : Policy) (asked : Check) (g : Governor) → governor p (effective_name asked) ≡ Some g
    → allows p asked ≡ false → item_of n p asked ≡ Some (item_by n p asked g)
refused_item n p asked g some refused =
    ap (λ (b : Bool). cond b None (option_map (item_by n p asked) (governor p (effective_name asked)))) refused
    ∙ ap (option_map (item_by n p asked)) some

abbrev made : ℕ → Disposition → Name → Name → Option Item
made n d effective governing = Some (record { policy = n; disposition = d; effective = effective; governing = governing })

-- what governs and doesn't allow the check is in the item
pub item_is : (n : ℕ) (p : Policy) (asked : Check) (g : Governor) (d : Disposition) (effective governing : Name)
    → d ≡ p.disposition → effective ≡ effective_name asked → governing ≡ g.name → Some g ≡ governor p effective
    → governed_allows p asked g ≡ false → made n d effective governing ≡ item_of n p asked
item_is n p asked g d effective governing same asks named found refused =
    let some : governor p (effective_name asked) ≡ Some g = ap (governor p) (sym asks) ∙ sym found in
    ap (λ (x : Disposition). made n x effective governing) same
    ∙ ap (λ (x : Name). made n p.disposition x governing) asks
    ∙ ap (λ (x : Name). made n p.disposition (effective_name asked) x) named
    ∙ sym (refused_item n p asked g some (governed p asked g some ∙ refused))
