use Rattle.std.proofs.Common.{◌∙◌, sym, ap, subst, List, ℕ, cond}
use Rattle.std.specs.List.{Contains}
use Rattle.std.specs.Prelude.{is_some, Option, Some}
use Rattle.std.specs.BTreeMap.{BTreeMap, get}
use Rattle.std.specs.Ordering.{nat_cmp, is_eq}
use Rattle.std.specs.Global.{Vec}
use Rattle.std.proofs.lemmas.List.Elements.{Contains-append_left}
use Rattle.csp_compare.specs.Drafts.{listed}
use Rattle.csp_compare.proofs.Sharing.{keeps_update, none_listed}
use Rattle.csp_compare.proofs.numbers.note.Goals as goal

pub returns-in_err-push-clause-kept : goal.returns-in_err-push-clause-kept
returns-in_err-push-clause-kept c =
    let value = c.in-Some.ensures.value in
    let updates = (c.get_mut.follows.holds c.push.new.self).3 (ap is_some (sym value)) in
    keeps_update c.args.by_count.now (c.get_mut.follows.lender c.push.new.self) c.args.count c.push.new.self updates.0
    (λ n has. subst (λ (ns : List ℕ). Contains ns n) (sym c.in_err-push.ensures.items) (subst (λ (o : Option (Vec ℕ)). Contains (listed o) n) (sym value) has))

pub returns-in-Some-clause-kept : goal.returns-in-Some-clause-kept
returns-in-Some-clause-kept c =
    let value = c.in-Some.ensures.value in
    let updates = (c.get_mut.follows.holds c.push.new.self).3 (ap is_some (sym value)) in
    keeps_update c.args.by_count.now (c.get_mut.follows.lender c.push.new.self) c.args.count c.push.new.self updates.0
    (λ n has. subst (λ (ns : List ℕ). Contains ns n) (sym c.in_ok-push.ensures.items)
    (Contains-append_left c.in-Some.numbers.now.items _ n (subst (λ (o : Option (Vec ℕ)). Contains (listed o) n) (sym value) has)))

pub returns-clause-kept : goal.returns-clause-kept
returns-clause-kept c =
    keeps_update c.args.by_count.now c.insert.new.self c.args.count c.in_ok-vec.field-0
    (λ q. c.in_ok-insert.ensures.updates.0 q ∙ ap (λ (m : BTreeMap ℕ (Vec ℕ)). cond (is_eq (nat_cmp c.args.count q)) (Some c.in_ok-vec.field-0) (get nat_cmp m q)) c.get_mut.follows.holds-at-none)
    (λ n has. absurd (none_listed (get nat_cmp c.args.by_count.now c.args.count) n c.in_default.ensures.value has))
