use Rattle.std.proofs.Common.{rules, ◌≡◌, ◌∙◌, subst, List}
use Rattle.std.proofs.lemmas.Fn.{dedup_same}
use Rattle.std.specs.List.{dedup}
use Rattle.std.specs.List.Sorted.{IsPermutation}
use Rattle.std.specs.Ordering.{eq_by_cmp}
use Rattle.csp_facts.specs.declared.atom.Atom.{Atom}
use Rattle.csp_branch.specs.Order.{name_cmp}
use Rattle.csp_branch.proofs.SortedOnce.{each_there, in_order, none_new, rises}
use Rattle.csp_branch.proofs.sorting.sort_atoms.Goals as goal

moved : (c : goal.After-from_vec) → IsPermutation c.args.given c.sort_by.new.self.items
moved c = subst (λ (xs : List Atom). IsPermutation xs c.sort_by.new.self.items) c.into_vec-atoms.ensures c.in_ok-sort_by.ensures.permutation

once : (c : goal.After-from_vec) → c.from_vec.result ≡ dedup (eq_by_cmp name_cmp) c.sort_by.new.self.items
once c =
    c.from_vec.ensures
    ∙ dedup_same _ (eq_by_cmp name_cmp) _ (λ x y b f' x' y' k. search rules) c.sort_by.new.self.items c.dedup_by.new.self.items c.dedup_by.ensures.filtered

pub returns-clause-rises : goal.returns-clause-rises
returns-clause-rises c =
    rises c.args.given c.sort_by.new.self.items c.from_vec.result (moved c) (once c)
    (in_order c.sort_by.new.self.items c.in_ok-sort_by.ensures.sorted (λ a r q k. search rules))

pub returns-clause-each : goal.returns-clause-each
returns-clause-each c = each_there c.args.given c.sort_by.new.self.items c.from_vec.result (moved c) (once c)

pub returns-clause-only : goal.returns-clause-only
returns-clause-only c = none_new c.args.given c.sort_by.new.self.items c.from_vec.result (moved c) (once c)
