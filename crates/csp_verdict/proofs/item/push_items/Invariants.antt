use Rattle.std.proofs.Common.{◌≡◌, ◌++◌, ◌||◌, not, map}
use Rattle.std.specs.List.{list_any}
use Rattle.csp_model.specs.Verdict.{items_of, is_enforced, list_allows}
use Rattle.csp_verdict.specs.Listed.{list_of}
use Rattle.csp_verdict.proofs.ItemsSoFar.{shown, items_at}
use Rattle.csp_verdict.proofs.item.push_items.Given as goal

-- with what the other policies give, what is there is the items of all
abbrev pub invariant-loop-number : goal.invariant-loop-number
invariant-loop-number g l =
    let ps = map g.P.Judge.seen l.policies in
    record {
      items : l.items ++ shown l.stops (items_at l.number ps l.check) ≡ l.initial.items ++ items_of (list_of ps) l.check;
      blocked : (l.blocked || list_any is_enforced (items_at l.number ps l.check)) ≡ not (list_allows (list_of ps) l.check);
    }
