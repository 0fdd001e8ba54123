use Rattle.std.proofs.Common.{subst, List}
use Rattle.csp_order.specs.Chains.{LeadsThrough}
use Rattle.csp_order.specs.Relations.{IsThrough, Known}
use Rattle.csp_order.specs.declared.pair.Pair.{Pair}
use Rattle.csp_order.proofs.ReasonsGiven.{chain_includes}
use Rattle.csp_order.proofs.known.Known.reason.Goals as goal

pub returns-in-Some-clause-reason : goal.returns-in-Some-clause-reason
returns-in-Some-clause-reason c =
    let leads : LeadsThrough c.self.inside.proved.items c.args.pair c.in-Some.lists =
    subst (λ (ps : List Pair). LeadsThrough ps c.args.pair c.in-Some.lists) c.as_slice.ensures.value
    (rw c.in-Some.is at c.in_ok-lists.ensures) in
    subst (λ (known : Known). IsThrough known.lists known.proved c.args.pair c.in-Some.lists) c.self.view_is
    (record {
      includes = chain_includes c.self.inside.lists.now c.self.inside.proved.items c.args.pair c.in-Some.lists
          c.self.invariant.1.included leads;
      leads = leads;
    })
