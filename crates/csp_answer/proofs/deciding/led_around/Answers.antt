use Rattle.std.proofs.Common.{◌≡◌, ◌∙◌, sym, subst, true, List, Option, ℕ, Some, of_calls, rules}
use Rattle.csp_facts.specs.declared.atom.Atom.{Atom}
use Rattle.csp_branch.specs.Numbers.{IsOuterOr, around_in}
use Rattle.csp_answer.proofs.Walking.{IsWalk, walk_next, walk_true}
use Rattle.csp_answer.proofs.deciding.led_around.Goals as goal

pub returns-then-eq : goal.returns-then-eq
returns-then-eq c =
    let path = c.args.branch.now in
    let cs = c.args.conjunctions.now in
    let place = c.args.place in
    let walk = subst (λ (o : Option ℕ). IsWalk path cs place o c.loop-next.known) c.in-Some.is c.loop-next.invariant in
    let order = c.names-names.ensures.order in
    let looked = rw c.behind.ensures at c.led_by.ensures in
    let is : c.or-known.result ≡ Some true = search (rules, of_calls) in
    rw c.or-known.ensures
    (walk_true path cs place order c.in-Some.name c.loop-next.known c.led_by.result walk looked (λ name. around_in path.atoms name place ≡ true) (sym c.or-known.ensures ∙ is))

pub loop-next-preserved : goal.loop-next-preserved
loop-next-preserved c =
    let path = c.args.branch.now in
    let cs = c.args.conjunctions.now in
    let place = c.args.place in
    let walk = subst (λ (o : Option ℕ). IsWalk path cs place o c.loop-next.known) c.in-Some.is c.loop-next.invariant in
    let order = c.names-names.ensures.order in
    let outer = subst (λ (atoms : List Atom). IsOuterOr atoms c.in-Some.name c.outer-next.result) c.names-names.ensures.names c.outer-next.ensures in
    let looked = rw c.behind.ensures at c.led_by.ensures in
    rw c.or-known.ensures (walk_next path cs place order c.in-Some.name c.loop-next.known c.led_by.result walk looked c.outer-next.result outer)
