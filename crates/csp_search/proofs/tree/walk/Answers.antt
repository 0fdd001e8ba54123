use Rattle.std.proofs.Common.{rules, ◌≡◌, ◌∙◌, sym, subst, ◌<◌, ◌++◌, ◌∷◌, []}
use Rattle.csp_facts.specs.declared.atom.Atom.{Atom}
use Rattle.csp_branch.specs.Walks.{Position}
use Rattle.csp_proof.specs.declared.proof.Node.TheVariants.{Split}
use Rattle.csp_search.proofs.Going.{room_left}
use Rattle.csp_search.proofs.Narrowing.{atom_here}
use Rattle.csp_search.proofs.Walking.{Walks, less_closed, less_taken, walks_closed, walks_end, walks_split, walks_start, work_left}
use Rattle.csp_search.proofs.tree.walk.Goals as goal

pub loop-plan-init : goal.loop-plan-init
loop-plan-init c = walks_start c.args.asked.question c.args.walker.now c.new-nodes.result c.requires.root c.new-nodes.ensures

pub returns-then-not-next_branch-clause-found : goal.returns-then-not-next_branch-clause-found
returns-then-not-next_branch-clause-found c =
    let q = c.args.asked.question in
    let start = c.args.walker.now in
    let at = c.next_step.new.walker in
    let nodes = c.loop-plan.nodes in
    let walks = subst (λ (p : Position). Walks q start p nodes) (sym c.in_ok-leaf.ensures.walker) c.loop-plan.invariant in
    walks_end q start at nodes c.push.new.self walks c.in-Close.leaf (rw c.in-Close.is at c.in_ok-leaf.ensures.step) c.in_ok-push-in-Close.ensures.ok c.if-not-next_branch.ensures.branch

pub loop-plan-smaller-in-Close : goal.loop-plan-smaller-in-Close
loop-plan-smaller-in-Close c =
    let later = c.next_branch.new.self in
    subst (λ (p : Position). work_left later < work_left p) c.in_ok-leaf.ensures.walker
    (less_closed c.next_step.new.walker later c.if-not-next_branch.ensures.kept c.if-not-next_branch.ensures.branch)

pub loop-plan-preserved-in-Close : goal.loop-plan-preserved-in-Close
loop-plan-preserved-in-Close c =
    let q = c.args.asked.question in
    let start = c.args.walker.now in
    let at = c.next_step.new.walker in
    let nodes = c.loop-plan.nodes in
    let walks = subst (λ (p : Position). Walks q start p nodes) (sym c.in_ok-leaf.ensures.walker) c.loop-plan.invariant in
    walks_closed q start at nodes c.push.new.self walks c.in-Close.leaf (rw c.in-Close.is at c.in_ok-leaf.ensures.step) c.in_ok-push-in-Close.ensures.ok c.next_branch.new.self c.if-not-next_branch.ensures.kept c.if-not-next_branch.ensures.branch

pub take-requires-clause-room : goal.take-requires-clause-room
take-requires-clause-room c =
    let q = c.args.asked.question in
    let start = c.args.walker.now in
    let at = c.next_step.new.walker in
    let walks = subst (λ (p : Position). Walks q start p c.loop-plan.nodes) (sym c.in_ok-leaf.ensures.walker) c.loop-plan.invariant in
    room_left q start at walks.kept c.in-Split.name walks.keeps.each.0 (rw c.in-Split.is at c.in_ok-leaf.ensures.step) c.requires.room

pub loop-plan-smaller : goal.loop-plan-smaller
loop-plan-smaller c =
    let later = c.take.new.self in
    subst (λ (p : Position). work_left later < work_left p) c.in_ok-leaf.ensures.walker
    (less_taken c.args.asked.question c.next_step.new.walker later c.in-Split.name (rw c.in-Split.is at c.in_ok-leaf.ensures.step) c.take.ensures)

pub loop-plan-preserved : goal.loop-plan-preserved
loop-plan-preserved c =
    let q = c.args.asked.question in
    let start = c.args.walker.now in
    let at = c.next_step.new.walker in
    let nodes = c.loop-plan.nodes in
    let name = c.in-Split.name in
    let walks = subst (λ (p : Position). Walks q start p nodes) (sym c.in_ok-leaf.ensures.walker) c.loop-plan.invariant in
    let is_open = rw c.in-Split.is at c.in_ok-leaf.ensures.step in
    let same : c.names-names.result.now ≡ at.atoms = search rules in
    let here = atom_here at.atoms c.atoms.result.now name c.index-atoms-name.result (c.atoms.ensures.atoms ∙ same) is_open.is.there c.index-atoms-name.is in
    let pushed = subst (λ (a : Atom). c.push-in-Split.new.self ≡ nodes ++ Split a ∷ []) (sym (here ∙ sym c.in_ok-atom-in-Split.ensures)) c.in_ok-push-in-Split.ensures.ok in
    walks_split q start at nodes c.push-in-Split.new.self walks name c.take.new.self is_open c.take.ensures (rw same at c.atoms.ensures.order.valid) pushed
