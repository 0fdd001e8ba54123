use Rattle.std.proofs.Common.{◌≡◌, ◌∙◌, ◌∷◌, [], ap, sym, subst, arith, length, length-append, List, drop, ◌+◌, true, All}
use Rattle.std.specs.Prelude.{Contains}
use Rattle.std.proofs.lemmas.List.Elements.{All-head, All-tail}
use Rattle.csp_facts.specs.declared.atom.Atom.{Atom}
use Rattle.csp_branch.specs.Paths.{Path}
use Rattle.csp_checker.specs.Leaves.{AnswerAt, rule_by}
use Rattle.csp_branch.specs.Walks.{Position}
use Rattle.csp_checker.specs.Walk.{atoms_of}
use Rattle.csp_proof.specs.Accepts.{hashes_in}
use Rattle.csp_checker.specs.PreparedClaim.{lists_of}
use Rattle.csp_checker.proofs.Judged.{rule_here}
use Rattle.csp_checker.proofs.Steps.{walk_split, walk_leaf, walk_end, atoms_split, atoms_leaf}
use Rattle.csp_checker.proofs.Tables.{answers_there}
use Rattle.csp_checker.proofs.walk.walk.Goals as goal
use Rattle.csp_checker.proofs.walk.walk.Goals.{in-Split, in_default+else-not-keeps_rule+else-not-next_branch}

pub split-requires-clause-named : goal.split-requires-clause-named
split-requires-clause-named c =
    let nodes = c.args.nodes.now in
    let k = c.loop-place.place in
    let named = rw (atoms_split nodes k c.index-nodes-place.result c.in-Split.atom c.loop-place-test.true c.index-nodes-place.is c.in-Split.is) at c.loop-place.invariant.named in
    All-head (Contains c.loop-place.walker.atoms) c.in-Split.atom (atoms_of (drop (k + 1) nodes)) named

pub keeps_rule-requires : goal.keeps_rule-requires
keeps_rule-requires c =
    let asked = c.args.asked.now in
    let shape = c.args.tree.now.shape in
    let names = c.args.walker.now.atoms in
    let hashes = hashes_in (lists_of asked) in
    let fit = c.requires.fit in
    let same : names ≡ c.branch-walker.result.now.atoms =
    sym (ap (λ (p : Path). p.atoms) c.branch-walker.ensures ∙ ap (λ (w : Position). w.atoms) c.loop-place.invariant.kept) in
    record {
      first = subst (λ (as_many : List Atom). AnswerAt (length as_many) shape asked.table.first) same
          (answers_there names hashes asked.first.now.policies asked.table.first fit.first shape c.requires.shape);
      second = subst (λ (as_many : List Atom). AnswerAt (length as_many) shape asked.table.second) same
          (answers_there names hashes asked.second.now.policies asked.table.second fit.second shape c.requires.shape);
    }

pub returns-then-not-next_branch : goal.returns-then-not-next_branch
returns-then-not-next_branch c =
    let asked = c.args.asked.now in
    let tree = c.args.tree.now in
    let walker = c.loop-place.walker in
    let first = c.args.walker.now in
    let node = c.index-nodes-place.result in
    let keeps = rule_here asked tree node c.branch-walker.result.now walker first true c.branch-walker.ensures c.loop-place.invariant.kept c.if-not-keeps_rule.ensures in
    let end = walk_end (rule_by first.atoms asked tree) walker.literals c.args.nodes.now c.loop-place.place node c.loop-place-test.true c.index-nodes-place.is c.in_default.not-Split keeps c.if-not-next_branch.ensures.branch in
    record {
      bad = sym end ∙ c.loop-place.invariant.same;
      within = tt;
      kept = c.if-not-next_branch.ensures.kept ∙ c.loop-place.invariant.kept;
    }

pub loop-place-preserved : goal.loop-place-preserved
loop-place-preserved c =
    let asked = c.args.asked.now in
    let tree = c.args.tree.now in
    let walker = c.loop-place.walker in
    let first = c.args.walker.now in
    let nodes = c.args.nodes.now in
    let k = c.loop-place.place in
    let node = c.index-nodes-place.result in
    let inside = c.loop-place-test.true in
    let is = c.index-nodes-place.is in
    let rule = rule_by first.atoms asked tree in
    elim c.match-node.branch [
      | in-Split w ↦
          let atom = w.in-Split.atom in
          let step = walk_split rule walker.literals nodes k node atom inside is w.in-Split.is in
          let rest = rw (atoms_split nodes k node atom inside is w.in-Split.is) at c.loop-place.invariant in
          record {
            named = rw (w.walker-is, w.split.ensures) (All-tail (Contains walker.atoms) atom (atoms_of (drop (k + 1) nodes)) rest.named);
            room = rw (w.walker-is, w.split.ensures) (omega (arith, rest.room, length-append walker.literals (record { atom = atom; positive = true } ∷ [])));
            kept = rw (w.walker-is, w.split.ensures) c.loop-place.invariant.kept;
            same = rw (w.walker-is, w.split.ensures) (sym step ∙ c.loop-place.invariant.same);
          }
      | in_default+else-not-keeps_rule+else-not-next_branch w ↦
          let split = w.in_default.not-Split in
          let keeps = rule_here asked tree node w.branch-walker.result.now walker first true w.branch-walker.ensures c.loop-place.invariant.kept w.if-not-keeps_rule.ensures in
          let step = walk_leaf rule walker.literals nodes k node inside is split keeps in
          let rest = rw (atoms_leaf nodes k node inside is split) at c.loop-place.invariant in
          let next = w.if-not-next_branch.ensures in
          record {
            named = rw w.walker-is (subst (λ (names : List Atom). All (Contains names) (atoms_of (drop (k + 1) nodes))) (sym (ap (λ (p : Position). p.atoms) next.kept)) rest.named);
            room = rw w.walker-is (omega (arith, rest.room, next.shorter, ap (λ (p : Position). p.room) next.kept));
            kept = rw w.walker-is (next.kept ∙ c.loop-place.invariant.kept);
            same = rw (w.walker-is, next.branch) (sym step ∙ c.loop-place.invariant.same);
          }
    ]
