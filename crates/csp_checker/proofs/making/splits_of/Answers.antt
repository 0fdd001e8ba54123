use Rattle.std.proofs.Common.{arith, ◌∙◌, ◌≤◌, ap, length, length-append, take, subst}
use Rattle.std.proofs.lemmas.List.{length-map, take_all}
use Rattle.std.proofs.lemmas.List.Elements.{All-more, All-weaker}
use Rattle.std.specs.Borrow.{Bor}
use Rattle.csp_facts.specs.declared.atom.Atom.{Atom}
use Rattle.csp_branch.specs.Sorting.{referred}
use Rattle.csp_proof.specs.declared.proof.Tree.{Tree}
use Rattle.csp_checker.specs.Walk.{atoms_below}
use Rattle.csp_checker.proofs.Splits.{one_more}
use Rattle.csp_checker.proofs.making.splits_of.Goals as goal

pub loop-tree-preserved : goal.loop-tree-preserved
loop-tree-preserved c =
    let most = c.greater-most.result in
    let trees = c.args.trees.now in
    let old = c.loop-tree.atoms.items in
    let new = c.push_below.new.atoms.items in
    let tree = c.tree-item.result in
    let grown = ap length c.in_ok-push_below.ensures ∙ length-append (referred old) (atoms_below tree.body) in
    let here : length (atoms_below tree.body) ≤ most =
    omega (arith, grown, length-map old (λ (atom : Bor Atom). atom.now), length-map new (λ (atom : Bor Atom). atom.now), c.loop-tree.atoms.ok.0, c.push_below.new.atoms.ok.0, c.len.ensures, c.len-before.ensures, c.greater-most.ensures.second) in
    let so_far = All-weaker (λ (t : Tree). length (atoms_below t.body) ≤ c.loop-tree.most) (λ (t : Tree). length (atoms_below t.body) ≤ most)
    (λ t h. omega (arith, h, c.greater-most.ensures.first)) (take c.loop-tree.tree-index trees) c.loop-tree.invariant.most in
    record {
      atoms = one_more trees c.loop-tree.tree-index tree (referred old) (referred new) c.loop-tree-test.true c.tree-item.is c.in_ok-push_below.ensures c.loop-tree.invariant.atoms;
      most = All-more (λ (t : Tree). length (atoms_below t.body) ≤ most) trees c.loop-tree.tree-index tree c.loop-tree-test.true so_far
          (subst (λ (t : Tree). length (atoms_below t.body) ≤ most) c.tree-item.is here);
    }

pub returns-clause-most : goal.returns-clause-most
returns-clause-most c = λ k d inside.
    let past : length c.args.trees.now ≤ c.loop-tree.tree-index = omega arith in
    let all = rw take_all at c.loop-tree.invariant.most in
    all k d inside
