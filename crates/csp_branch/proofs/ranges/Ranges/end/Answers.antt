use Rattle.std.proofs.Common.{◌≡◌, ◌∙◌, ◌<◌, sym, subst, ℕ, List, length, get_or, arith}
use Rattle.std.proofs.lemmas.List.{get_or_default}
use Rattle.csp_facts.specs.declared.atom.Atom.{Atom}
use Rattle.csp_branch.specs.Numbers.{AreInOrder, AreEnds, IsEnd}
use Rattle.csp_branch.proofs.Forest.{range_is}
use Rattle.csp_branch.proofs.ranges.Ranges.end.Goals as goal

end_here : (atoms : List Atom) (ends : List ℕ) (name end : ℕ) → AreEnds atoms ends → name < length atoms → end ≡ get_or ends name end → IsEnd atoms name end
end_here atoms ends name end are h at =
    let long = are.long in
    subst (λ (n : ℕ). IsEnd atoms name n) (get_or_default ends name 0 end (omega arith) ∙ sym at) (are.each name (omega arith) h)

pub returns : goal.returns
returns c =
    let atoms = c.args.self.now in
    let order : AreInOrder atoms = subst (λ (l : List Atom). AreInOrder l) c.self.view_is c.self.invariant.0 in
    let ends : AreEnds atoms c.self.inside.ends.items = subst (λ (l : List Atom). AreEnds l c.self.inside.ends.items) c.self.view_is c.self.invariant.1 in
    let is = end_here atoms c.self.inside.ends.items c.args.name c.index.result.now ends c.requires c.index.ensures in
    record { inside = is.inside; range = λ k. range_is atoms order c.args.name c.index.result.now k c.requires is }
