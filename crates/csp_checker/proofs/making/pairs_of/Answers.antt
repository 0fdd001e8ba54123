use Rattle.std.proofs.Common.{arith, ◌≡◌, ◌∙◌, sym, ap, ◌++◌, ℕ, List}
use Rattle.std.specs.List.{flat_map, range_with_len}
use Rattle.csp_proof.specs.Pairs.{enforced}
use Rattle.csp_checker.specs.declared.prepared_claim.NumberedPair.{NumberedPair}
use Rattle.csp_checker.proofs.PairsMade.{row, row_more, all_rows}
use Rattle.csp_checker.proofs.making.pairs_of.Goals as goal

pub loop-shape-preserved : goal.loop-shape-preserved
loop-shape-preserved c =
    let policies = enforced c.args.second.now in
    let shape = c.loop-shape.shape in
    c.in_ok-push_pairs.ensures
    ∙ ap (λ (ps : List NumberedPair). ps ++ row c.deref.result.now shape) c.loop-shape.invariant
    ∙ ap (λ (ns : List ℕ). flat_map (row policies) (range_with_len 0 shape) ++ row ns shape) (c.deref.ensures.value ∙ c.in_ok-enforced.ensures)
    ∙ sym (row_more policies shape)

pub returns : goal.returns
returns c =
    let all : c.loop-shape.shape ≡ 189 = omega arith in
    c.loop-shape.invariant ∙ ap (λ (n : ℕ). flat_map (row (enforced c.args.second.now)) (range_with_len 0 n)) all ∙ sym (all_rows c.args.second.now)
