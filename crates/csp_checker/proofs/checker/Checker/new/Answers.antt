use Rattle.std.proofs.Common.{arith, ◌≡◌, ◌∙◌, sym, ap, subst, [], List, All}
use Rattle.std.specs.Prelude.{Contains}
use Rattle.csp_model.specs.declared.source.Hash.{Hash}
use Rattle.csp_facts.specs.Atoms.{IsValidAtom}
use Rattle.csp_branch.specs.Sorting.{referred}
use Rattle.csp_answer.specs.Tables.{AreAnswers}
use Rattle.csp_proof.specs.Accepts.{Lists}
use Rattle.csp_checker.specs.PreparedClaim.{Fits}
use Rattle.csp_branch.specs.Walks.{Position}
use Rattle.csp_checker.specs.declared.prepared_claim.PreparedClaim.{PreparedClaim}
use Rattle.csp_checker.proofs.Splits.{atoms_in, atoms_valid, trees_taken}
use Rattle.csp_checker.proofs.Tables.{kinds_alike}
use Rattle.csp_checker.proofs.checker.Checker.new.Goals as goal

pub answers_of-requires-clause-others : goal.answers_of-requires-clause-others
answers_of-requires-clause-others c =
    let proof = c.args.proof.now in
    let same : referred c.deref.result.now ≡ atoms_in proof.trees = ap referred c.deref.ensures.value ∙ c.in_ok-splits.ensures.atoms ∙ ap atoms_in c.as_slice-trees.ensures in
    subst (All IsValidAtom) (sym same) (atoms_valid proof.format [] proof.trees c.requires.formed.trees)

pub invariant_of-result : goal.invariant_of-result
invariant_of-result c =
    let first = c.args.first.now in
    let second = c.args.second.now in
    let trees = c.args.proof.now.trees in
    let names = c.in_ok-names.field-0.names in
    let table = c.in_ok-names.field-0.table in
    let lists : Lists = record { first = first; second = second } in
    let asked : PreparedClaim = record {
      first = c.args.first;
      second = c.args.second;
      proof = c.args.proof;
      table = table;
      pairs = c.in_ok-pairs_of.field-0;
      unmet = c.in_ok-unmet_of.field-0;
    } in
    let atoms : referred c.deref.result.now ≡ atoms_in trees = ap referred c.deref.ensures.value ∙ c.in_ok-splits.ensures.atoms ∙ ap atoms_in c.as_slice-trees.ensures in
    let by_first = subst (λ (hashes : List Hash). AreAnswers names hashes first.policies table.first) c.in_ok-vocabulary.ensures.hashes c.in_ok-names.ensures.first in
    let by_second = subst (λ (hashes : List Hash). AreAnswers names hashes second.policies table.second) c.in_ok-vocabulary.ensures.hashes c.in_ok-names.ensures.second in
    let walker : Position = record { atoms = names; literals = []; room = c.in_ok-splits.splits.most } in
    let fit : Fits asked walker = record {
      first = by_first;
      second = by_second;
      trees = trees_taken walker trees (subst (All (Contains names)) atoms c.in_ok-names.ensures.others) (rw c.as_slice-trees.ensures at c.in_ok-splits.ensures.most);
    } in (
      c.requires.first,
      c.requires.second,
      record {
        formed = c.requires.formed;
        lines = omega arith;
        alike = kinds_alike names lists table by_first by_second c.in_ok-names.ensures.kinds;
        pairs = c.in_ok-pairs_of.ensures;
        unmet = rw c.as_slice-trees.ensures at c.in_ok-unmet_of.ensures;
      },
      subst (Fits asked) (sym c.in_ok-walker.ensures) fit,
    )
