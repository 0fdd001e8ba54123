use Rattle.std.proofs.Common.{sym, subst, List, All, Contains}
use Rattle.std.specs.List.{flat_map}
use Rattle.csp_model.specs.declared.policy.Policy.{Policy}
use Rattle.csp_model.specs.declared.source.Hash.{Hash}
use Rattle.csp_branch.specs.Sorting.{referred}
use Rattle.csp_facts.specs.Atoms.{IsValidAtom}
use Rattle.csp_formula.specs.Belonging.{HasBase64Values}
use Rattle.csp_answer.specs.Naming.{pair_atoms, policy_atoms}
use Rattle.csp_answer.proofs.Hashes.{vocabulary_base64}
use Rattle.csp_answer.proofs.Named.{all_there}
use Rattle.csp_answer.proofs.ValidAtoms.{all_valid}
use Rattle.csp_answer.proofs.table.answers_of.Goals as goal

pub new-requires : goal.new-requires
new-requires c =
    let read = c.each_token_has_one_source.ensures.read in
    let first = c.args.first.now in
    let second = c.args.second.now in
    let hashes = subst HasBase64Values (sym c.requires.hashes) (vocabulary_base64 read first second c.requires.first c.requires.second) in
    subst (All IsValidAtom) (sym c.in_ok-atoms.ensures)
    (all_valid read c.args.vocabulary.now.hashes first.policies second.policies (referred c.args.others.now) hashes c.requires.first.each c.requires.second.each c.requires.others)

pub new-requires-2 : goal.new-requires-2
new-requires-2 c =
    let names = c.in_ok-names.names in
    let there = all_there names c.in_ok-atoms.atoms c.args.vocabulary.now.hashes c.args.first.now.policies c.args.second.now.policies (referred c.args.others.now) c.in_ok-atoms.ensures
    c.in_ok-names.ensures.each in
    subst (λ (hs : List Hash). All (Contains names) (pair_atoms hs)) (sym c.as_slice.ensures) there.pairs

pub answers_of_each-requires : goal.answers_of_each-requires
answers_of_each-requires c =
    let names = c.in_ok-names.names in
    let there = all_there names c.in_ok-atoms.atoms c.args.vocabulary.now.hashes c.args.first.now.policies c.args.second.now.policies (referred c.args.others.now) c.in_ok-atoms.ensures
    c.in_ok-names.ensures.each in
    subst (λ (ps : List Policy). All (Contains names) (flat_map policy_atoms ps)) (sym c.as_slice-2.ensures) there.first

pub answers_of_each-requires-2 : goal.answers_of_each-requires-2
answers_of_each-requires-2 c =
    let names = c.in_ok-names.names in
    let there = all_there names c.in_ok-atoms.atoms c.args.vocabulary.now.hashes c.args.first.now.policies c.args.second.now.policies (referred c.args.others.now) c.in_ok-atoms.ensures
    c.in_ok-names.ensures.each in
    subst (λ (ps : List Policy). All (Contains names) (flat_map policy_atoms ps)) (sym c.as_slice-3.ensures) there.second

pub returns-clause-others : goal.returns-clause-others
returns-clause-others c =
    let there = all_there c.in_ok-names.names c.in_ok-atoms.atoms c.args.vocabulary.now.hashes c.args.first.now.policies c.args.second.now.policies (referred c.args.others.now) c.in_ok-atoms.ensures
    c.in_ok-names.ensures.each in
    there.others
