use Rattle.csp_formula.proofs.AtomsOfPolicies.{policy_within}
use Rattle.csp_formula.proofs.laws.the_atoms_of_a_formula_are_of_its_shape.Goals as goal

pub returns : goal.returns
returns c policy kind hashes readable has =
    policy_within c.each_token_has_one_source.ensures.read policy hashes readable has kind
