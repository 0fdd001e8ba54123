-- Words of private contracts: checks that are tried on further lists.
use Rattle.std.specs.Prelude.{◌≡◌, [], ◌∷◌}
use Rattle.csp_model.specs.Validity.{IsValidCheck}
use Rattle.csp_model.specs.declared.check.Check.{Check}
use Rattle.csp_model.specs.declared.verdict.Described.{Described}

-- a request of one valid check
pub record IsTrial (request : Described) : Type 0 where
  pub asked : Check
  pub checks : request.checks ≡ asked ∷ []
  pub valid : IsValidCheck asked
