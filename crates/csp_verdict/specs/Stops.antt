-- A word of private contracts: where the items of a check end early.
use Rattle.std.specs.Prelude.{Bool, true, false}
use Rattle.csp_model.specs.declared.check.Check.{Check}
use Rattle.csp_model.specs.declared.check.Check.TheVariants.{Base}

-- a check of a base URL, whose items end with the first enforced one
abbrev pub stops : Check → Bool
stops (Base there) = true
stops asked = false
