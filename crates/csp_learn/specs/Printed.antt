-- A policy as a header line that reads back to it.
use Rattle.std.specs.Prelude.{◌≡◌, [], ◌∷◌, Ok}
use Rattle.csp_model.specs.declared.policy.Policy.{Policy}
use Rattle.csp_model.specs.declared.url.Origin.{Origin}
use Rattle.csp_policy.specs.HeaderLines.{header_line}
use Rattle.csp_policy.specs.Refusal.{list_of}

-- a header block of this policy's line alone is read as the list of this policy alone
abbrev pub ReadsBack : Origin → Policy → Type 0
ReadsBack origin policy = list_of (header_line policy) origin ≡ Ok (record { policies = policy ∷ [] })
