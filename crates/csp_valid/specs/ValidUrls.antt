-- Requests whose URLs are valid.
use Rattle.std.specs.Prelude.{All, IfSome}
use Rattle.csp_model.specs.Parts.{checked_url}
use Rattle.csp_model.specs.Validity.{IsValidUrl}
use Rattle.csp_model.specs.declared.check.Check.{Check}
use Rattle.csp_model.specs.declared.verdict.Described.{Described}

-- the URL of a check, where it has one
abbrev pub HasValidUrl : Check → Type 0
HasValidUrl asked = IfSome (checked_url asked) IsValidUrl

-- the URL of each check of a request
abbrev pub HaveValidUrls : Described → Type 0
HaveValidUrls d = All HasValidUrl d.checks
