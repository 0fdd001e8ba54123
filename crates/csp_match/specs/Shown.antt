-- A directive that governs, as the definitions have it.
use Rattle.csp_model.specs.Governing.{Governor}
use Rattle.csp_match.specs.declared.governs.Governor.{Governor as Found}

abbrev pub shown : Found → Governor
shown g = record { name = g.name; directive = g.directive.now }
