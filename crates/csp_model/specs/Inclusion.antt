-- When one list of policies is at least as strict as another (Content Security Policy: Embedded Enforcement,
-- section 3.3, as an inclusion of what is allowed).
use Rattle.std.specs.Prelude.{IsTrue}
use Rattle.csp_model.specs.Validity.{IsValidCheck}
use Rattle.csp_model.specs.Verdict.{list_allows}
use Rattle.csp_model.specs.Types.{Check, PolicyList}

-- every valid check that the first list allows the second allows
abbrev pub Subsumes : PolicyList → PolicyList → Type 0
Subsumes first second =
    (asked : Check) → IsValidCheck asked
    → IsTrue (list_allows first asked) → IsTrue (list_allows second asked)
