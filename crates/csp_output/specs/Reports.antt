-- The violations of the requests of a file.
use Rattle.std.specs.Prelude.{List, Result, Ok, Err}
use Rattle.std.specs.List.{flat_map}
use Rattle.csp_model.specs.Verdict.{violations_of}
use Rattle.csp_model.specs.declared.policy.PolicyList.{PolicyList}
use Rattle.csp_model.specs.declared.verdict.Described.{Described}
use Rattle.csp_model.specs.declared.verdict.Violation.{Violation}
use Rattle.csp_request.specs.declared.error.RequestError.{RequestError}

-- the violations of all requests, in order
abbrev pub all_violations : PolicyList → List Described → List Violation
all_violations list requests = flat_map (violations_of list) requests

-- those of the requests of a file, or what the file is refused for
abbrev pub violations_in : PolicyList → Result (List Described) RequestError
    → Result (List Violation) RequestError
violations_in list (Ok requests) = Ok (all_violations list requests)
violations_in list (Err refused) = Err refused
