-- Request files, and files of one check.
use Rattle.std.specs.Prelude.{ℕ, ◌+◌, nat_lt, List, [], ◌∷◌, length, Option, Some, None, Result, Ok, Err, if◌then◌else◌}
use Rattle.json.specs.Token.{Token}
use Rattle.serde_json.specs.Data.{Data}
use Rattle.csp_json.specs.Arrays.{array_in, items_left}
use Rattle.csp_json.specs.Json.{json_of}
use Rattle.csp_json.specs.declared.error.JsonError.{JsonError}
use Rattle.csp_json.specs.declared.error.JsonError.TheVariants as json
use Rattle.csp_model.specs.declared.check.Check.{Check}
use Rattle.csp_model.specs.declared.check.Digests.{Digests}
use Rattle.csp_model.specs.declared.verdict.Described.{Described}
use Rattle.csp_token.specs.Digests.{digests_of}
use Rattle.csp_request.specs.Described.{described, described_with}
use Rattle.csp_request.specs.declared.error.DescriptionError.{DescriptionError}
use Rattle.csp_request.specs.declared.error.DescriptionError.TheVariants as description
use Rattle.csp_request.specs.declared.error.RequestError.{RequestError}
use Rattle.csp_request.specs.declared.error.RequestError.TheVariants as request
use Rattle.csp_request.specs.declared.error.CheckError.{CheckError}
use Rattle.csp_request.specs.declared.error.CheckError.TheVariants as one

-- the requests that a file may have
abbrev pub request_limit : ℕ
request_limit = 10000

-- the items of an array that may have so many
abbrev pub at_most : ℕ → Option (List Data) → Result (List Data) RequestError
at_most limit None = Err request.NotJson
at_most limit (Some values) = if nat_lt limit (length values) then Err request.TooManyRequests else Ok values

-- the descriptions of a request file: the items of its array
abbrev pub requests_in : List ℕ → Result (List Data) RequestError
requests_in bytes = at_most request_limit (array_in bytes)

-- what is left of a request file: tokens, which hold at most so many descriptions
pub record Rest : Type 0 where
  pub tokens : List Token
  pub limit : ℕ

-- the descriptions that are still to come, or the file's refusal
abbrev pub still : Rest → Result (List Data) RequestError
still rest = at_most rest.limit (items_left rest.tokens)

-- a file is refused for a description only where nothing else is wrong with it
abbrev pub refused_after : RequestError → Result (List Data) RequestError → RequestError
refused_after error (Ok values) = error
refused_after error (Err e) = e

-- the refusal of a file that isn't JSON
abbrev pub of_json : JsonError → RequestError
of_json json.NotJson = request.NotJson
of_json json.Memory = request.Memory

-- the refusal of the description of this number
abbrev pub refused_at : ℕ → DescriptionError → RequestError
refused_at index (description.Misused field) = request.BadRequest index field
refused_at index description.TooManyHops = request.TooManyHops index
refused_at index description.Memory = request.Memory

abbrev pub before_others : Described → Result (List Described) RequestError
    → Result (List Described) RequestError
before_others first (Ok others) = Ok (first ∷ others)
before_others first (Err e) = Err e

abbrev pub first_before : ℕ → Result Described DescriptionError → Result (List Described) RequestError
    → Result (List Described) RequestError
first_before index (Ok first) others = before_others first others
first_before index (Err e) others = Err (refused_at index e)

-- what descriptions stand for, of which the first has this number, or the first refusal
abbrev pub described_from : (List ℕ → Digests) → ℕ → List Data → Result (List Described) RequestError
described_from hashed index [] = Ok []
described_from hashed index (value ∷ values) =
    first_before index (described_with hashed value) (described_from hashed (index + 1) values)

-- the same of the descriptions of a file, where it has no fault of its own
abbrev pub each_from : (List ℕ → Digests) → ℕ → Result (List Data) RequestError
    → Result (List Described) RequestError
each_from hashed index (Ok values) = described_from hashed index values
each_from hashed index (Err e) = Err e

-- the requests of a request file, or its first fault
abbrev pub requests_of : List ℕ → Result (List Described) RequestError
requests_of bytes = each_from digests_of 1 (requests_in bytes)

-- the one check of a description
abbrev pub only_check : List Check → Result Check CheckError
only_check (asked ∷ []) = Ok asked
only_check checks = Err one.NotOneCheck

abbrev pub one_check : Result Described DescriptionError → Result Check CheckError
one_check (Ok found) = only_check found.checks
one_check (Err (description.Misused field)) = Err (one.BadCheck field)
one_check (Err description.TooManyHops) = Err one.TooManyHops
one_check (Err description.Memory) = Err one.Memory

abbrev pub check_in : Option Data → Result Check CheckError
check_in None = Err one.NotJson
check_in (Some value) = one_check (described value)

-- the check that a file of one description asks for, or why there is none
abbrev pub check_of : List ℕ → Result Check CheckError
check_of bytes = check_in (json_of bytes)
