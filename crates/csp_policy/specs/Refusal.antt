-- What a header block is read as: its policies, or what is refused in it.
use Rattle.std.specs.Prelude.{ℕ, nat_lt, if◌then◌else◌, List, length, Option, Some, None, Result, Ok, Err}
use Rattle.csp_model.specs.Policies.{first_bad, policies, token_count, longest_text, policy_limit, token_limit, text_limit}
use Rattle.csp_policy.specs.Types.{Policy, PolicyList, Origin, BlockError}
use Rattle.csp_policy.specs.declared.error.BlockError.TheVariants.{BadLine, TooManyPolicies, TooManySources, LongToken}

-- the first count of these policies that passes its limit
abbrev pub excess : List Policy → Option BlockError
excess ps =
    if nat_lt policy_limit (length ps) then Some TooManyPolicies
    else if nat_lt token_limit (token_count ps) then Some TooManySources
    else if nat_lt text_limit (longest_text ps) then Some LongToken
    else None

-- the line of this number is bad, or else this is what the policies have too much of
abbrev pub refusal_at : Option ℕ → List Policy → Option BlockError
refusal_at (Some line) ps = Some (BadLine line)
refusal_at None ps = excess ps

-- what is refused first of all in a block: the first bad line, counted from 1, and else the first count that
-- passes its limit
abbrev pub refusal_of : List ℕ → Origin → Option BlockError
refusal_of bytes origin = refusal_at (first_bad bytes) (policies bytes origin)

-- these policies, where nothing is refused
abbrev pub unless_refused : Option BlockError → List Policy → Result PolicyList BlockError
unless_refused None ps = Ok (record { policies = ps })
unless_refused (Some error) ps = Err error

-- what a block is read as: its policies, or else what is refused first of all
abbrev pub list_of : List ℕ → Origin → Result PolicyList BlockError
list_of bytes origin = unless_refused (refusal_of bytes origin) (policies bytes origin)
