-- Why a policy allows or blocks a check.
use Rattle.std.specs.Prelude.{Bool, true, false, ◌&&◌, if◌then◌else◌, Option, Some, None, is_none}
use Rattle.csp_model.specs.DecideNavigation.{is_report}
use Rattle.csp_model.specs.Governing.{Governor, governor}
use Rattle.csp_model.specs.Reading.{first_of}
use Rattle.csp_model.specs.Verdict.{effective_name}
use Rattle.csp_model.specs.declared.check.Check.{Check}
use Rattle.csp_model.specs.declared.check.Check.TheVariants as check
use Rattle.csp_model.specs.declared.policy.Policy.{Policy}
use Rattle.csp_why.specs.Allowances.{allowances}
use Rattle.csp_why.specs.Displacement.{displacement}
use Rattle.csp_why.specs.Near.{near_of}
use Rattle.csp_why.specs.declared.reason.Allowance.{Allowance}
use Rattle.csp_why.specs.declared.reason.Reason.{Reason}
use Rattle.csp_why.specs.declared.reason.Reason.TheVariants.{Ungoverned, Allows, Blocks}
use Rattle.csp_why.specs.declared.reason.Obstacle.{Obstacle}

-- the check asks a sandbox
abbrev pub asks_sandbox : Check → Bool
asks_sandbox (check.Capability capability) = true
asks_sandbox check.WorkerStart = true
asks_sandbox asked = false

-- what governs the check; the sandbox of a policy that only reports does nothing
abbrev pub acting : Policy → Check → Option Governor
acting policy asked =
    if asks_sandbox asked && is_report policy.disposition then None
    else governor policy (effective_name asked)

-- why what governs blocks the check, or allows it by this
abbrev pub governed_reason : Policy → Check → Option Obstacle → Governor → Option Allowance → Reason
governed_reason policy asked displaced g (Some allowance) = Allows g.name allowance
governed_reason policy asked displaced g None =
    Blocks g.name (near_of policy.origin asked displaced g)

abbrev pub reason_of : Policy → Check → Option Obstacle → Governor → Reason
reason_of policy asked displaced g =
    governed_reason policy asked displaced g
    (first_of (allowances policy.origin asked (is_none displaced) g))

abbrev pub reason_by : Policy → Check → Option Governor → Reason
reason_by policy asked None = Ungoverned
reason_by policy asked (Some g) = reason_of policy asked (displacement asked g.name g.directive.sources) g

abbrev pub reason : Policy → Check → Reason
reason policy asked = reason_by policy asked (acting policy asked)

-- the policy allows the check for this reason
abbrev pub is_allowing : Reason → Bool
is_allowing Ungoverned = true
is_allowing (Allows directive allowance) = true
is_allowing (Blocks directive near) = false
