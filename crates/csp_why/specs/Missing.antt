-- The URL whose source would allow a check, where its directive blocks it and no token of it comes near.
use Rattle.std.specs.Prelude.{ℕ, Bool, true, ◌||◌, if◌then◌else◌, List, Option, Some, None, is_some}
use Rattle.csp_model.specs.Ascii.{is_nonempty}
use Rattle.csp_model.specs.Governing.{Governor, governor}
use Rattle.csp_model.specs.Grammar.{is_name}
use Rattle.csp_model.specs.Parts.{checked_url}
use Rattle.csp_model.specs.Paths.{host_text}
use Rattle.csp_model.specs.Schemes.{scheme_text}
use Rattle.csp_model.specs.Verdict.{effective_name}
use Rattle.csp_model.specs.declared.check.Check.{Check}
use Rattle.csp_model.specs.declared.policy.Policy.{Policy}
use Rattle.csp_model.specs.declared.source.HostPart.TheVariants as host_part
use Rattle.csp_model.specs.declared.source.PathPart.TheVariants as path_part
use Rattle.csp_model.specs.declared.source.PortPart.{PortPart}
use Rattle.csp_model.specs.declared.source.PortPart.TheVariants as port_part
use Rattle.csp_model.specs.declared.source.Source.{Source}
use Rattle.csp_model.specs.declared.source.Source.TheVariants as source
use Rattle.csp_model.specs.declared.url.Url.{Url}
use Rattle.csp_model.specs.declared.url.Url.TheVariants as url
use Rattle.csp_why.specs.Displacement.{displacement}
use Rattle.csp_why.specs.declared.reason.Near.{Near}
use Rattle.csp_why.specs.declared.reason.Reason.{Reason}
use Rattle.csp_why.specs.declared.reason.Reason.TheVariants.{Blocks}
use Rattle.csp_why.specs.declared.reason.Obstacle.{Obstacle}

-- the port as a URL has it: where it names none, that of its scheme is meant
abbrev pub port_of : Option ℕ → PortPart
port_of None = port_part.Absent
port_of (Some port) = port_part.Number port

-- the source of a URL: its scheme, its very host and its port, or its scheme alone
abbrev pub source_of : Url → Source
source_of (url.Plain scheme) = source.SchemeOnly scheme
source_of (url.Hosted scheme host port path) =
    source.Hosted (Some (scheme_text scheme)) (host_part.Exact (host_text host)) (port_of port) path_part.Absent

-- a source can name the URL's host, where it has one: it is made of labels of letters, digits and "-"
abbrev pub can_be_named : Url → Bool
can_be_named (url.Plain scheme) = true
can_be_named (url.Hosted scheme host port path) = is_name (host_text host)

abbrev pub named_url : Option Url → Option Url
named_url None = None
named_url (Some there) = if can_be_named there then Some there else None

-- of a directive that blocks, where no token is near and nothing takes the place of sources
abbrev pub missing_from : Check → Option Obstacle → List Near → Option Url
missing_from asked displaced near =
    if is_nonempty near || is_some displaced then None else named_url (checked_url asked)

abbrev pub missing_by : Check → Reason → Option Governor → Option Url
missing_by asked (Blocks directive near) (Some g) =
    missing_from asked (displacement asked g.name g.directive.sources) near
missing_by asked why found = None

-- the URL of which the policy, by this reason, misses the source
abbrev pub missing_url : Policy → Check → Reason → Option Url
missing_url policy asked why = missing_by asked why (governor policy (effective_name asked))
