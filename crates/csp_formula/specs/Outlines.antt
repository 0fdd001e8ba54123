-- What a source says of the checks of a shape once its texts are left out: an outline.
use Rattle.std.specs.Prelude.{Bool, true, false, ◌||◌, if◌then◌else◌, [], ◌∷◌}
use Rattle.csp_model.specs.declared.source.PathPart.{PathPart}
use Rattle.csp_model.specs.declared.source.PathPart.TheVariants as path_part
use Rattle.csp_model.specs.declared.source.Source.{Source}
use Rattle.csp_model.specs.declared.source.Source.TheVariants as source
use Rattle.csp_model.specs.declared.url.Origin.{Origin}
use Rattle.csp_model.specs.declared.url.Origin.TheVariants as origin
use Rattle.csp_facts.specs.declared.atom.Atom.TheVariants.{HostIs, PortIs, PathIs, PathUnder, SchemeIs}
use Rattle.csp_formula.specs.Sentences.{Sentence, Known, Fact, all_of}
use Rattle.csp_formula.specs.Sources.{host_sentence}
use Rattle.csp_formula.specs.declared.outline.Outline.{Outline}
use Rattle.csp_formula.specs.declared.outline.Outline.TheVariants as outline
use Rattle.csp_formula.specs.declared.outline.PathOutline.{PathOutline}
use Rattle.csp_formula.specs.declared.outline.PathOutline.TheVariants as path
use Rattle.csp_formula.specs.declared.outline.PortOutline.{PortOutline}
use Rattle.csp_formula.specs.declared.outline.PortOutline.TheVariants as port

abbrev pub port_said : PortOutline → Sentence
port_said (port.Constant b) = Known b
port_said (port.Is n) = Fact (PortIs n)

-- the path itself comes from the source
abbrev pub path_said : PathOutline → PathPart → Sentence
path_said (path.Constant b) part = Known b
path_said path.Itself path_part.Absent = Known true
path_said path.Itself (path_part.Exact pieces) = Fact (PathIs pieces)
path_said path.Itself (path_part.Prefix pieces) = Fact (PathUnder pieces)

-- the host and the path come from the source
abbrev pub host_source_said : PortOutline → PathOutline → Source → Sentence
host_source_said at by (source.Hosted scheme host own part) =
    all_of (host_sentence host ∷ port_said at ∷ path_said by part ∷ [])
host_source_said at by other = Known false

abbrev pub scheme_said : Source → Sentence
scheme_said (source.SchemeOnly part) = Fact (SchemeIs part)
scheme_said other = Known false

-- the host is the policy's own
abbrev pub own_said : PortOutline → Origin → Sentence
own_said at (origin.Tuple scheme host own) = all_of (Fact (HostIs host) ∷ port_said at ∷ [])
own_said at origin.Opaque = Known false

-- what the source of a policy of this origin says, by its outline
abbrev pub outlined : Outline → Origin → Source → Sentence
outlined (outline.Constant b) self s = Known b
outlined outline.Scheme self s = scheme_said s
outlined (outline.Hosted at by) self s = host_source_said at by s
outlined (outline.Own at) self s = own_said at self

-- pieces that are looked at: those of an ancestor, and those that no URL has, are never there
abbrev pub pieces_outline : Bool → Bool → PathOutline
pieces_outline has_dots is_ancestor = if has_dots || is_ancestor then path.Constant false else path.Itself
