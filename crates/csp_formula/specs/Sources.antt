-- What a source expression says of the checks of a shape: which atoms make it match.
use Rattle.std.specs.Prelude.{ℕ, Bool, true, false, not, ◌||◌, ◌==◌, if◌then◌else◌, List, [], ◌∷◌, map, Option, Some, None, codes, is_some}
use Rattle.std.specs.List.{list_any}
use Rattle.std.specs.Str.{bytes_eq}
use Rattle.csp_model.specs.Ascii.{is_nonempty}
use Rattle.csp_model.specs.DecideEquality.{same_keyword}
use Rattle.csp_model.specs.DecideMatching.{is_network_scheme, scheme_matches, own_scheme_matches, self_scheme_matches}
use Rattle.csp_model.specs.Schemes.{scheme_text, scheme_named, default_port}
use Rattle.csp_model.specs.Validity.{is_domain, is_four_numbers}
use Rattle.csp_model.specs.declared.source.HostPart.{HostPart}
use Rattle.csp_model.specs.declared.source.HostPart.TheVariants as host_part
use Rattle.csp_model.specs.declared.source.Keyword.TheVariants as keyword
use Rattle.csp_model.specs.declared.source.PathPart.{PathPart}
use Rattle.csp_model.specs.declared.source.PathPart.TheVariants as path_part
use Rattle.csp_model.specs.declared.source.PortPart.{PortPart}
use Rattle.csp_model.specs.declared.source.PortPart.TheVariants as port_part
use Rattle.csp_model.specs.declared.source.Source.{Source}
use Rattle.csp_model.specs.declared.source.Source.TheVariants as source
use Rattle.csp_model.specs.declared.url.Host.TheVariants.{Domain, Address}
use Rattle.csp_model.specs.declared.url.Origin.{Origin}
use Rattle.csp_model.specs.declared.url.Origin.TheVariants as origin
use Rattle.csp_model.specs.declared.url.Scheme.{Scheme}
use Rattle.csp_facts.specs.declared.atom.Atom.{Atom}
use Rattle.csp_facts.specs.declared.atom.Atom.TheVariants.{HostIs, HostUnder, HostDomain, PortIs, PathIs, PathUnder, SchemeIs}
use Rattle.csp_facts.specs.declared.shape.Shape.{Shape}
use Rattle.csp_facts.specs.declared.shape.Shape.TheVariants as shape
use Rattle.csp_formula.specs.Sentences.{Sentence, Known, Fact, all_of, any_of}

-- Shapes

-- the scheme of the URLs of the shape's checks, if it is one of the five
abbrev pub shape_scheme : Shape → Option Scheme
shape_scheme (shape.Fetch group scheme redirected parser_inserted) = scheme
shape_scheme (shape.Form scheme redirected) = scheme
shape_scheme (shape.Base scheme) = scheme
shape_scheme (shape.Ancestor scheme) = scheme
shape_scheme other = None

-- a redirect led to these URLs
abbrev pub after_redirect : Shape → Bool
after_redirect (shape.Fetch group scheme redirected parser_inserted) = redirected
after_redirect (shape.Form scheme redirected) = redirected
after_redirect other = false

abbrev pub is_ancestor : Shape → Bool
is_ancestor (shape.Ancestor scheme) = true
is_ancestor other = false

-- The parts of a host-source

-- a host that no URL can have isn't an atom
abbrev pub suffix_sentence : List ℕ → Sentence
suffix_sentence suffix = if is_domain suffix then Fact (HostUnder suffix) else Known false

abbrev pub exact_sentence : List ℕ → Sentence
exact_sentence text =
    if is_domain text then Fact (HostIs (Domain text))
    else if is_four_numbers text then Fact (HostIs (Address text))
    else Known false

abbrev pub host_sentence : HostPart → Sentence
host_sentence host_part.Any = Fact HostDomain
host_sentence (host_part.Under suffix) = suffix_sentence suffix
host_sentence (host_part.Exact text) = exact_sentence text

abbrev pub port_sentence : PortPart → Scheme → Sentence
port_sentence port_part.Absent scheme = Fact (PortIs (default_port scheme))
port_sentence port_part.Any scheme = Known true
port_sentence (port_part.Number n) scheme = Fact (PortIs n)
port_sentence port_part.TooLarge scheme = Known false

abbrev pub is_dots : List ℕ → Bool
is_dots piece = bytes_eq piece (codes ".") || bytes_eq piece (codes "..")

-- "." or ".." is a piece, as of no URL
abbrev pub has_dots : List (List ℕ) → Bool
has_dots pieces = list_any is_dots pieces

abbrev pub path_fact : Bool → Bool → Atom → Sentence
path_fact always never atom = if always then Known true else if never then Known false else Fact atom

-- after a redirect paths are not looked at, and every path begins with no piece; an ancestor's path is "/"
abbrev pub path_sentence : PathPart → Shape → Sentence
path_sentence path_part.Absent kind = Known true
path_sentence (path_part.Exact pieces) kind =
    path_fact (after_redirect kind) (has_dots pieces || is_ancestor kind) (PathIs pieces)
path_sentence (path_part.Prefix pieces) kind =
    path_fact (after_redirect kind || not (is_nonempty pieces)) (has_dots pieces || is_ancestor kind)
    (PathUnder pieces)

-- Sources at the scheme of a shape, where none is every scheme but the five

abbrev pub star_sentence : Option Scheme → Sentence
star_sentence (Some scheme) = Known (is_network_scheme (scheme_text scheme))
star_sentence None = Known false

abbrev pub plain_scheme_sentence : List ℕ → Sentence
plain_scheme_sentence part = if is_some (scheme_named part) then Known false else Fact (SchemeIs part)

abbrev pub scheme_sentence : List ℕ → Option Scheme → Sentence
scheme_sentence part (Some scheme) = Known (scheme_matches part (scheme_text scheme))
scheme_sentence part None = plain_scheme_sentence part

abbrev pub host_source_sentence : Option (List ℕ) → HostPart → PortPart → PathPart → Origin → Shape
    → Option Scheme → Sentence
host_source_sentence scheme_part host_part port_part path_part self kind None = Known false
host_source_sentence scheme_part host_part port_part path_part self kind (Some scheme) =
    if own_scheme_matches scheme_part self (scheme_text scheme)
    then all_of (host_sentence host_part ∷ port_sentence port_part scheme ∷ path_sentence path_part kind ∷ [])
    else Known false

-- the port of an origin: a URL has it where both have none or the same
abbrev pub own_port_sentence : Option ℕ → Scheme → Sentence
own_port_sentence None scheme = Fact (PortIs (default_port scheme))
own_port_sentence (Some n) scheme = if n == default_port scheme then Known false else Fact (PortIs n)

abbrev pub self_sentence : Origin → Option Scheme → Sentence
self_sentence (origin.Tuple own host port) (Some scheme) =
    if self_scheme_matches own scheme
    then all_of (Fact (HostIs host) ∷ own_port_sentence port scheme ∷ [])
    else Known false
self_sentence self scheme = Known false

-- the source of a policy of this origin matches
abbrev pub source_sentence : Origin → Shape → Source → Sentence
source_sentence self kind source.Star = star_sentence (shape_scheme kind)
source_sentence self kind (source.SchemeOnly scheme) = scheme_sentence scheme (shape_scheme kind)
source_sentence self kind (source.Hosted scheme host port path) =
    host_source_sentence scheme host port path self kind (shape_scheme kind)
source_sentence self kind (source.Word word) =
    if same_keyword word keyword.SelfOrigin then self_sentence self (shape_scheme kind) else Known false
source_sentence self kind (source.Nonce value) = Known false
source_sentence self kind (source.Digest hash) = Known false
source_sentence self kind (source.Other token) = Known false

-- some source of the list does
abbrev pub list_sentence : Origin → Shape → List Source → Sentence
list_sentence self kind sources = any_of (map (source_sentence self kind) sources)
