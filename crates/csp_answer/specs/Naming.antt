-- The atoms that the sources of policies speak of, and their names.
use Rattle.std.specs.Prelude.{◌≡◌, ℕ, not, ◌||◌, is_some, if◌then◌else◌, List, ◌∷◌, ◌++◌, map, Option, Some, None, IfSome, Contains, slice_get}
use Rattle.std.specs.List.{AllZip, flat_map}
use Rattle.std.specs.Option.{option_map, option_to_list}
use Rattle.csp_model.specs.Ascii.{is_nonempty}
use Rattle.csp_model.specs.DecideEquality.{same_keyword}
use Rattle.csp_model.specs.Schemes.{scheme_named, default_port}
use Rattle.csp_model.specs.Validity.{is_domain, is_four_numbers}
use Rattle.csp_model.specs.declared.policy.Directive.{Directive}
use Rattle.csp_model.specs.declared.policy.Policy.{Policy}
use Rattle.csp_model.specs.declared.source.Hash.{Hash}
use Rattle.csp_model.specs.declared.source.HostPart.{HostPart}
use Rattle.csp_model.specs.declared.source.HostPart.TheVariants as host_part
use Rattle.csp_model.specs.declared.source.Keyword.TheVariants as keyword
use Rattle.csp_model.specs.declared.source.PathPart.{PathPart}
use Rattle.csp_model.specs.declared.source.PathPart.TheVariants as path_part
use Rattle.csp_model.specs.declared.source.PortPart.TheVariants as port_part
use Rattle.csp_model.specs.declared.source.Source.{Source}
use Rattle.csp_model.specs.declared.source.Source.TheVariants as source
use Rattle.csp_model.specs.declared.url.Host.TheVariants.{Domain, Address}
use Rattle.csp_model.specs.declared.url.Origin.{Origin}
use Rattle.csp_model.specs.declared.url.Origin.TheVariants as origin
use Rattle.csp_model.specs.declared.url.Scheme.{Scheme}
use Rattle.csp_model.specs.declared.url.Scheme.TheVariants.{Http, Https, Ftp}
use Rattle.csp_facts.specs.declared.atom.Atom.{Atom}
use Rattle.csp_facts.specs.declared.atom.Atom.TheVariants.{HostIs, HostUnder, HostDomain, PortIs, PathIs, PathUnder, SchemeIs, NonceIs, IntegrityHas, IntegrityOutside, DigestIs}
use Rattle.csp_formula.specs.Compiled.{digest_of}
use Rattle.csp_formula.specs.Sources.{has_dots}
use Rattle.csp_answer.specs.declared.naming.NamedPolicy.{NamedPolicy}
use Rattle.csp_answer.specs.declared.naming.PairNames.{PairNames}
use Rattle.csp_answer.specs.declared.naming.SourceNames.{SourceNames}

-- Atoms of a source

abbrev pub suffix_atom : List ℕ → Option Atom
suffix_atom suffix = if is_domain suffix then Some (HostUnder suffix) else None

abbrev pub exact_atom : List ℕ → Option Atom
exact_atom text =
    if is_domain text then Some (HostIs (Domain text))
    else if is_four_numbers text then Some (HostIs (Address text))
    else None

abbrev pub host_atom : HostPart → Option Atom
host_atom host_part.Any = Some HostDomain
host_atom (host_part.Under suffix) = suffix_atom suffix
host_atom (host_part.Exact text) = exact_atom text

-- one of the five schemes isn't an atom: a shape tells it
abbrev pub scheme_atom : List ℕ → Option Atom
scheme_atom scheme = if is_some (scheme_named scheme) then None else Some (SchemeIs scheme)

abbrev pub own_atom : Origin → Option Atom
own_atom (origin.Tuple scheme host port) = Some (HostIs host)
own_atom origin.Opaque = None

-- paths that no URL has, and the front of no piece, which each has, aren't atoms
abbrev pub path_atom : PathPart → Option Atom
path_atom path_part.Absent = None
path_atom (path_part.Exact pieces) = if has_dots pieces then None else Some (PathIs pieces)
path_atom (path_part.Prefix pieces) =
    if has_dots pieces || not (is_nonempty pieces) then None else Some (PathUnder pieces)

-- the host, the scheme, the nonce or the pair
abbrev pub lead_atom : Origin → Source → Option Atom
lead_atom self source.Star = None
lead_atom self (source.SchemeOnly scheme) = scheme_atom scheme
lead_atom self (source.Hosted scheme host port path) = host_atom host
lead_atom self (source.Word word) = if same_keyword word keyword.SelfOrigin then own_atom self else None
lead_atom self (source.Nonce value) = Some (NonceIs value)
lead_atom self (source.Digest hash) = Some (IntegrityHas hash)
lead_atom self (source.Other token) = None

abbrev pub digest_atom : Source → Option Atom
digest_atom (source.Digest hash) = option_map DigestIs (digest_of hash)
digest_atom other = None

-- the path or the digest
abbrev pub rest_atom : Source → Option Atom
rest_atom (source.Hosted scheme host port path) = path_atom path
rest_atom other = digest_atom other

-- the port that it names
abbrev pub port_atom : Source → Option Atom
port_atom (source.Hosted scheme host (port_part.Number n) path) = Some (PortIs n)
port_atom other = None

abbrev pub source_atoms : Origin → Source → List Atom
source_atoms self s =
    option_to_list (port_atom s) ++ option_to_list (lead_atom self s) ++ option_to_list (rest_atom s)

-- Atoms of policies

abbrev pub own_port : Origin → Option Atom
own_port (origin.Tuple scheme host (Some n)) = Some (PortIs n)
own_port self = None

-- the ports that may be asked for though no source names them: ws has that of http, and wss that of https
abbrev pub port_atoms : Origin → List Atom
port_atoms self = PortIs (default_port Http) ∷ PortIs (default_port Https) ∷ PortIs (default_port Ftp)
    ∷ option_to_list (own_port self)

abbrev pub directive_atoms : Origin → Directive → List Atom
directive_atoms self d = flat_map (source_atoms self) d.sources

abbrev pub policy_atoms : Policy → List Atom
policy_atoms p = port_atoms p.origin ++ flat_map (directive_atoms p.origin) p.directives

-- the pairs of a vocabulary, and that there is another
abbrev pub pair_atoms : List Hash → List Atom
pair_atoms hashes = IntegrityOutside ∷ map (λ (h : Hash). IntegrityHas h) hashes

-- those of a vocabulary and of two lists of policies, and these others
abbrev pub all_atoms : List Hash → List Policy → List Policy → List Atom → List Atom
all_atoms hashes ours theirs others =
    pair_atoms hashes ++ flat_map policy_atoms ours ++ flat_map policy_atoms theirs ++ others

-- Names

-- the name is that of the atom, and there is one where there is an atom
abbrev pub IsNameOf : List Atom → Option Atom → Option ℕ → Type 0
IsNameOf atoms atom name = option_map (slice_get atoms) name ≡ option_map Some atom

-- these are the names of the given atoms, one after another
abbrev pub StandAt : List Atom → List ℕ → List Atom → Type 0
StandAt atoms names given = map (slice_get atoms) names ≡ map Some given

-- the port that a source asks for has a name
abbrev pub HasPort : List Atom → Source → Type 0
HasPort atoms s = IfSome (port_atom s) (Contains atoms)

abbrev pub HasOwnPort : List Atom → Origin → Type 0
HasOwnPort atoms self = IfSome (own_port self) (Contains atoms)

-- the names are those of the source of a policy of this origin
pub record IsSourceNamed (atoms : List Atom) (self : Origin) (s : Source) (names : SourceNames) : Type 0 where
  pub lead : IsNameOf atoms (lead_atom self s) names.lead
  pub rest : IsNameOf atoms (rest_atom s) names.rest
  pub port : HasPort atoms s

-- the ports that no source names but that may be asked for have names
pub record HasPorts (atoms : List Atom) (self : Origin) : Type 0 where
  pub own : HasOwnPort atoms self
  pub defaults : (scheme : Scheme) → Contains atoms (PortIs (default_port scheme))

-- the names are those of the directive's sources
abbrev pub IsDirectiveNamed : List Atom → Origin → Directive → List SourceNames → Type 0
IsDirectiveNamed atoms self d names = AllZip (IsSourceNamed atoms self) d.sources names

-- the names are those of the policy's directives
pub record IsNamed (atoms : List Atom) (named : NamedPolicy) : Type 0 where
  pub sources : AllZip (IsDirectiveNamed atoms named.policy.now.origin) named.policy.now.directives named.directives
  pub ports : HasPorts atoms named.policy.now.origin

-- the names of the vocabulary's pairs, in its order
pub record ArePairs (atoms : List Atom) (hashes : List Hash) (names : PairNames) : Type 0 where
  pub outside : slice_get atoms names.outside ≡ Some IntegrityOutside
  pub pairs : map (slice_get atoms) names.pairs.items ≡ map (λ (h : Hash). Some (IntegrityHas h)) hashes
