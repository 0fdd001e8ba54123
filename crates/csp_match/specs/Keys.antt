-- What the keys of host-sources stand for.
use Rattle.std.specs.Prelude.{◌≡◌, ◌+◌, ◌*◌, ◌%◌, ◌^◌, ℕ, Bool, true, not, fold, List, [], length, Option, Some, None, ⊤}
use Rattle.csp_model.specs.declared.source.HostPart.{HostPart}
use Rattle.csp_model.specs.declared.source.PathPart.{PathPart}
use Rattle.csp_model.specs.declared.source.PortPart.{PortPart}
use Rattle.csp_model.specs.declared.source.Source.{Source}
use Rattle.csp_match.specs.declared.host_key.HostKey.{HostKey}
use Rattle.csp_match.specs.declared.path_key.PathKind.{PathKind}
use Rattle.csp_match.specs.declared.host_source.PortKey.{PortKey}

-- a step of Bernstein's hash, and the hash of a text
abbrev pub hash_step : ℕ → ℕ → ℕ
hash_step hash byte = (hash * 33 % 2 ^ 64 + byte) % 2 ^ 64

abbrev pub hash_of : List ℕ → ℕ
hash_of text = fold hash_step 5381 text

-- the host that a key stands for
abbrev pub host_of : HostKey → HostPart
host_of HostKey.Any = HostPart.Any
host_of (HostKey.Under length suffix) = HostPart.Under suffix.now
host_of (HostKey.Exact hash text) = HostPart.Exact text.now

-- a key's length is that of its suffix, and its hash that of its text
abbrev pub IsHostKey : HostKey → Type 0
IsHostKey HostKey.Any = ⊤
IsHostKey (HostKey.Under n suffix) = n ≡ length suffix.now
IsHostKey (HostKey.Exact hash text) = hash ≡ hash_of text.now

-- the length of a suffix, and 0 of other hosts
abbrev pub key_length : HostKey → ℕ
key_length HostKey.Any = 0
key_length (HostKey.Under n suffix) = n
key_length (HostKey.Exact hash text) = 0

abbrev pub kind_of : PathPart → PathKind
kind_of PathPart.Absent = PathKind.Absent
kind_of (PathPart.Exact pieces) = PathKind.Exact
kind_of (PathPart.Prefix pieces) = PathKind.Prefix

abbrev pub part_pieces : PathPart → List (List ℕ)
part_pieces PathPart.Absent = []
part_pieces (PathPart.Exact pieces) = pieces
part_pieces (PathPart.Prefix pieces) = pieces

-- a path of a kind matches a URL's that begins with its pieces, and has no others if that path ends there
abbrev pub takes : PathKind → Bool → Bool
takes PathKind.Absent ends = true
takes PathKind.Exact ends = ends
takes PathKind.Prefix ends = not ends

-- a path of a kind and its pieces
abbrev pub path_of : PathKind → List (List ℕ) → PathPart
path_of PathKind.Absent pieces = PathPart.Absent
path_of PathKind.Exact pieces = PathPart.Exact pieces
path_of PathKind.Prefix pieces = PathPart.Prefix pieces

abbrev pub IsPath : PathKind → List (List ℕ) → Type 0
IsPath PathKind.Absent pieces = pieces ≡ []
IsPath PathKind.Exact pieces = ⊤
IsPath PathKind.Prefix pieces = ⊤

abbrev pub port_key : PortPart → Option PortKey
port_key PortPart.Absent = Some PortKey.Absent
port_key PortPart.Any = Some PortKey.Any
port_key (PortPart.Number n) = Some (PortKey.Number n)
port_key PortPart.TooLarge = None

abbrev pub port_of : PortKey → PortPart
port_of PortKey.Absent = PortPart.Absent
port_of PortKey.Any = PortPart.Any
port_of (PortKey.Number n) = PortPart.Number n

-- the parts of a host-source
pub record Parts : Type 0 where
  pub scheme : Option (List ℕ)
  pub host : HostPart
  pub port : PortPart
  pub path : PathPart

-- the parts of a source that is a host-source, unless its port is none that a URL has
abbrev pub parts_of : Source → Option Parts
parts_of (Source.Hosted scheme host PortPart.Absent path) =
    Some (record { scheme = scheme; host = host; port = PortPart.Absent; path = path })
parts_of (Source.Hosted scheme host PortPart.Any path) =
    Some (record { scheme = scheme; host = host; port = PortPart.Any; path = path })
parts_of (Source.Hosted scheme host (PortPart.Number n) path) =
    Some (record { scheme = scheme; host = host; port = PortPart.Number n; path = path })
parts_of s = None
