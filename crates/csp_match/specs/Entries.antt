-- What the entries of an index stand for, and when they fit.
use Rattle.std.specs.Prelude.{◌≡◌, ℕ, ◌&&◌, Bool, List, Option}
use Rattle.csp_model.specs.DecideMatching.{own_scheme_matches, path_matches, port_matches}
use Rattle.csp_model.specs.Paths.{front_pieces, front_text}
use Rattle.csp_model.specs.Schemes.{scheme_text}
use Rattle.csp_model.specs.declared.source.PortPart.{PortPart}
use Rattle.csp_match.specs.Keys.{host_of, IsHostKey, path_of, takes, IsPath, port_of, Parts}
use Rattle.csp_match.specs.declared.hosted_url.HostedUrl.{HostedUrl}
use Rattle.csp_match.specs.declared.host_key.HostKey.{HostKey}
use Rattle.csp_match.specs.declared.host_source.Target.{Target}
use Rattle.csp_match.specs.declared.host_source.SchemePort.{SchemePort}

abbrev pub scheme_of : SchemePort → Option (List ℕ)
scheme_of way = way.scheme.now

abbrev pub way_port : SchemePort → PortPart
way_port way = port_of way.port

-- a host-source's host and target
abbrev pub Entry : Type 0
Entry = HostKey × Target

-- the text of its path, which ends in "/", and the path's pieces
abbrev pub entry_text : Entry → List ℕ
entry_text e = e.1.text.now

abbrev pub entry_pieces : Entry → List (List ℕ)
entry_pieces e = front_pieces (entry_text e)

abbrev pub entry_parts : Entry → Parts
entry_parts e = record {
  scheme = scheme_of e.1.way;
  host = host_of e.0;
  port = way_port e.1.way;
  path = path_of e.1.kind (entry_pieces e);
}

abbrev pub IsEntry : Entry → Type 0
IsEntry e = IsHostKey e.0 × IsPath e.1.kind (entry_pieces e) × (entry_text e ≡ front_text (entry_pieces e))

-- a URL's scheme and port are those that are asked for
abbrev pub way_fits : Option (List ℕ) → PortPart → HostedUrl → Bool
way_fits scheme port asked =
    port_matches port asked.port asked.scheme
    && own_scheme_matches scheme asked.origin.now (scheme_text asked.scheme)

-- and its path is
abbrev pub target_fits : HostedUrl → Entry → Bool
target_fits asked e =
    way_fits (scheme_of e.1.way) (way_port e.1.way) asked
    && path_matches (path_of e.1.kind (entry_pieces e)) asked.path.now

-- of a path that begins with the entry's pieces, and has no others if it ends there
abbrev pub front_fits : HostedUrl → Bool → Target → Bool
front_fits asked ends target = takes target.kind ends && way_fits (scheme_of target.way) (way_port target.way) asked
