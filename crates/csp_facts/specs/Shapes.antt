-- The shapes of checks: which there are, which a check has, and which parts of their checks they look at.
use Rattle.std.specs.Prelude.{◌≡◌, Bool, true, false, not, ◌&&◌, ◌||◌, Option, Some, None, ⊤}
use Rattle.csp_model.specs.Fetch.{is_redirected}
use Rattle.csp_model.specs.declared.check.Check.{Check}
use Rattle.csp_model.specs.declared.check.Check.TheVariants as check
use Rattle.csp_model.specs.declared.check.CheckPart.{CheckPart}
use Rattle.csp_model.specs.declared.check.CheckPart.TheVariants.{Host, Port, Path, PlainScheme, Nonce, Integrity, Digest}
use Rattle.csp_model.specs.declared.check.Group.{Group}
use Rattle.csp_model.specs.declared.check.Group.TheVariants.{ScriptElem, Worker}
use Rattle.csp_model.specs.declared.url.Scheme.{Scheme}
use Rattle.csp_model.specs.declared.url.Url.{Url}
use Rattle.csp_model.specs.declared.url.Url.TheVariants as url
use Rattle.csp_facts.specs.declared.shape.Shape.{Shape}
use Rattle.csp_facts.specs.declared.shape.Shape.TheVariants as shape

-- the groups whose fetches are told apart by whether the parser inserted them ('strict-dynamic')
abbrev pub tells_parser : Group → Bool
tells_parser ScriptElem = true
tells_parser Worker = true
tells_parser group = false

-- one of the shapes
abbrev pub is_shape : Shape → Bool
is_shape (shape.Fetch group scheme redirected parser_inserted) = not parser_inserted || tells_parser group
is_shape other = true

-- the scheme of a URL with a host; none of any other URL
abbrev pub hosted_scheme : Url → Option Scheme
hosted_scheme (url.Plain scheme) = None
hosted_scheme (url.Hosted scheme host port path) = Some scheme

-- the check has the shape
abbrev pub HasShape : Check → Shape → Type 0
HasShape (check.Fetch group there hops nonce integrity inserted) (shape.Fetch same scheme redirected parser) =
    (same ≡ group) × (scheme ≡ hosted_scheme there) × (redirected ≡ is_redirected hops)
    × (parser ≡ (tells_parser group && inserted))
HasShape (check.Form there redirects) (shape.Form scheme redirected) =
    (scheme ≡ hosted_scheme there) × (redirected ≡ is_redirected redirects)
HasShape (check.Base there) (shape.Base scheme) = scheme ≡ hosted_scheme there
HasShape (check.Ancestor there) (shape.Ancestor scheme) = scheme ≡ hosted_scheme there
HasShape check.OpaqueAncestor shape.OpaqueAncestor = ⊤
HasShape (check.Inline kind nonce digests) (shape.Inline same) = same ≡ kind
HasShape check.Eval shape.Eval = ⊤
HasShape check.Wasm shape.Wasm = ⊤
HasShape (check.Capability capability) (shape.Capability same) = same ≡ capability
HasShape check.WorkerStart shape.WorkerStart = ⊤
HasShape asked other = ⊥

-- the part is one of a URL of this scheme that is looked at
abbrev pub is_url_part : Option Scheme → CheckPart → Bool
is_url_part (Some scheme) Host = true
is_url_part (Some scheme) Port = true
is_url_part (Some scheme) Path = true
is_url_part None PlainScheme = true
is_url_part scheme other = false

-- paths are compared: not after a redirect, and an ancestor is known by its origin alone
abbrev pub compares_paths : Shape → Bool
compares_paths (shape.Fetch group scheme redirected parser_inserted) = not redirected
compares_paths (shape.Form scheme redirected) = not redirected
compares_paths (shape.Base scheme) = true
compares_paths other = false

abbrev pub is_path : CheckPart → Bool
is_path Path = true
is_path other = false

-- the part is one that checks of the shape have
abbrev pub checks_have : Shape → CheckPart → Bool
checks_have (shape.Fetch group scheme redirected parser_inserted) Nonce = true
checks_have (shape.Fetch group scheme redirected parser_inserted) Integrity = true
checks_have (shape.Fetch group scheme redirected parser_inserted) part = is_url_part scheme part
checks_have (shape.Form scheme redirected) part = is_url_part scheme part
checks_have (shape.Base scheme) part = is_url_part scheme part
checks_have (shape.Ancestor scheme) part = is_url_part scheme part
checks_have (shape.Inline kind) Nonce = true
checks_have (shape.Inline kind) (Digest algorithm) = true
checks_have other _ = false

-- the shape looks at the part: no answer on its checks depends on another
abbrev pub looks_at : Shape → CheckPart → Bool
looks_at kind part = checks_have kind part && (not (is_path part) || compares_paths kind)
