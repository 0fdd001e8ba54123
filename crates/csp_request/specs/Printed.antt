-- How a check is printed: as a description with all its members, in the order of their names.
use Rattle.std.specs.Prelude.{◌≡◌, ℕ, Bool, List, [], ◌∷◌, ◌++◌, Option, Some, None, Ok, codes}
use Rattle.serde_json.specs.Data.{Data, null, boolean, number, unsigned, string, array, object, no_items, item, Members, no_members, member}
use Rattle.hex.specs.Hex.{encode_lower}
use Rattle.csp_model.specs.Ascii.{code}
use Rattle.csp_model.specs.Names.{capability_text}
use Rattle.csp_model.specs.Paths.{host_text, path_text}
use Rattle.csp_model.specs.Schemes.{scheme_text}
use Rattle.csp_model.specs.declared.check.Check.{Check}
use Rattle.csp_model.specs.declared.check.Check.TheVariants as check
use Rattle.csp_model.specs.declared.check.Digests.{Digests}
use Rattle.csp_model.specs.declared.check.Group.{Group}
use Rattle.csp_model.specs.declared.check.Group.TheVariants as group
use Rattle.csp_model.specs.declared.url.Url.{Url}
use Rattle.csp_model.specs.declared.url.Url.TheVariants as url
use Rattle.csp_model.specs.declared.verdict.Described.{Described}
use Rattle.csp_model.specs.Destinations.{destination_text}
use Rattle.csp_model.specs.declared.destination.Destination.{Destination}
use Rattle.csp_model.specs.declared.destination.Destination.TheVariants as destination
use Rattle.csp_token.specs.Integrity.{integrity_text}
use Rattle.csp_request.specs.Kinds.{kind_text, inline_text}
use Rattle.csp_request.specs.Requests.{requests_of}
use Rattle.csp_request.specs.declared.kind.DescriptionKind.{DescriptionKind}
use Rattle.csp_request.specs.declared.kind.DescriptionKind.TheVariants as kind

-- an object of these members, whose names stand in byte order
abbrev pub members : List (List ℕ × Data) → Members
members [] = no_members
members ((name, value) ∷ rest) = member name value (members rest)

abbrev pub object_of : List (List ℕ × Data) → Data
object_of named = object (members named)

abbrev pub port_data : Option ℕ → Data
port_data None = null
port_data (Some n) = number (unsigned n)

-- a URL in parts
abbrev pub url_data : Url → Data
url_data (url.Plain scheme) = object_of ((codes "scheme", string scheme) ∷ [])
url_data (url.Hosted scheme host port path) = object_of (
    (codes "host", string (host_text host))
    ∷ (codes "path", string (path_text path))
    ∷ (codes "port", port_data port)
    ∷ (codes "scheme", string (scheme_text scheme)) ∷ [])

abbrev pub digests_data : Digests → Data
digests_data digests = object_of (
    (codes "sha256", string (encode_lower digests.sha256))
    ∷ (codes "sha384", string (encode_lower digests.sha384))
    ∷ (codes "sha512", string (encode_lower digests.sha512)) ∷ [])

abbrev pub kind_member : DescriptionKind → (List ℕ × Data)
kind_member which = (codes "kind", string (kind_text which))

-- the destination that stands for a group in what is printed
abbrev pub destination_for : Group → Destination
destination_for group.Connect = destination.Empty
destination_for group.Font = destination.Font
destination_for group.Frame = destination.Frame
destination_for group.Img = destination.Image
destination_for group.Manifest = destination.Manifest
destination_for group.Media = destination.Video
destination_for group.Object = destination.Object
destination_for group.StyleElem = destination.Style
destination_for group.ScriptElem = destination.Script
destination_for group.Worker = destination.Worker

-- a fetch, whose URL and integrity metadata are written already
abbrev pub fetch_data : Group → Data → ℕ → List ℕ → List ℕ → Bool → Data
fetch_data group there redirects nonce integrity parser_inserted = object_of (
    (codes "destination", string (destination_text (destination_for group)))
    ∷ (codes "integrity", string integrity)
    ∷ kind_member kind.Fetch
    ∷ (codes "nonce", string nonce)
    ∷ (codes "parser-inserted", boolean parser_inserted)
    ∷ (codes "redirects", number (unsigned redirects))
    ∷ (codes "url", there) ∷ [])

abbrev pub printed : Check → Data
printed (check.Fetch group there redirects nonce integrity parser_inserted) =
    fetch_data group (url_data there) redirects nonce (integrity_text integrity) parser_inserted
printed (check.Inline which nonce digests) = object_of (
    (codes "digests", digests_data digests)
    ∷ kind_member kind.Inline
    ∷ (codes "nonce", string nonce)
    ∷ (codes "type", string (inline_text which)) ∷ [])
printed check.Eval = object_of (kind_member kind.Eval ∷ [])
printed check.Wasm = object_of (kind_member kind.Wasm ∷ [])
printed (check.Base there) = object_of (kind_member kind.Base ∷ (codes "url", url_data there) ∷ [])
printed (check.Form there redirects) = object_of (
    kind_member kind.Form
    ∷ (codes "redirects", number (unsigned redirects))
    ∷ (codes "url", url_data there) ∷ [])
printed (check.Ancestor there) = object_of (
    (codes "ancestors", array (item (url_data there) no_items)) ∷ kind_member kind.Ancestors ∷ [])
printed check.OpaqueAncestor = object_of (
    (codes "ancestors", array (item (string (codes "null")) no_items)) ∷ kind_member kind.Ancestors ∷ [])
printed (check.Capability which) = object_of (
    kind_member kind.Capability ∷ (codes "name", string (capability_text which)) ∷ [])
printed check.WorkerStart = object_of (kind_member kind.WorkerStart ∷ [])

-- an array of one item
abbrev pub in_array : List ℕ → List ℕ
in_array text = code "[" ∷ (text ++ code "]" ∷ [])

-- a request file of one request, which has this check alone
abbrev pub AsksFor : List ℕ → Check → Type 0
AsksFor bytes asked =
    (found : Described) × (requests_of bytes ≡ Ok (found ∷ [])) × (found.checks ≡ asked ∷ [])
