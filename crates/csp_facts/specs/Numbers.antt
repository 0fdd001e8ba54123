-- The shapes in the order of their numbers, from 0 to 188, and the number of each: fetches by group, then forms,
-- bases, ancestors, inline code and style, and the rest. Within a kind with URLs each scheme has its place.
use Rattle.std.specs.Prelude.{ℕ, ◌+◌, ◌*◌, ◌&&◌, Bool, true, false, if◌then◌else◌, List, [], ◌∷◌, ◌++◌, map, Option, Some, None}
use denote.Enum.Declared.{tag_of}
use Rattle.std.specs.List.{flat_map}
use Rattle.csp_model.specs.Names.{inline_kinds, capabilities}
use Rattle.csp_model.specs.contracts.check.Capability.{the_type as capability}
use Rattle.csp_model.specs.contracts.check.Group.{the_type as fetched}
use Rattle.csp_model.specs.contracts.check.InlineKind.{the_type as inline}
use Rattle.csp_model.specs.contracts.url.Scheme.{the_type as hosted}
use Rattle.csp_model.specs.declared.check.Group.{Group}
use Rattle.csp_model.specs.declared.check.Group.TheVariants as group
use Rattle.csp_model.specs.declared.url.Scheme.{Scheme}
use Rattle.csp_model.specs.declared.url.Scheme.TheVariants.{Http, Https, Ws, Wss, Ftp}
use Rattle.csp_facts.specs.Shapes.{tells_parser}
use Rattle.csp_facts.specs.declared.shape.Shape.{Shape}
use Rattle.csp_facts.specs.declared.shape.Shape.TheVariants as shape

abbrev pub schemes : List (Option Scheme)
schemes = Some Http ∷ Some Https ∷ Some Ws ∷ Some Wss ∷ Some Ftp ∷ None ∷ []

-- for each scheme, not redirected and redirected
abbrev pub with_redirects : (Option Scheme → Bool → Shape) → List Shape
with_redirects of_url = flat_map (λ scheme. of_url scheme false ∷ of_url scheme true ∷ []) schemes

-- the groups of fetches, told apart by whether the parser inserted them where that counts
abbrev pub fetches : List (Group × Bool)
fetches =
    (group.Connect, false) ∷ (group.Font, false) ∷ (group.Frame, false) ∷ (group.Img, false)
    ∷ (group.Manifest, false) ∷ (group.Media, false) ∷ (group.Object, false) ∷ (group.StyleElem, false)
    ∷ (group.ScriptElem, false) ∷ (group.ScriptElem, true) ∷ (group.Worker, false) ∷ (group.Worker, true) ∷ []

abbrev pub fetch_shapes : List Shape
fetch_shapes =
    flat_map (λ row. with_redirects (λ scheme redirected. shape.Fetch row.0 scheme redirected row.1)) fetches

-- the shapes in the order of their numbers
abbrev pub shapes : List Shape
shapes =
    fetch_shapes ++ with_redirects shape.Form ++ map shape.Base schemes ++ map shape.Ancestor schemes
    ++ shape.OpaqueAncestor ∷ map shape.Inline inline_kinds ++ shape.Eval ∷ shape.Wasm ∷ []
    ++ map shape.Capability capabilities ++ shape.WorkerStart ∷ []

-- how many shapes there are
abbrev pub shape_count : ℕ
shape_count = 189

-- the place of a scheme among the schemes
abbrev pub scheme_number : Option Scheme → ℕ
scheme_number (Some scheme) = tag_of hosted scheme
scheme_number None = 5

abbrev pub flag : Bool → ℕ
flag b = if b then 1 else 0

abbrev pub url_number : Option Scheme → Bool → ℕ
url_number scheme redirected = 2 * scheme_number scheme + flag redirected

-- the place among the fetches; without the flag where the parser isn't told apart
abbrev pub fetch_number : Group → Bool → ℕ
fetch_number group.Worker parser_inserted = 10 + flag parser_inserted
fetch_number other parser_inserted = tag_of fetched other + flag (tells_parser other && parser_inserted)

-- the place of a shape among the shapes
abbrev pub number : Shape → ℕ
number (shape.Fetch group scheme redirected parser_inserted) =
    12 * fetch_number group parser_inserted + url_number scheme redirected
number (shape.Form scheme redirected) = 144 + url_number scheme redirected
number (shape.Base scheme) = 156 + scheme_number scheme
number (shape.Ancestor scheme) = 162 + scheme_number scheme
number shape.OpaqueAncestor = 168
number (shape.Inline kind) = 169 + tag_of inline kind
number shape.Eval = 174
number shape.Wasm = 175
number (shape.Capability which) = 176 + tag_of capability which
number shape.WorkerStart = 188
