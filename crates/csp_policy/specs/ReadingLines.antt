-- The lines that `read` prints: a JSON object for each thing that is told.
use Rattle.std.specs.Prelude.{ℕ, Bool, true, false, if◌then◌else◌, List, [], ◌∷◌, ◌++◌, codes, decimal, encode_utf8}
use Rattle.std.specs.List.{flat_map}
use Rattle.std.specs.Str.{is_utf8}
use Rattle.json.specs.Json.{Json, boolean, number, string, array, object, Items, no_items, item, Members, no_members, member}
use Rattle.json.specs.Print.{print}
use Rattle.json.specs.Tree.{json_tokens}
use Rattle.csp_model.specs.Names.{disposition_text}
use Rattle.csp_policy.specs.Types.{Directive, Disposition, Source}
use Rattle.csp_policy.specs.Told.{Told, Policy, Dropped, told, decides, kind_text}

-- a token and what it stands for
abbrev pub token_members : List ℕ → Source → Members
token_members token source =
    member (codes "text") (string token) (member (codes "kind") (string (kind_text source)) no_members)

-- tokens, each with what it stands for
abbrev pub token_items : List (List ℕ) → List Source → Items
token_items [] sources = no_items
token_items (token ∷ tokens) [] = no_items
token_items (token ∷ tokens) (source ∷ sources) =
    item (object (token_members token source)) (token_items tokens sources)

-- a directive of a policy of this disposition
abbrev pub directive_members : Disposition → Directive → Members
directive_members disposition d =
    member (codes "name") (string d.name)
    (member (codes "decides") (boolean (decides disposition d.name))
    (member (codes "tokens") (array (token_items d.tokens d.sources))
    no_members))

abbrev pub directive_items : Disposition → List Directive → Items
directive_items disposition [] = no_items
directive_items disposition (d ∷ ds) =
    item (object (directive_members disposition d)) (directive_items disposition ds)

-- the UTF-8 of the text that bytes are where each is the code point of that number (Infra Standard, section 4.5)
abbrev pub isomorphic_decode : List ℕ → List ℕ
isomorphic_decode bytes = flat_map encode_utf8 bytes

-- a piece that is dropped: this text of it, and whether that is the piece's own, which is UTF-8
abbrev pub dropped_members : Bool → List ℕ → ℕ → List ℕ → Members
dropped_members true text line reason =
    member (codes "dropped") (string text)
    (member (codes "line") (number (decimal line))
    (member (codes "reason") (string reason)
    no_members))
dropped_members false text line reason =
    member (codes "dropped") (string text)
    (member (codes "line") (number (decimal line))
    (member (codes "reason") (string reason)
    (member (codes "utf8") (boolean false)
    no_members)))

-- bytes as a text
abbrev pub shown_text : List ℕ → List ℕ
shown_text bytes = if is_utf8 bytes then bytes else isomorphic_decode bytes

abbrev pub told_members : Told → Members
told_members (Policy which line disposition meta ds) =
    member (codes "policy") (number (decimal which))
    (member (codes "line") (number (decimal line))
    (member (codes "disposition") (string (disposition_text disposition))
    (member (codes "meta") (boolean meta)
    (member (codes "directives") (array (directive_items disposition ds))
    no_members))))
told_members (Dropped text line reason) = dropped_members (is_utf8 text) (shown_text text) line reason

abbrev pub told_value : Told → Json
told_value t = object (told_members t)

unfoldable pub told_line : Told → List ℕ
told_line t = print (json_tokens (told_value t)) ++ codes "\n"

-- what `read` prints of a header block
abbrev pub reading_text : List ℕ → List ℕ
reading_text bytes = flat_map told_line (told bytes)
