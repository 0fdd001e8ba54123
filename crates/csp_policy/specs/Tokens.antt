-- The JSON tokens of what is told, piece by piece. A word of private contracts, which cite only specs/.
use Rattle.std.specs.Prelude.{ℕ, Bool, false, List, [], ◌∷◌, ◌++◌, codes, decimal}
use Rattle.std.specs.List.{flat_map}
use Rattle.json.specs.Token.{Token, begin_object, end_object, begin_array, end_array, key, string, number, boolean}
use Rattle.json.specs.Tree.{json_tokens}
use Rattle.csp_model.specs.Names.{disposition_text}
use Rattle.csp_policy.specs.Types.{Directive, Disposition, Source}
use Rattle.csp_policy.specs.ReadingLines.{told_value}
use Rattle.csp_policy.specs.Told.{Told, decides, kind_text}

-- members of objects

abbrev pub text_tokens : List ℕ → List ℕ → List Token
text_tokens name text = key name ∷ string text ∷ []

unfoldable pub number_tokens : List ℕ → ℕ → List Token
number_tokens name value = key name ∷ number (decimal value) ∷ []

abbrev pub boolean_tokens : List ℕ → Bool → List Token
boolean_tokens name value = key name ∷ boolean value ∷ []

-- a token of a directive and what it stands for
abbrev pub pair : List ℕ → Source → List Token
pair token source =
    begin_object ∷ (text_tokens (codes "text") token ++ (text_tokens (codes "kind") (kind_text source)
    ++ end_object ∷ []))

-- tokens of a directive, each with what it stands for
abbrev pub pair_tokens : List (List ℕ) → List Source → List Token
pair_tokens [] sources = []
pair_tokens (token ∷ tokens) [] = []
pair_tokens (token ∷ tokens) (source ∷ sources) = pair token source ++ pair_tokens tokens sources

-- the member of them
unfoldable pub tokens_member : List (List ℕ) → List Source → List Token
tokens_member tokens sources =
    key (codes "tokens") ∷ begin_array ∷ (pair_tokens tokens sources ++ end_array ∷ [])

-- what a directive is, but for its tokens
unfoldable pub directive_front : Disposition → List ℕ → List Token
directive_front disposition name =
    begin_object ∷ (text_tokens (codes "name") name ++ boolean_tokens (codes "decides") (decides disposition name))

unfoldable pub directive_tokens : Disposition → Directive → List Token
directive_tokens disposition d =
    directive_front disposition d.name ++ (tokens_member d.tokens d.sources ++ end_object ∷ [])

abbrev pub kept_tokens : Disposition → List Directive → List Token
kept_tokens disposition ds = flat_map (directive_tokens disposition) ds

-- the member of these directives
unfoldable pub directives_member : Disposition → List Directive → List Token
directives_member disposition ds =
    key (codes "directives") ∷ begin_array ∷ (kept_tokens disposition ds ++ end_array ∷ [])

-- what a policy is, but for its directives
abbrev pub policy_front : ℕ → ℕ → Disposition → Bool → List Token
policy_front which line disposition meta =
    begin_object ∷ (number_tokens (codes "policy") which ++ (number_tokens (codes "line") line
    ++ (text_tokens (codes "disposition") (disposition_text disposition) ++ boolean_tokens (codes "meta") meta)))

unfoldable pub policy_tokens : ℕ → ℕ → Disposition → Bool → List Directive → List Token
policy_tokens which line disposition meta ds =
    policy_front which line disposition meta ++ (directives_member disposition ds ++ end_object ∷ [])

-- what a piece that is dropped is, but for what stands behind the reason
abbrev pub piece_front : List ℕ → ℕ → List ℕ → List Token
piece_front shown line reason =
    begin_object ∷ (text_tokens (codes "dropped") shown ++ (number_tokens (codes "line") line
    ++ text_tokens (codes "reason") reason))

-- a piece that is UTF-8
unfoldable pub utf8_tokens : List ℕ → ℕ → List ℕ → List Token
utf8_tokens shown line reason = piece_front shown line reason ++ end_object ∷ []

-- and one that isn't, as it is shown
unfoldable pub other_tokens : List ℕ → ℕ → List ℕ → List Token
other_tokens shown line reason =
    piece_front shown line reason ++ (boolean_tokens (codes "utf8") false ++ end_object ∷ [])

unfoldable pub told_tokens : Told → List Token
told_tokens t = json_tokens (told_value t)
