-- When a policy allows inline code and style, string compilation and WebAssembly (Content Security Policy
-- Level 3, sections 4.2.3, 4.3, 4.4 and 6.7.3).
use Rattle.std.specs.Prelude.{◌≡◌, ◌≢◌, ℕ, Bool, true, false, List, [], ◌++◌, Option, None, Some, find, Any, IsTrue, codes, ◌⊎◌}
use Rattle.std.specs.List.{list_any}
use Rattle.std.specs.Option.{option_map}
use Rattle.std.specs.Str.{bytes_eq}
use Rattle.csp_model.specs.Ascii.{lower}
use Rattle.csp_model.specs.Names.{inline_directive}
use Rattle.csp_model.specs.Governing.{WhereGoverned}
use Rattle.csp_model.specs.Tokens.{HasKeyword, NonceMatches, DigestsMatch}
use Rattle.csp_model.specs.declared.name.Name.TheVariants.{ScriptSrc}
use Rattle.csp_model.specs.Types.{InlineKind, Digests, Keyword, Source, Policy}

-- the text of a script or a style element
abbrev pub is_element_kind : InlineKind → Bool
is_element_kind InlineKind.Script = true
is_element_kind InlineKind.ScriptAttribute = false
is_element_kind InlineKind.Style = true
is_element_kind InlineKind.StyleAttribute = false
is_element_kind InlineKind.Navigation = false

-- code, and no style
abbrev pub is_script_kind : InlineKind → Bool
is_script_kind InlineKind.Script = true
is_script_kind InlineKind.ScriptAttribute = true
is_script_kind InlineKind.Style = false
is_script_kind InlineKind.StyleAttribute = false
is_script_kind InlineKind.Navigation = true

abbrev pub is_nonce_or_hash : Source → Bool
is_nonce_or_hash Source.Star = false
is_nonce_or_hash (Source.SchemeOnly scheme) = false
is_nonce_or_hash (Source.Hosted scheme host port path) = false
is_nonce_or_hash (Source.Word word) = false
is_nonce_or_hash (Source.Nonce value) = true
is_nonce_or_hash (Source.Digest hash) = true
is_nonce_or_hash (Source.Other token) = false

-- all inline of the kind is allowed (6.7.3.2): 'unsafe-inline' acts where no nonce, hash or 'strict-dynamic'
-- takes its place
abbrev pub AllowsAllInline : InlineKind → List Source → Type 0
AllowsAllInline which sources =
    HasKeyword Keyword.UnsafeInline sources × (list_any is_nonce_or_hash sources ≡ false)
    × (IsTrue (is_script_kind which) → ¬ HasKeyword Keyword.StrictDynamic sources)

-- a governing list allows the inline source (6.7.3.3); a hash counts for elements, and with 'unsafe-hashes'
-- for attributes and navigations too
abbrev pub SourcesAllowInline : InlineKind → List ℕ → Digests → List Source → Type 0
SourcesAllowInline which nonce digests sources =
    AllowsAllInline which sources
    ⊎ ((IsTrue (is_element_kind which) × NonceMatches nonce sources)
    ⊎ (DigestsMatch digests sources
    × (IsTrue (is_element_kind which) ⊎ HasKeyword Keyword.UnsafeHashes sources)))

-- the policy allows the inline source
abbrev pub InlineAllows : Policy → InlineKind → List ℕ → Digests → Type 0
InlineAllows policy which nonce digests =
    WhereGoverned policy (inline_directive which) (λ g.
    SourcesAllowInline which nonce digests g.directive.sources)

-- the policy allows string compilation (4.3)
abbrev pub EvalAllows : Policy → Type 0
EvalAllows policy = WhereGoverned policy ScriptSrc (λ g. HasKeyword Keyword.UnsafeEval g.directive.sources)

-- the policy allows compilation of WebAssembly (4.4)
abbrev pub WasmAllows : Policy → Type 0
WasmAllows policy = WhereGoverned policy ScriptSrc (λ g.
    HasKeyword Keyword.UnsafeEval g.directive.sources ⊎ HasKeyword Keyword.WasmUnsafeEval g.directive.sources)

-- Elements and their nonces (6.7.3.1)

-- the text has the word in it, in letters of either case
abbrev pub Mentions : List ℕ → List ℕ → Type 0
Mentions word text = (front back : List ℕ) × (lower text ≡ front ++ (word ++ back))

-- an attribute's name or value begins another script or style
abbrev pub IsSuspect : (List ℕ × List ℕ) → Type 0
IsSuspect attribute = (Mentions (codes "<script") attribute.0 ⊎ Mentions (codes "<style") attribute.0)
    ⊎ (Mentions (codes "<script") attribute.1 ⊎ Mentions (codes "<style") attribute.1)

-- the value of an element's first attribute "nonce"
abbrev pub nonce_attribute : List (List ℕ × List ℕ) → Option (List ℕ)
nonce_attribute attributes =
    option_map (λ (a : List ℕ × List ℕ). a.1)
    (find (λ (a : List ℕ × List ℕ). bytes_eq a.0 (codes "nonce")) attributes)

-- an element of this tag, with these attributes, and with or without a duplicate one, is nonceable
abbrev pub IsNonceable : List ℕ → List (List ℕ × List ℕ) → Bool → Type 0
IsNonceable tag attributes duplicate = (nonce_attribute attributes ≢ None) × (duplicate ≡ false)
    × (tag ≡ codes "script" → ¬ Any IsSuspect attributes)

-- an element's nonce, which is empty where it isn't nonceable
abbrev pub IsElementNonce : List ℕ → List (List ℕ × List ℕ) → Bool → List ℕ → Type 0
IsElementNonce tag attributes duplicate nonce =
    (IsNonceable tag attributes duplicate × (nonce_attribute attributes ≡ Some nonce))
    ⊎ ((¬ IsNonceable tag attributes duplicate) × (nonce ≡ []))
