-- Whether a policy allows inline code and style, string compilation and WebAssembly, as tests. They say what
-- `Inline` says.
use Rattle.std.specs.Prelude.{ℕ, Bool, not, ◌&&◌, ◌||◌, List}
use Rattle.std.specs.List.{list_any}
use Rattle.csp_model.specs.Names.{inline_directive}
use Rattle.csp_model.specs.DecideGoverning.{where_governed}
use Rattle.csp_model.specs.Inline.{is_element_kind, is_script_kind, is_nonce_or_hash}
use Rattle.csp_model.specs.DecideTokens.{has_keyword, nonce_matches, digests_match}
use Rattle.csp_model.specs.declared.name.Name.TheVariants.{ScriptSrc}
use Rattle.csp_model.specs.Types.{InlineKind, Digests, Keyword, Source, Policy}

abbrev pub allows_all_inline : InlineKind → List Source → Bool
allows_all_inline which sources =
    has_keyword Keyword.UnsafeInline sources && (not (list_any is_nonce_or_hash sources)
    && (not (is_script_kind which) || not (has_keyword Keyword.StrictDynamic sources)))

abbrev pub hash_counts : InlineKind → List Source → Bool
hash_counts which sources = is_element_kind which || has_keyword Keyword.UnsafeHashes sources

abbrev pub sources_allow_inline : InlineKind → List ℕ → Digests → List Source → Bool
sources_allow_inline which nonce digests sources =
    allows_all_inline which sources
    || ((is_element_kind which && nonce_matches nonce sources)
    || (digests_match digests sources && hash_counts which sources))

abbrev pub inline_allows : Policy → InlineKind → List ℕ → Digests → Bool
inline_allows policy which nonce digests =
    where_governed policy (inline_directive which) (λ g.
    sources_allow_inline which nonce digests g.directive.sources)

abbrev pub eval_allows : Policy → Bool
eval_allows policy = where_governed policy ScriptSrc (λ g. has_keyword Keyword.UnsafeEval g.directive.sources)

abbrev pub wasm_allows : Policy → Bool
wasm_allows policy = where_governed policy ScriptSrc (λ g.
    has_keyword Keyword.UnsafeEval g.directive.sources
    || has_keyword Keyword.WasmUnsafeEval g.directive.sources)
