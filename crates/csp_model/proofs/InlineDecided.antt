-- The tests of `DecideInline` decide what `Inline` says.
use Rattle.std.proofs.Common.{ℕ, not, ◌&&◌, ◌||◌, List, ◌⊎◌}
use Rattle.std.specs.Bool.{Decides}
use Rattle.std.specs.List.{list_any}
use Rattle.std.proofs.lemmas.Bool.Decides.{Decides-and, Decides-or, Decides-not}
use Rattle.csp_model.specs.Names.{inline_directive}
use Rattle.csp_model.specs.Inline.{is_element_kind, is_script_kind, is_nonce_or_hash, AllowsAllInline, SourcesAllowInline, InlineAllows, EvalAllows, WasmAllows}
use Rattle.csp_model.specs.Tokens.{HasKeyword}
use Rattle.csp_model.specs.DecideInline.{allows_all_inline, hash_counts, sources_allow_inline, inline_allows, eval_allows, wasm_allows}
use Rattle.csp_model.specs.DecideTokens.{has_keyword, nonce_matches, digests_match}
use Rattle.csp_model.proofs.Deciding.{itself, is_false, implies_decides, both3}
use Rattle.csp_model.proofs.TokensDecided.{keyword_decides, nonce_decides, digests_decide}
use Rattle.csp_model.proofs.FetchDecided.{governed_decides}
use Rattle.csp_model.specs.declared.name.Name.TheVariants.{ScriptSrc}
use Rattle.csp_model.specs.Types.{InlineKind, Digests, Keyword, Source, Policy}

all_inline_decides : (which : InlineKind) (sources : List Source)
    → Decides (allows_all_inline which sources) (AllowsAllInline which sources)
all_inline_decides which sources =
    let dynamic = has_keyword Keyword.StrictDynamic sources in
    both3 (has_keyword Keyword.UnsafeInline sources) (not (list_any is_nonce_or_hash sources)) (not (is_script_kind which) || not dynamic)
    (keyword_decides Keyword.UnsafeInline sources) (is_false (list_any is_nonce_or_hash sources))
    (implies_decides (is_script_kind which) (not dynamic) (itself (is_script_kind which))
    (Decides-not dynamic (keyword_decides Keyword.StrictDynamic sources)))

pub sources_inline_decide : (which : InlineKind) (nonce : List ℕ) (digests : Digests) (sources : List Source)
    → Decides (sources_allow_inline which nonce digests sources) (SourcesAllowInline which nonce digests sources)
sources_inline_decide which nonce digests sources =
    let by_nonce = is_element_kind which && nonce_matches nonce sources in
    let by_hash = digests_match digests sources && hash_counts which sources in
    Decides-or (allows_all_inline which sources) (by_nonce || by_hash) (all_inline_decides which sources)
    (Decides-or by_nonce by_hash
    (Decides-and (is_element_kind which) (nonce_matches nonce sources) (itself (is_element_kind which)) (nonce_decides nonce sources))
    (Decides-and (digests_match digests sources) (hash_counts which sources) (digests_decide digests sources)
    (Decides-or (is_element_kind which) (has_keyword Keyword.UnsafeHashes sources) (itself (is_element_kind which))
    (keyword_decides Keyword.UnsafeHashes sources))))

pub inline_decides : (policy : Policy) (which : InlineKind) (nonce : List ℕ) (digests : Digests)
    → Decides (inline_allows policy which nonce digests) (InlineAllows policy which nonce digests)
inline_decides policy which nonce digests =
    governed_decides policy (inline_directive which) (λ g. sources_allow_inline which nonce digests g.directive.sources)
    (λ g. SourcesAllowInline which nonce digests g.directive.sources)
    (λ g. sources_inline_decide which nonce digests g.directive.sources)

pub eval_decides : (policy : Policy) → Decides (eval_allows policy) (EvalAllows policy)
eval_decides policy =
    governed_decides policy ScriptSrc (λ g. has_keyword Keyword.UnsafeEval g.directive.sources)
    (λ g. HasKeyword Keyword.UnsafeEval g.directive.sources)
    (λ g. keyword_decides Keyword.UnsafeEval g.directive.sources)

pub wasm_decides : (policy : Policy) → Decides (wasm_allows policy) (WasmAllows policy)
wasm_decides policy =
    let has = λ (sources : List Source). has_keyword Keyword.UnsafeEval sources || has_keyword Keyword.WasmUnsafeEval sources in
    governed_decides policy ScriptSrc (λ g. has g.directive.sources)
    (λ g. HasKeyword Keyword.UnsafeEval g.directive.sources ⊎ HasKeyword Keyword.WasmUnsafeEval g.directive.sources)
    (λ g. Decides-or (has_keyword Keyword.UnsafeEval g.directive.sources) (has_keyword Keyword.WasmUnsafeEval g.directive.sources)
    (keyword_decides Keyword.UnsafeEval g.directive.sources) (keyword_decides Keyword.WasmUnsafeEval g.directive.sources))
