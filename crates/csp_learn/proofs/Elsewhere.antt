-- A learnt policy allows no inline code or style and no compilation, and all that no directive of it governs.
use Rattle.std.proofs.Common.{◌≡◌, ◌∙◌, ap, refl, ℕ, Bool, true, false, ◌||◌, List, [], ◌∷◌, map, Some, None}
use Rattle.std.specs.List.{list_all}
use Rattle.csp_model.specs.DecideGoverning.{allows_by, where_governed}
use Rattle.csp_model.specs.DecideInline.{sources_allow_inline, inline_allows, eval_allows, wasm_allows}
use Rattle.csp_model.specs.DecideTokens.{is_keyword, has_keyword, is_hash_of}
use Rattle.csp_model.specs.Governing.{Governor, governor, fallbacks}
use Rattle.csp_model.specs.Inline.{is_element_kind}
use Rattle.csp_model.specs.Names.{name_text, inline_directive}
use Rattle.csp_model.specs.Reading.{first_of, source_of}
use Rattle.csp_model.specs.declared.check.Digests.{Digests}
use Rattle.csp_model.specs.declared.check.Group.TheVariants as group
use Rattle.csp_model.specs.declared.check.InlineKind.{InlineKind}
use Rattle.csp_model.specs.declared.check.InlineKind.TheVariants as inline
use Rattle.csp_model.specs.declared.name.Name.{Name}
use Rattle.csp_model.specs.declared.name.Name.TheVariants.{StyleSrcElem, ScriptSrcElem, ScriptSrcAttr, StyleSrcAttr, ScriptSrc, DefaultSrc}
use Rattle.csp_model.specs.declared.source.Keyword.TheVariants as keyword
use Rattle.csp_model.specs.declared.source.Source.{Source}
use Rattle.csp_model.specs.declared.source.Source.TheVariants as source
use Rattle.csp_model.specs.declared.url.Origin.{Origin}
use Rattle.csp_learn.specs.Policies.{directive_of, tokens_for, where_needed, directive_for, default_none, policy_for}
use Rattle.csp_learn.specs.declared.need.Need.{Need}
use Rattle.csp_learn.proofs.Chosen.{all_chosen}
use Rattle.csp_learn.proofs.Governed.{is_plain, none_plain, none_of_kind, no_keyword, and_none, nonce_fails, all_mapped, as_governor, named_among, own_or_default, governs, governor_of}

-- each token is that of a scheme or a host
abbrev pub ArePlain : List Need → Type 0
ArePlain needs = list_all (λ (need : Need). is_plain (source_of need.token)) needs ≡ true

-- what governs has hosts and schemes alone
abbrev IsPlainlyGoverned : Origin → List Need → Name → Type 0
IsPlainlyGoverned origin needs effective =
    (g : Governor) × (governor (policy_for origin needs) effective ≡ Some g) × (list_all is_plain g.directive.sources ≡ true)

own_plain : (needs : List Need) (name : Name) → ArePlain needs
    → (g : Governor) × (own_or_default name (directive_for needs name) ≡ Some g) × (list_all is_plain g.directive.sources ≡ true)
own_plain needs name plain = go (tokens_for (name_text name) needs) (all_chosen (λ token. is_plain (source_of token)) (name_text name) needs plain) where
  go : (tokens : List (List ℕ)) → list_all (λ token. is_plain (source_of token)) tokens ≡ true
      → (g : Governor) × (own_or_default name (where_needed (name_text name) tokens) ≡ Some g) × (list_all is_plain g.directive.sources ≡ true)
  go [] all = (as_governor DefaultSrc default_none, refl, none_plain)
  go (token ∷ tokens) all =
      (as_governor name (directive_of (name_text name) (token ∷ tokens)), refl, all_mapped is_plain source_of (token ∷ tokens) ∙ all)

by_own : (origin : Origin) (needs : List Need) (name : Name) → ArePlain needs
    → first_of (map (named_among needs) (fallbacks name)) ≡ own_or_default name (directive_for needs name) → IsPlainlyGoverned origin needs name
by_own origin needs name plain e =
    let (g, is, good) = own_plain needs name plain in (g, governor_of origin needs name ∙ e ∙ is, good)

by_default : (origin : Origin) (needs : List Need) (effective : Name)
    → first_of (map (named_among needs) (fallbacks effective)) ≡ Some (as_governor DefaultSrc default_none) → IsPlainlyGoverned origin needs effective
by_default origin needs effective e = (as_governor DefaultSrc default_none, governor_of origin needs effective ∙ e, none_plain)

inline_governed : (origin : Origin) (needs : List Need) → ArePlain needs → (kind : InlineKind) → IsPlainlyGoverned origin needs (inline_directive kind)
inline_governed origin needs plain inline.Script = by_own origin needs ScriptSrcElem plain (governs needs group.ScriptElem)
inline_governed origin needs plain inline.ScriptAttribute = by_default origin needs ScriptSrcAttr refl
inline_governed origin needs plain inline.Style = by_own origin needs StyleSrcElem plain (governs needs group.StyleElem)
inline_governed origin needs plain inline.StyleAttribute = by_default origin needs StyleSrcAttr refl
inline_governed origin needs plain inline.Navigation = by_own origin needs ScriptSrcElem plain (governs needs group.ScriptElem)

refused_by : (origin : Origin) (needs : List Need) (effective : Name) (test : Governor → Bool) → IsPlainlyGoverned origin needs effective
    → ((g : Governor) → list_all is_plain g.directive.sources ≡ true → test g ≡ false) → where_governed (policy_for origin needs) effective test ≡ false
refused_by origin needs effective test (g, is, good) fails = ap (λ o. allows_by o test) is ∙ fails g good

no_digest : (digests : Digests) (s : Source) → is_plain s ≡ true → is_hash_of digests s ≡ false
no_digest digests (source.Digest hash) plain = cc
no_digest digests s plain = refl

inline_fails : (kind : InlineKind) (nonce : List ℕ) (digests : Digests) (sources : List Source) → list_all is_plain sources ≡ true
    → sources_allow_inline kind nonce digests sources ≡ false
inline_fails kind nonce digests sources plain =
    rw (
      none_of_kind (is_keyword keyword.UnsafeInline) (no_keyword keyword.UnsafeInline) sources plain,
      nonce_fails nonce sources plain,
      none_of_kind (is_hash_of digests) (no_digest digests) sources plain,
    )
    (ap (λ b. b || false) (and_none (is_element_kind kind)))

pub inline_refused : (origin : Origin) (needs : List Need) → ArePlain needs → (kind : InlineKind) (nonce : List ℕ) (digests : Digests)
    → inline_allows (policy_for origin needs) kind nonce digests ≡ false
inline_refused origin needs plain kind nonce digests =
    refused_by origin needs (inline_directive kind) (λ g. sources_allow_inline kind nonce digests g.directive.sources) (inline_governed origin needs plain kind)
    (λ g good. inline_fails kind nonce digests g.directive.sources good)

pub eval_refused : (origin : Origin) (needs : List Need) → eval_allows (policy_for origin needs) ≡ false
eval_refused origin needs =
    refused_by origin needs ScriptSrc (λ g. has_keyword keyword.UnsafeEval g.directive.sources) (by_default origin needs ScriptSrc refl)
    (λ g good. none_of_kind (is_keyword keyword.UnsafeEval) (no_keyword keyword.UnsafeEval) g.directive.sources good)

pub wasm_refused : (origin : Origin) (needs : List Need) → wasm_allows (policy_for origin needs) ≡ false
wasm_refused origin needs =
    refused_by origin needs ScriptSrc (λ g. has_keyword keyword.UnsafeEval g.directive.sources || has_keyword keyword.WasmUnsafeEval g.directive.sources)
    (by_default origin needs ScriptSrc refl)
    (λ g good. ap (λ b. b || has_keyword keyword.WasmUnsafeEval g.directive.sources)
    (none_of_kind (is_keyword keyword.UnsafeEval) (no_keyword keyword.UnsafeEval) g.directive.sources good)
    ∙ none_of_kind (is_keyword keyword.WasmUnsafeEval) (no_keyword keyword.WasmUnsafeEval) g.directive.sources good)

-- nothing governs a check of this name
pub ungoverned : (origin : Origin) (needs : List Need) (effective : Name) (test : Governor → Bool)
    → first_of (map (named_among needs) (fallbacks effective)) ≡ None → where_governed (policy_for origin needs) effective test ≡ true
ungoverned origin needs effective test none = ap (λ o. allows_by o test) (governor_of origin needs effective ∙ none)
