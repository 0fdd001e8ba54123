-- When a policy allows a fetch (Content Security Policy Level 3, sections 4.1.2, 6.1 and 6.7.1).
use Rattle.std.specs.Prelude.{◌≡◌, ℕ, Bool, false, not, ◌==◌, List, ◌⊎◌}
use Rattle.csp_model.specs.Names.{group_directive}
use Rattle.csp_model.specs.Governing.{WhereGoverned}
use Rattle.csp_model.specs.Matching.{ListMatches}
use Rattle.csp_model.specs.Tokens.{HasKeyword, NonceMatches, IntegrityMatches}
use Rattle.csp_model.specs.Types.{Name, FetchRule, Group, Hash, Keyword, Source, Policy, Url}
use Rattle.csp_model.specs.declared.name.Name.TheVariants.{ScriptSrc}

abbrev pub is_redirected : ℕ → Bool
is_redirected redirects = not (redirects == 0)

-- the rule for a fetch that a directive of this name governs; a worker is decided on as a script where
-- script-src governs it
abbrev pub fetch_rule : Group → Name → FetchRule
fetch_rule Group.Connect governing = FetchRule.List
fetch_rule Group.Font governing = FetchRule.List
fetch_rule Group.Frame governing = FetchRule.List
fetch_rule Group.Img governing = FetchRule.List
fetch_rule Group.Manifest governing = FetchRule.List
fetch_rule Group.Media governing = FetchRule.List
fetch_rule Group.Object governing = FetchRule.List
fetch_rule Group.StyleElem governing = FetchRule.Style
fetch_rule Group.ScriptElem governing = FetchRule.Script
fetch_rule Group.Worker ScriptSrc = FetchRule.Script
fetch_rule Group.Worker governing = FetchRule.List

-- what the list decides, or 'strict-dynamic' in its place
abbrev pub DynamicOrListed : List Source → Bool → Type 0 → Type 0
DynamicOrListed sources parser_inserted Listed =
    (HasKeyword Keyword.StrictDynamic sources × (parser_inserted ≡ false))
    ⊎ ((¬ HasKeyword Keyword.StrictDynamic sources) × Listed)

-- a governing list allows the fetch, where Listed says that the list matches its URL; the script check is
-- 6.7.1.1: a nonce allows, or integrity, or else 'strict-dynamic' or the list decides
abbrev pub SourcesAllow : FetchRule → List Source → List ℕ → List Hash → Bool → Type 0 → Type 0
SourcesAllow FetchRule.Script sources nonce integrity parser_inserted Listed =
    NonceMatches nonce sources
    ⊎ (IntegrityMatches integrity sources ⊎ DynamicOrListed sources parser_inserted Listed)
SourcesAllow FetchRule.Style sources nonce integrity parser_inserted Listed = NonceMatches nonce sources ⊎ Listed
SourcesAllow FetchRule.List sources nonce integrity parser_inserted Listed = Listed

-- the policy allows the fetch
abbrev pub FetchAllows : Policy → Group → Url → ℕ → List ℕ → List Hash → Bool → Type 0
FetchAllows policy kind there redirects nonce integrity parser_inserted =
    WhereGoverned policy (group_directive kind) (λ g.
    SourcesAllow (fetch_rule kind g.name) g.directive.sources nonce integrity parser_inserted
    (ListMatches g.directive.sources policy.origin there (is_redirected redirects)))
