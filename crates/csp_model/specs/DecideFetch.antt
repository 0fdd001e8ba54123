-- Whether a policy allows a fetch, as a test. It says what `Fetch` says.
use Rattle.std.specs.Prelude.{ℕ, Bool, not, ◌&&◌, ◌||◌, List}
use Rattle.csp_model.specs.Names.{group_directive}
use Rattle.csp_model.specs.DecideGoverning.{where_governed}
use Rattle.csp_model.specs.Fetch.{is_redirected, fetch_rule}
use Rattle.csp_model.specs.DecideMatching.{list_matches}
use Rattle.csp_model.specs.DecideTokens.{has_keyword, nonce_matches, integrity_matches}
use Rattle.csp_model.specs.Types.{FetchRule, Group, Hash, Keyword, Source, Policy, Url}

abbrev pub dynamic_or_listed : List Source → Bool → Bool → Bool
dynamic_or_listed sources parser_inserted listed =
    (has_keyword Keyword.StrictDynamic sources && not parser_inserted)
    || (not (has_keyword Keyword.StrictDynamic sources) && listed)

abbrev pub sources_allow : FetchRule → List Source → List ℕ → List Hash → Bool → Bool → Bool
sources_allow FetchRule.Script sources nonce integrity parser_inserted listed =
    nonce_matches nonce sources
    || (integrity_matches integrity sources || dynamic_or_listed sources parser_inserted listed)
sources_allow FetchRule.Style sources nonce integrity parser_inserted listed =
    nonce_matches nonce sources || listed
sources_allow FetchRule.List sources nonce integrity parser_inserted listed = listed

abbrev pub fetch_allows : Policy → Group → Url → ℕ → List ℕ → List Hash → Bool → Bool
fetch_allows policy kind there redirects nonce integrity parser_inserted =
    where_governed policy (group_directive kind) (λ g.
    sources_allow (fetch_rule kind g.name) g.directive.sources nonce integrity parser_inserted
    (list_matches g.directive.sources policy.origin there (is_redirected redirects)))
