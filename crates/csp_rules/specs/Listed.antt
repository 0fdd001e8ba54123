-- Whether a policy allows a fetch of which is known whether the governing list matches its URL.
use Rattle.std.specs.Prelude.{ℕ, Bool, IsTrue, List}
use Rattle.csp_model.specs.Names.{group_directive}
use Rattle.csp_model.specs.DecideGoverning.{where_governed}
use Rattle.csp_model.specs.Governing.{WhereGoverned}
use Rattle.csp_model.specs.Fetch.{fetch_rule, SourcesAllow}
use Rattle.csp_model.specs.DecideFetch.{sources_allow}
use Rattle.csp_rules.specs.Types.{Group, Hash, Policy}

-- as `Fetch.FetchAllows`, with this answer in the place of the list's
abbrev pub ListedAllows : Policy → Group → List ℕ → List Hash → Bool → Bool → Type 0
ListedAllows policy kind nonce integrity parser_inserted listed =
    WhereGoverned policy (group_directive kind) (λ g.
    SourcesAllow (fetch_rule kind g.name) g.directive.sources nonce integrity parser_inserted (IsTrue listed))

-- the same as a test
abbrev pub listed_allows : Policy → Group → List ℕ → List Hash → Bool → Bool → Bool
listed_allows policy kind nonce integrity parser_inserted listed =
    where_governed policy (group_directive kind) (λ g.
    sources_allow (fetch_rule kind g.name) g.directive.sources nonce integrity parser_inserted listed)
