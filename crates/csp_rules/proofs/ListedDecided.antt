-- The test of a fetch of which is known what the list says decides what `Listed` says.
use Rattle.std.proofs.Common.{ℕ, Bool, IsTrue, List}
use Rattle.std.specs.Bool.{Decides}
use Rattle.csp_model.specs.Names.{group_directive}
use Rattle.csp_model.specs.Fetch.{fetch_rule, SourcesAllow}
use Rattle.csp_model.specs.DecideFetch.{sources_allow}
use Rattle.csp_model.proofs.Deciding.{itself}
use Rattle.csp_model.proofs.FetchDecided.{governed_decides, sources_decide}
use Rattle.csp_rules.specs.Types.{Group, Hash, Policy}
use Rattle.csp_rules.specs.Listed.{ListedAllows, listed_allows}

pub listed_decides : (policy : Policy) (kind : Group) (nonce : List ℕ) (integrity : List Hash) (parser_inserted listed : Bool)
    → Decides (listed_allows policy kind nonce integrity parser_inserted listed)
    (ListedAllows policy kind nonce integrity parser_inserted listed)
listed_decides policy kind nonce integrity parser_inserted listed =
    governed_decides policy (group_directive kind)
    (λ g. sources_allow (fetch_rule kind g.name) g.directive.sources nonce integrity parser_inserted listed)
    (λ g. SourcesAllow (fetch_rule kind g.name) g.directive.sources nonce integrity parser_inserted (IsTrue listed))
    (λ g. sources_decide (fetch_rule kind g.name) g.directive.sources nonce integrity parser_inserted listed (IsTrue listed)
    (itself listed))
