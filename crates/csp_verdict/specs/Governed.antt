-- A word of private contracts: whether what governs a check in a policy allows it.
use Rattle.std.specs.Prelude.{Bool, false, ◌||◌}
use Rattle.csp_model.specs.Governing.{Governor}
use Rattle.csp_model.specs.Fetch.{is_redirected, fetch_rule}
use Rattle.csp_model.specs.DecideFetch.{sources_allow}
use Rattle.csp_model.specs.DecideInline.{sources_allow_inline}
use Rattle.csp_model.specs.DecideMatching.{list_matches}
use Rattle.csp_model.specs.DecideNavigation.{capability_allows, worker_start_allows}
use Rattle.csp_model.specs.DecideTokens.{has_keyword}
use Rattle.csp_model.specs.declared.check.Check.{Check}
use Rattle.csp_model.specs.declared.check.Check.TheVariants as check
use Rattle.csp_model.specs.declared.policy.Policy.{Policy}
use Rattle.csp_model.specs.declared.source.Keyword.TheVariants as keyword

abbrev pub governed_allows : Policy → Check → Governor → Bool
governed_allows policy (check.Fetch group there redirects nonce integrity parser_inserted) g =
    sources_allow (fetch_rule group g.name) g.directive.sources nonce integrity parser_inserted
    (list_matches g.directive.sources policy.origin there (is_redirected redirects))
governed_allows policy (check.Inline kind nonce digests) g =
    sources_allow_inline kind nonce digests g.directive.sources
governed_allows policy check.Eval g = has_keyword keyword.UnsafeEval g.directive.sources
governed_allows policy check.Wasm g =
    has_keyword keyword.UnsafeEval g.directive.sources || has_keyword keyword.WasmUnsafeEval g.directive.sources
governed_allows policy (check.Base there) g = list_matches g.directive.sources policy.origin there false
governed_allows policy (check.Form there redirects) g =
    list_matches g.directive.sources policy.origin there (is_redirected redirects)
governed_allows policy (check.Ancestor there) g = list_matches g.directive.sources policy.origin there false
governed_allows policy check.OpaqueAncestor g = false
governed_allows policy (check.Capability capability) g = capability_allows policy capability
governed_allows policy check.WorkerStart g = worker_start_allows policy
