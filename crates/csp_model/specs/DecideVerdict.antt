-- Whether a policy allows a check, as a test. It says what `Verdict.Allows` says.
use Rattle.std.specs.Prelude.{Bool}
use Rattle.csp_model.specs.DecideFetch.{fetch_allows}
use Rattle.csp_model.specs.DecideInline.{inline_allows, eval_allows, wasm_allows}
use Rattle.csp_model.specs.DecideNavigation.{base_allows, form_allows, ancestor_allows, opaque_ancestor_allows, capability_allows, worker_start_allows}
use Rattle.csp_model.specs.Types.{Check, Policy}

-- a policy allows a check, whatever its disposition
abbrev pub allows : Policy → Check → Bool
allows policy (Check.Fetch group there redirects nonce integrity parser_inserted) =
    fetch_allows policy group there redirects nonce integrity parser_inserted
allows policy (Check.Inline kind nonce digests) = inline_allows policy kind nonce digests
allows policy Check.Eval = eval_allows policy
allows policy Check.Wasm = wasm_allows policy
allows policy (Check.Base there) = base_allows policy there
allows policy (Check.Form there redirects) = form_allows policy there redirects
allows policy (Check.Ancestor there) = ancestor_allows policy there
allows policy Check.OpaqueAncestor = opaque_ancestor_allows policy
allows policy (Check.Capability capability) = capability_allows policy capability
allows policy Check.WorkerStart = worker_start_allows policy
