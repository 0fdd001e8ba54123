-- Whether a policy allows base URLs, forms, ancestors and what a sandbox takes away, as tests. They say what
-- `Navigation` says.
use Rattle.std.specs.Prelude.{ℕ, Bool, true, false, ◌&&◌, ◌||◌, List}
use Rattle.std.specs.List.{list_any}
use Rattle.std.specs.Str.{bytes_eq}
use Rattle.csp_model.specs.Ascii.{lower}
use Rattle.csp_model.specs.DecideGoverning.{where_governed}
use Rattle.csp_model.specs.Fetch.{is_redirected}
use Rattle.csp_model.specs.Navigation.{capability_tokens}
use Rattle.csp_model.specs.DecideMatching.{list_matches}
use Rattle.csp_model.specs.Types.{Name, Capability, Disposition, Policy, Url}
use Rattle.csp_model.specs.declared.name.Name.TheVariants.{BaseUri, FormAction, FrameAncestors, Sandbox}
use Rattle.csp_model.specs.declared.check.Capability.TheVariants.{Scripts, SameOrigin}
use Rattle.csp_model.specs.declared.policy.Disposition.TheVariants.{Enforce, Report}

abbrev pub listed_allows : Policy → Name → Url → Bool → Bool
listed_allows policy effective there redirected =
    where_governed policy effective (λ g. list_matches g.directive.sources policy.origin there redirected)

abbrev pub base_allows : Policy → Url → Bool
base_allows policy there = listed_allows policy BaseUri there false

abbrev pub form_allows : Policy → Url → ℕ → Bool
form_allows policy there redirects = listed_allows policy FormAction there (is_redirected redirects)

abbrev pub ancestor_allows : Policy → Url → Bool
ancestor_allows policy there = listed_allows policy FrameAncestors there false

abbrev pub opaque_ancestor_allows : Policy → Bool
opaque_ancestor_allows policy = where_governed policy FrameAncestors (λ g. false)

abbrev pub is_report : Disposition → Bool
is_report Report = true
is_report Enforce = false

abbrev pub grants : List (List ℕ) → Capability → Bool
grants tokens capability =
    list_any (λ token. list_any (λ t. bytes_eq t (lower token)) (capability_tokens capability)) tokens

abbrev pub capability_allows : Policy → Capability → Bool
capability_allows policy capability =
    is_report policy.disposition || where_governed policy Sandbox (λ g. grants g.directive.tokens capability)

abbrev pub worker_start_allows : Policy → Bool
worker_start_allows policy =
    is_report policy.disposition
    || where_governed policy Sandbox (λ g.
    grants g.directive.tokens Scripts && grants g.directive.tokens SameOrigin)
