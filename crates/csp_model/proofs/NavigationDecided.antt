-- The tests of `DecideNavigation` decide what `Navigation` says.
use Rattle.std.proofs.Common.{◌≡◌, ℕ, Bool, false, ◌&&◌, List, Contains, refl}
use Rattle.std.specs.Bool.{Decides}
use Rattle.std.specs.List.{list_any}
use Rattle.std.specs.Str.{bytes_eq}
use Rattle.std.proofs.lemmas.Bool.Decides.{Decides-and, Decides-or}
use Rattle.std.proofs.lemmas.Slice.Eq.{bytes_eq-Decides}
use Rattle.csp_model.specs.Ascii.{lower}
use Rattle.csp_model.specs.DecideGoverning.{where_governed}
use Rattle.csp_model.specs.Governing.{WhereGoverned}
use Rattle.csp_model.specs.Fetch.{is_redirected}
use Rattle.csp_model.specs.Matching.{ListMatches}
use Rattle.csp_model.specs.Navigation.{BaseAllows, FormAllows, AncestorAllows, OpaqueAncestorAllows, capability_tokens, Grants, CapabilityAllows, WorkerStartAllows}
use Rattle.csp_model.specs.DecideMatching.{list_matches}
use Rattle.csp_model.specs.DecideNavigation.{listed_allows, base_allows, form_allows, ancestor_allows, opaque_ancestor_allows, is_report, grants, capability_allows, worker_start_allows}
use Rattle.csp_model.proofs.Deciding.{no, yes, any_decides, has_decides}
use Rattle.csp_model.proofs.MatchingDecided.{list_decides}
use Rattle.csp_model.proofs.FetchDecided.{governed_decides}
use Rattle.csp_model.specs.Types.{Name, Capability, Disposition, Policy, Url}
use Rattle.csp_model.specs.declared.name.Name.TheVariants.{BaseUri, FormAction, FrameAncestors, Sandbox}
use Rattle.csp_model.specs.declared.check.Capability.TheVariants.{Scripts, SameOrigin}
use Rattle.csp_model.specs.declared.policy.Disposition.TheVariants.{Enforce, Report}

listed_decides : (policy : Policy) (effective : Name) (there : Url) (redirected : Bool)
    → Decides (listed_allows policy effective there redirected)
    (WhereGoverned policy effective (λ g. ListMatches g.directive.sources policy.origin there redirected))
listed_decides policy effective there redirected =
    governed_decides policy effective (λ g. list_matches g.directive.sources policy.origin there redirected)
    (λ g. ListMatches g.directive.sources policy.origin there redirected)
    (λ g. list_decides g.directive.sources policy.origin there redirected)

pub base_decides : (policy : Policy) (there : Url) → Decides (base_allows policy there) (BaseAllows policy there)
base_decides policy there = listed_decides policy BaseUri there false

pub form_decides : (policy : Policy) (there : Url) (redirects : ℕ)
    → Decides (form_allows policy there redirects) (FormAllows policy there redirects)
form_decides policy there redirects = listed_decides policy FormAction there (is_redirected redirects)

pub ancestor_decides : (policy : Policy) (there : Url) → Decides (ancestor_allows policy there) (AncestorAllows policy there)
ancestor_decides policy there = listed_decides policy FrameAncestors there false

pub opaque_ancestor_decides : (policy : Policy) → Decides (opaque_ancestor_allows policy) (OpaqueAncestorAllows policy)
opaque_ancestor_decides policy = governed_decides policy FrameAncestors (λ g. false) (λ g. ⊥) (λ g. no (λ h. h))

-- Sandboxes

report_decides : (d : Disposition) → Decides (is_report d) (d ≡ Report)
report_decides Report = yes refl
report_decides Enforce = no (λ (h : Enforce ≡ Report). cc)

pub grants_decide : (tokens : List (List ℕ)) (capability : Capability) → Decides (grants tokens capability) (Grants tokens capability)
grants_decide tokens capability =
    any_decides (λ token. list_any (λ t. bytes_eq t (lower token)) (capability_tokens capability))
    (λ token. Contains (capability_tokens capability) (lower token))
    (λ token. has_decides (λ t. bytes_eq t (lower token)) (lower token) (λ t. bytes_eq-Decides t (lower token))
    (capability_tokens capability)) tokens

pub capability_decides : (policy : Policy) (capability : Capability)
    → Decides (capability_allows policy capability) (CapabilityAllows policy capability)
capability_decides policy capability =
    Decides-or (is_report policy.disposition) (where_governed policy Sandbox (λ g. grants g.directive.tokens capability))
    (report_decides policy.disposition)
    (governed_decides policy Sandbox (λ g. grants g.directive.tokens capability) (λ g. Grants g.directive.tokens capability)
    (λ g. grants_decide g.directive.tokens capability))

pub worker_start_decides : (policy : Policy) → Decides (worker_start_allows policy) (WorkerStartAllows policy)
worker_start_decides policy =
    let both = λ (tokens : List (List ℕ)). grants tokens Scripts && grants tokens SameOrigin in
    Decides-or (is_report policy.disposition) (where_governed policy Sandbox (λ g. both g.directive.tokens))
    (report_decides policy.disposition)
    (governed_decides policy Sandbox (λ g. both g.directive.tokens)
    (λ g. Grants g.directive.tokens Scripts × Grants g.directive.tokens SameOrigin)
    (λ g. Decides-and (grants g.directive.tokens Scripts) (grants g.directive.tokens SameOrigin)
    (grants_decide g.directive.tokens Scripts) (grants_decide g.directive.tokens SameOrigin)))
