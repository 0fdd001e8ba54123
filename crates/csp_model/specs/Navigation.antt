-- When a policy allows base URLs, form submissions, ancestors and what a sandbox takes away (Content Security
-- Policy Level 3, sections 6.3 and 6.4; HTML Standard, section 7.1.5).
use Rattle.std.specs.Prelude.{◌≡◌, ℕ, ◌++◌, false, List, [], ◌∷◌, Any, Contains, codes, ◌⊎◌}
use Rattle.csp_model.specs.Ascii.{lower}
use Rattle.csp_model.specs.Names.{capability_text}
use Rattle.csp_model.specs.Governing.{WhereGoverned}
use Rattle.csp_model.specs.Matching.{ListMatches}
use Rattle.csp_model.specs.Fetch.{is_redirected}
use Rattle.csp_model.specs.declared.name.Name.TheVariants.{BaseUri, FormAction, FrameAncestors, Sandbox}
use Rattle.csp_model.specs.Types.{Capability, Policy, Url}
use Rattle.csp_model.specs.declared.check.Capability.TheVariants.{Scripts, SameOrigin, TopNavigationByUserActivation}
use Rattle.csp_model.specs.declared.policy.Disposition.TheVariants.{Report}

-- base-uri (6.3.1)
abbrev pub BaseAllows : Policy → Url → Type 0
BaseAllows policy there =
    WhereGoverned policy BaseUri (λ g. ListMatches g.directive.sources policy.origin there false)

-- form-action (6.4.1), for each hop with its count of redirects
abbrev pub FormAllows : Policy → Url → ℕ → Type 0
FormAllows policy there redirects =
    WhereGoverned policy FormAction (λ g.
    ListMatches g.directive.sources policy.origin there (is_redirected redirects))

-- frame-ancestors (6.4.2), for one ancestor
abbrev pub AncestorAllows : Policy → Url → Type 0
AncestorAllows policy there =
    WhereGoverned policy FrameAncestors (λ g. ListMatches g.directive.sources policy.origin there false)

-- nothing matches an ancestor whose origin is opaque
abbrev pub OpaqueAncestorAllows : Policy → Type 0
OpaqueAncestorAllows policy = WhereGoverned policy FrameAncestors (λ g. ⊥)

-- the sandbox tokens that grant a capability
abbrev pub capability_tokens : Capability → List (List ℕ)
capability_tokens TopNavigationByUserActivation =
    codes "allow-top-navigation-by-user-activation" ∷ codes "allow-top-navigation" ∷ []
capability_tokens capability = (codes "allow-" ++ capability_text capability) ∷ []

-- one of these tokens grants the capability, in letters of either case
abbrev pub Grants : List (List ℕ) → Capability → Type 0
Grants tokens capability = Any (λ token. Contains (capability_tokens capability) (lower token)) tokens

-- sandbox (6.3.2): it takes each capability that no token grants, where the policy is enforced
abbrev pub CapabilityAllows : Policy → Capability → Type 0
CapabilityAllows policy capability =
    (policy.disposition ≡ Report) ⊎ WhereGoverned policy Sandbox (λ g. Grants g.directive.tokens capability)

-- a worker starts only with scripts and same-origin
abbrev pub WorkerStartAllows : Policy → Type 0
WorkerStartAllows policy = (policy.disposition ≡ Report)
    ⊎ WhereGoverned policy Sandbox (λ g.
    Grants g.directive.tokens Scripts × Grants g.directive.tokens SameOrigin)
