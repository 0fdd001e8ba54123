-- Verdicts on base URLs, forms, ancestors and sandboxes.
use Rattle.std.proofs.Common.{refl, [], ◌∷◌}
use Rattle.std.specs.Prelude.{codes}
use Rattle.csp_examples.proofs.OnLiterals.{verdicts_on_literals}
use Rattle.csp_examples.proofs.Cases.{case, request, Hold}
use Rattle.csp_examples.proofs.Values.{at, elsewhere, headed, block, meta, allowed, blocked_by}
use Rattle.csp_model.specs.declared.check.Check.TheVariants as check
use Rattle.csp_model.specs.declared.check.Capability.TheVariants.{Forms, Scripts, TopNavigation, TopNavigationByUserActivation}
use Rattle.csp_model.specs.declared.name.Name.TheVariants.{FrameAncestors, FormAction, Sandbox}
use Rattle.csp_model.specs.declared.url.Scheme.TheVariants.{Https}
use Rattle.csp_model.specs.declared.url.Url.{Url}
use Rattle.csp_model.specs.declared.url.Url.TheVariants as url

pub forms_and_base_urls : Hold (
    -- a form keeps its path, and a redirected one doesn't
    case (codes "form-action https://b.example/x") (check.Form elsewhere 0) (blocked_by FormAction FormAction)
    ∷ case (codes "form-action https://b.example/x") (check.Form elsewhere 1) allowed
    -- default-src is nothing to forms
    ∷ case (codes "default-src 'none'") (check.Form elsewhere 0) allowed
    -- a base URL that is named
    ∷ case (codes "base-uri https://b.example") (check.Base elsewhere) allowed
    ∷ [])
unfolding verdicts_on_literals
forms_and_base_urls = refl

abbrev parent : Url
parent = at Https (codes "p.example") ([] ∷ [])

pub ancestors : Hold (
    -- an opaque one is matched by nothing
    request (headed (codes "frame-ancestors https:")) (check.Ancestor parent ∷ check.OpaqueAncestor ∷ [])
    (blocked_by FrameAncestors FrameAncestors)
    -- none is allowed
    ∷ request (headed (codes "frame-ancestors https:")) [] allowed
    -- one of another scheme
    ∷ case (codes "frame-ancestors data:") (check.Ancestor (url.Plain (codes "data"))) allowed
    -- a meta element names none
    ∷ request meta (check.Ancestor parent ∷ []) allowed
    ∷ [])
unfolding verdicts_on_literals
ancestors = refl

pub sandboxes : Hold (
    -- a sandbox takes what it doesn't name
    case (codes "sandbox allow-scripts") (check.Capability Forms) (blocked_by Sandbox Sandbox)
    ∷ case (codes "sandbox allow-scripts") (check.Capability Scripts) allowed
    -- a worker needs its origin too
    ∷ case (codes "sandbox allow-scripts") check.WorkerStart (blocked_by Sandbox Sandbox)
    -- navigation of the top gives that by users too, and not the other way round
    ∷ case (codes "sandbox ALLOW-top-navigation") (check.Capability TopNavigationByUserActivation) allowed
    ∷ case (codes "sandbox allow-top-navigation-by-user-activation") (check.Capability TopNavigation)
    (blocked_by Sandbox Sandbox)
    -- a reported one takes nothing
    ∷ request (block (codes "Content-Security-Policy-Report-Only: sandbox\n")) (check.Capability Forms ∷ [])
    allowed
    ∷ [])
unfolding verdicts_on_literals
sandboxes = refl
