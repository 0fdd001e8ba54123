-- Verdicts of lists of policies, and on requests of several checks.
use Rattle.std.proofs.Common.{refl, ℕ, List, [], ◌∷◌, ◌++◌}
use Rattle.std.specs.Prelude.{codes}
use Rattle.csp_examples.proofs.OnLiterals.{verdicts_on_literals}
use Rattle.csp_examples.proofs.Cases.{case, request, Hold}
use Rattle.csp_examples.proofs.Values.{here, elsewhere, image, script, headed, block, meta, enforced, reported, allowed, allowed_with, blocked_with, blocked_by}
use Rattle.csp_model.specs.declared.check.Check.TheVariants as check
use Rattle.csp_model.specs.declared.name.Name.TheVariants.{ImgSrc, BaseUri}

-- policies of three headers
abbrev three : List ℕ
three = codes "Content-Security-Policy-Report-Only: base-uri 'none'\n"
    ++ (codes "Content-Security-Policy: base-uri 'none'\n"
    ++ codes "Content-Security-Policy: base-uri 'none'\n")

pub lists : Hold (
    -- no policy forbids nothing
    request (block []) (script elsewhere ∷ []) allowed
    -- a policy that only reports blocks nothing
    ∷ request (block (codes "Content-Security-Policy-Report-Only: img-src 'none'\n")) (image elsewhere ∷ [])
    (allowed_with (reported 0 ImgSrc ImgSrc ∷ []))
    -- each policy has its item
    ∷ case (codes "img-src 'none', img-src 'none'") (image elsewhere)
    (blocked_with (enforced 0 ImgSrc ImgSrc ∷ enforced 1 ImgSrc ImgSrc ∷ []))
    -- but those of a base URL end with the first enforced one
    ∷ request (block three) (check.Base (here ([] ∷ [])) ∷ [])
    (blocked_with (reported 0 BaseUri BaseUri ∷ enforced 1 BaseUri BaseUri ∷ []))
    -- a comma doesn't split the value of a meta element, and "'none'," matches nothing
    ∷ request meta (image elsewhere ∷ []) allowed
    ∷ [])
unfolding verdicts_on_literals
lists = refl

-- no check is judged after one that is blocked
pub requests : Hold (
    case (codes "img-src 'none'") (image elsewhere) (blocked_by ImgSrc ImgSrc)
    ∷ request (headed (codes "img-src 'none'")) (image elsewhere ∷ image (here ([] ∷ [])) ∷ [])
    (blocked_by ImgSrc ImgSrc)
    ∷ request (headed (codes "img-src 'none'")) [] allowed
    ∷ [])
unfolding verdicts_on_literals
requests = refl
