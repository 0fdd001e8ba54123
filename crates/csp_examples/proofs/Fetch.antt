-- Verdicts on fetches, by a page of https://a.example.
use Rattle.std.proofs.Common.{refl, ℕ, [], ◌∷◌, true, false, List, Some, None}
use Rattle.std.specs.Prelude.{codes}
use Rattle.csp_examples.proofs.OnLiterals.{verdicts_on_literals}
use Rattle.csp_examples.proofs.Cases.{case, request, Hold}
use Rattle.csp_examples.proofs.Values.{at, here, elsewhere, image, script, headed, block_at, allowed, blocked_by}
use Rattle.csp_model.specs.declared.check.Check.{Check}
use Rattle.csp_model.specs.declared.check.Check.TheVariants as check
use Rattle.csp_model.specs.declared.check.Group.TheVariants as group
use Rattle.csp_model.specs.declared.name.Name.TheVariants.{ScriptSrcElem, DefaultSrc, ImgSrc, ScriptSrc, StyleSrcElem, StyleSrc, WorkerSrc}
use Rattle.csp_model.specs.declared.source.Algorithm.TheVariants.{Sha256, Sha384}
use Rattle.csp_model.specs.declared.source.Hash.{Hash}
use Rattle.csp_model.specs.declared.url.Scheme.{Scheme}
use Rattle.csp_model.specs.declared.url.Scheme.TheVariants.{Http, Https}
use Rattle.csp_model.specs.declared.url.Host.TheVariants as host
use Rattle.csp_model.specs.declared.url.Origin.TheVariants as origin
use Rattle.csp_model.specs.declared.url.Url.{Url}
use Rattle.csp_model.specs.declared.url.Url.TheVariants as url

pub directives : Hold (
    -- default-src governs scripts
    case (codes "default-src 'self'") (script elsewhere) (blocked_by ScriptSrcElem DefaultSrc)
    -- the first directive of a name counts
    ∷ case (codes "img-src *; img-src 'none'") (image elsewhere) allowed
    ∷ [])
unfolding verdicts_on_literals
directives = refl

abbrev home : Url
home = here ([] ∷ [])

-- http://b.example
abbrev plain : Url
plain = at Http (codes "b.example") ([] ∷ [])

abbrev local : Scheme → Url
local scheme = url.Hosted scheme (host.Domain (codes "localhost")) (Some 3000) ([] ∷ [])

pub schemes_and_ports : Hold (
    -- an expression of http matches https too
    case (codes "img-src http://a.example") (image home) allowed
    -- but not where it names the port 80
    ∷ case (codes "img-src http://a.example:80") (image home) (blocked_by ImgSrc ImgSrc)
    -- any port is met, and a host without a scheme has the origin's
    ∷ case (codes "img-src localhost:*") (image (local Https)) allowed
    ∷ case (codes "img-src localhost:*") (image (local Http)) (blocked_by ImgSrc ImgSrc)
    -- a star with a port is a host, and asks for the scheme too
    ∷ case (codes "img-src *:*") (image plain) (blocked_by ImgSrc ImgSrc)
    ∷ [])
unfolding verdicts_on_literals
schemes_and_ports = refl

pub an_opaque_origin_has_no_scheme : Hold (
    request (block_at origin.Opaque (codes "Content-Security-Policy: img-src localhost:*"))
    (image (local Https) ∷ []) (blocked_by ImgSrc ImgSrc)
    ∷ request (block_at origin.Opaque (codes "Content-Security-Policy: img-src localhost:*"))
    (image (local Http) ∷ []) (blocked_by ImgSrc ImgSrc)
    ∷ [])
unfolding verdicts_on_literals
an_opaque_origin_has_no_scheme = refl

abbrev hop : Url → ℕ → Check
hop there redirects = check.Fetch group.Img there redirects [] [] false

pub a_folder_holds_what_is_below : Hold (
    -- it isn't its name
    case (codes "img-src https://a.example/x/") (image (here (codes "x" ∷ []))) (blocked_by ImgSrc ImgSrc)
    -- it holds itself, and what is below
    ∷ case (codes "img-src https://a.example/x/") (image (here (codes "x" ∷ [] ∷ []))) allowed
    ∷ case (codes "img-src https://a.example/x/") (image (here (codes "x" ∷ codes "y" ∷ []))) allowed
    -- without a redirect the path counts
    ∷ case (codes "img-src https://a.example/x/") (image (here (codes "q" ∷ []))) (blocked_by ImgSrc ImgSrc)
    -- and after one it doesn't
    ∷ request (headed (codes "img-src https://a.example/x/"))
    (hop (here (codes "x" ∷ codes "1" ∷ [])) 0 ∷ hop (here (codes "q" ∷ [])) 1 ∷ []) allowed
    ∷ [])
unfolding verdicts_on_literals
a_folder_holds_what_is_below = refl

abbrev address : List ℕ → Url
address text = url.Hosted Https (host.Address text) None (codes "x" ∷ [])

pub an_address_is_matched_as_it_is_printed : Hold (
    case (codes "img-src https://10.0.0.1/") (image (address (codes "10.0.0.1"))) allowed
    ∷ case (codes "img-src https://10.0.0.1/") (image (address (codes "10.0.0.2"))) (blocked_by ImgSrc ImgSrc)
    -- a zero before it, or a dot behind it, and it is another text
    ∷ case (codes "img-src https://010.0.0.1") (image (address (codes "10.0.0.1"))) (blocked_by ImgSrc ImgSrc)
    ∷ case (codes "img-src https://10.0.0.1.") (image (address (codes "10.0.0.1"))) (blocked_by ImgSrc ImgSrc)
    -- "*" as a host is any domain, and no address
    ∷ case (codes "img-src https://*") (image (address (codes "10.0.0.1"))) (blocked_by ImgSrc ImgSrc)
    ∷ case (codes "img-src https://*") (image elsewhere) allowed
    -- "*" alone goes by the scheme, and asks for no host
    ∷ case (codes "img-src *") (image (address (codes "10.0.0.1"))) allowed
    ∷ case (codes "img-src *") (image plain) allowed
    ∷ case (codes "img-src *") (image (url.Plain (codes "data"))) (blocked_by ImgSrc ImgSrc)
    ∷ [])
unfolding verdicts_on_literals
an_address_is_matched_as_it_is_printed = refl

abbrev script_with : List ℕ → List Hash → Check
script_with nonce integrity = check.Fetch group.ScriptElem elsewhere 0 nonce integrity true

-- 'strict-dynamic' takes the place of the list, and a nonce goes before it
pub strict_dynamic : Hold (
    -- what the parser inserts
    case (codes "script-src 'strict-dynamic' 'nonce-abc' https:") (script_with [] [])
    (blocked_by ScriptSrcElem ScriptSrc)
    ∷ case (codes "script-src 'strict-dynamic' 'nonce-abc' https:") (script_with (codes "abc") []) allowed
    -- what scripts add
    ∷ case (codes "script-src 'strict-dynamic' 'nonce-abc' https:") (script elsewhere) allowed
    ∷ [])
unfolding verdicts_on_literals
strict_dynamic = refl

abbrev known : Hash
known = record { algorithm = Sha256; value = codes "abc" }

abbrev unknown : Hash
unknown = record { algorithm = Sha384; value = codes "abc" }

-- each pair must be a hash of the list
pub integrity : Hold (
    case (codes "script-src 'sha256-abc' 'strict-dynamic'") (script_with [] (known ∷ [])) allowed
    ∷ case (codes "script-src 'sha256-abc'") (script_with [] (known ∷ unknown ∷ []))
    (blocked_by ScriptSrcElem ScriptSrc)
    ∷ case (codes "script-src 'sha256-abc'") (script_with [] []) (blocked_by ScriptSrcElem ScriptSrc)
    ∷ [])
unfolding verdicts_on_literals
integrity = refl

abbrev worker : List ℕ → Check
worker nonce = check.Fetch group.Worker elsewhere 0 nonce [] false

-- a nonce counts where script-src governs
pub workers : Hold (
    case (codes "script-src 'nonce-abc'") (worker (codes "abc")) allowed
    ∷ case (codes "default-src 'nonce-abc'") (worker (codes "abc")) (blocked_by WorkerSrc DefaultSrc)
    -- an empty one matches nothing
    ∷ case (codes "script-src 'nonce-abc'") (worker []) (blocked_by WorkerSrc ScriptSrc)
    ∷ [])
unfolding verdicts_on_literals
workers = refl

abbrev style_with : List ℕ → List Hash → Check
style_with nonce integrity = check.Fetch group.StyleElem elsewhere 0 nonce integrity false

pub styles_and_images : Hold (
    case (codes "style-src 'nonce-abc'") (style_with (codes "abc") []) allowed
    -- integrity is nothing to a style, and a nonce nothing to an image
    ∷ case (codes "style-src 'sha256-abc'") (style_with [] (known ∷ [])) (blocked_by StyleSrcElem StyleSrc)
    ∷ case (codes "img-src 'nonce-abc'") (check.Fetch group.Img elsewhere 0 (codes "abc") [] false)
    (blocked_by ImgSrc ImgSrc)
    ∷ [])
unfolding verdicts_on_literals
styles_and_images = refl
