-- A realistic header block, and twelve verdicts by it.
use Rattle.std.proofs.Common.{◌≡◌, ◌∙◌, refl, ℕ, [], ◌∷◌, ◌++◌, false, Some, List, map, ap}
use Rattle.std.specs.Prelude.{codes}
use Rattle.csp_examples.proofs.OnLiterals.{policies_on_literals, verdicts_on_literals}
use Rattle.csp_examples.proofs.Values.{own, at, elsewhere, image, script, enforced, reported, allowed, allowed_with, blocked_with, blocked_by}
use Rattle.csp_model.specs.Policies.{policies}
use Rattle.csp_model.specs.Verdict.{verdict_of}
use Rattle.csp_model.specs.declared.check.Check.{Check}
use Rattle.csp_model.specs.declared.check.Check.TheVariants as check
use Rattle.csp_model.specs.declared.check.Digests.{Digests}
use Rattle.csp_model.specs.declared.check.Group.TheVariants as group
use Rattle.csp_model.specs.declared.check.InlineKind.TheVariants as kind
use Rattle.csp_model.specs.declared.name.Name.TheVariants.{ScriptSrcElem, DefaultSrc, ImgSrc, ScriptSrc, ConnectSrc, StyleSrcElem, FrameAncestors}
use Rattle.csp_model.specs.declared.url.Scheme.TheVariants.{Https, Wss}
use Rattle.csp_model.specs.declared.url.Host.TheVariants as host
use Rattle.csp_model.specs.declared.url.Url.{Url}
use Rattle.csp_model.specs.declared.url.Url.TheVariants as url
use Rattle.csp_model.specs.declared.policy.Directive.{Directive}
use Rattle.csp_model.specs.declared.policy.Disposition.TheVariants.{Enforce, Report}
use Rattle.csp_model.specs.declared.policy.Policy.{Policy}
use Rattle.csp_model.specs.declared.source.HostPart.TheVariants as host_part
use Rattle.csp_model.specs.declared.source.PortPart.TheVariants as port_part
use Rattle.csp_model.specs.declared.source.PathPart.TheVariants as path_part
use Rattle.csp_model.specs.declared.source.Keyword.TheVariants as keyword
use Rattle.csp_model.specs.declared.source.Source.{Source}
use Rattle.csp_model.specs.declared.source.Source.TheVariants as source
use Rattle.csp_model.specs.declared.verdict.Verdict.{Verdict}

abbrev bytes : List ℕ
bytes = codes "HTTP/2 200\r\ncontent-type: text/html\r\ncontent-security-policy: default-src 'self'; "
    ++ (codes "script-src 'self' 'nonce-R4nd0m' https://cdn.example.net https://*.analytics.example; "
    ++ (codes "style-src 'self' 'unsafe-inline' https://fonts.example.net; img-src 'self' data: https:; "
    ++ (codes "font-src https://fonts.example.net; "
    ++ (codes "connect-src 'self' https://api.a.example:8443/v1/ wss://live.a.example; "
    ++ (codes "frame-src https://video.example.net/embed/; frame-ancestors 'none'; "
    ++ (codes "base-uri 'self'; form-action 'self'; object-src 'none'; report-uri /csp\r\n"
    ++ codes "content-security-policy-report-only: default-src https:\r\n\r\n"))))))

-- tokens, each with what it stands for
abbrev directive : List ℕ → List (List ℕ × Source) → Directive
directive name values = record {
  name = name;
  tokens = map (λ (v : List ℕ × Source). v.0) values;
  sources = map (λ (v : List ℕ × Source). v.1) values;
}

abbrev self : List ℕ × Source
self = (codes "'self'", source.Word keyword.SelfOrigin)

abbrev none : List ℕ × Source
none = (codes "'none'", source.Other (codes "'none'"))

-- a scheme alone
abbrev all : List ℕ → List ℕ × Source
all scheme = (scheme ++ codes ":", source.SchemeOnly scheme)

-- https:// and a domain
abbrev secure : List ℕ → List ℕ × Source
secure name = (
  codes "https://" ++ name,
  source.Hosted (Some (codes "https")) (host_part.Exact name) port_part.Absent path_part.Absent,
)

abbrev enforced_directives : List Directive
enforced_directives =
    directive (codes "default-src") (self ∷ [])
    ∷ directive (codes "script-src") (self
    ∷ (codes "'nonce-R4nd0m'", source.Nonce (codes "R4nd0m"))
    ∷ secure (codes "cdn.example.net")
    ∷ (
      codes "https://*.analytics.example",
      source.Hosted (Some (codes "https")) (host_part.Under (codes "analytics.example"))
          port_part.Absent path_part.Absent,
    ) ∷ [])
    ∷ directive (codes "style-src") (self
    ∷ (codes "'unsafe-inline'", source.Word keyword.UnsafeInline) ∷ secure (codes "fonts.example.net") ∷ [])
    ∷ directive (codes "img-src") (self ∷ all (codes "data") ∷ all (codes "https") ∷ [])
    ∷ directive (codes "font-src") (secure (codes "fonts.example.net") ∷ [])
    ∷ directive (codes "connect-src") (self
    ∷ (
      codes "https://api.a.example:8443/v1/",
      source.Hosted (Some (codes "https")) (host_part.Exact (codes "api.a.example")) (port_part.Number 8443)
          (path_part.Prefix (codes "v1" ∷ [])),
    )
    ∷ (
      codes "wss://live.a.example",
      source.Hosted (Some (codes "wss")) (host_part.Exact (codes "live.a.example"))
          port_part.Absent path_part.Absent,
    ) ∷ [])
    ∷ directive (codes "frame-src") ((
      codes "https://video.example.net/embed/",
      source.Hosted (Some (codes "https")) (host_part.Exact (codes "video.example.net")) port_part.Absent
          (path_part.Prefix (codes "embed" ∷ [])),
    ) ∷ [])
    ∷ directive (codes "frame-ancestors") (none ∷ [])
    ∷ directive (codes "base-uri") (self ∷ [])
    ∷ directive (codes "form-action") (self ∷ [])
    ∷ directive (codes "object-src") (none ∷ [])
    ∷ directive (codes "report-uri") ((codes "/csp", source.Other (codes "/csp")) ∷ []) ∷ []

abbrev realistic : List Policy
realistic =
    record { disposition = Enforce; meta = false; origin = own; directives = enforced_directives }
    ∷ record {
      disposition = Report;
      meta = false;
      origin = own;
      directives = directive (codes "default-src") (all (codes "https") ∷ []) ∷ [];
    } ∷ []

pub the_block_is_read : policies bytes own ≡ realistic
unfolding policies_on_literals
the_block_is_read = refl

-- checks, each with its verdict

abbrev connection : Url → Check
connection there = check.Fetch group.Connect there 0 [] [] false

abbrev api : List (List ℕ) → Url
api path = url.Hosted Https (host.Domain (codes "api.a.example")) (Some 8443) path

abbrev cases : Digests → List (Check × Verdict)
cases digests =
    (image (url.Plain (codes "data")), allowed_with (reported 1 ImgSrc DefaultSrc ∷ []))
    -- scripts of a host that is named, of another one, and with the nonce
    ∷ (script (at Https (codes "cdn.example.net") (codes "a.js" ∷ [])), allowed)
    ∷ (script elsewhere, blocked_by ScriptSrcElem ScriptSrc)
    ∷ (check.Fetch group.ScriptElem elsewhere 0 (codes "R4nd0m") [] false, allowed)
    -- connections below the folder, beside it, and by a web socket
    ∷ (connection (api (codes "v1" ∷ codes "users" ∷ [])), allowed)
    ∷ (connection (api (codes "v2" ∷ [])), blocked_by ConnectSrc ConnectSrc)
    ∷ (
      connection (at Wss (codes "live.a.example") ([] ∷ [])),
      allowed_with (reported 1 ConnectSrc DefaultSrc ∷ []),
    )
    -- inline style, and an inline script with the nonce
    ∷ (check.Inline kind.Style [] digests, allowed_with (reported 1 StyleSrcElem DefaultSrc ∷ []))
    ∷ (
      check.Inline kind.Script (codes "R4nd0m") digests,
      allowed_with (reported 1 ScriptSrcElem DefaultSrc ∷ []),
    )
    -- compilation of a string
    ∷ (check.Eval, blocked_with (enforced 0 ScriptSrc ScriptSrc ∷ reported 1 ScriptSrc DefaultSrc ∷ []))
    -- a frame below the folder, and an ancestor
    ∷ (
      check.Fetch group.Frame (at Https (codes "video.example.net") (codes "embed" ∷ codes "7" ∷ [])) 0 [] []
          false,
      allowed,
    )
    ∷ (check.Ancestor (at Https (codes "p.example") ([] ∷ [])), blocked_by FrameAncestors FrameAncestors)
    ∷ []

-- the verdicts by some policies, and those that are wanted
abbrev verdicts_by : List Policy → Digests → List Verdict
verdicts_by ps digests =
    map (λ (c : Check × Verdict). verdict_of (record { policies = ps }) (c.0 ∷ [])) (cases digests)

abbrev wanted : Digests → List Verdict
wanted digests = map (λ (c : Check × Verdict). c.1) (cases digests)

by_realistic : (digests : Digests) → verdicts_by realistic digests ≡ wanted digests
unfolding verdicts_on_literals
by_realistic digests = refl

-- whatever the digests
pub each_has_its_verdict : (digests : Digests) → verdicts_by (policies bytes own) digests ≡ wanted digests
each_has_its_verdict digests =
    ap (λ (ps : List Policy). verdicts_by ps digests) the_block_is_read ∙ by_realistic digests
