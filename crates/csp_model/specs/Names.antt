-- The names of directives, and what asks for which (Content Security Policy Level 3, sections 6.1 to 6.4,
-- 6.8.1 and 6.8.2).
use Rattle.std.specs.Prelude.{ℕ, List, Option, codes}
use Rattle.std.specs.List.{find}
use Rattle.std.specs.Str.{bytes_eq}
use Rattle.csp_model.specs.Types.{Name, Group, InlineKind, Capability, Disposition}
use Rattle.csp_model.specs.declared.name.Name.TheVariants.{ConnectSrc, FontSrc, FrameSrc, ImgSrc, ManifestSrc, MediaSrc, ObjectSrc, StyleSrcElem, ScriptSrcElem, WorkerSrc, ScriptSrcAttr, StyleSrcAttr, ScriptSrc, StyleSrc, ChildSrc, DefaultSrc, BaseUri, FormAction, FrameAncestors, Sandbox}
use Rattle.csp_model.specs.declared.check.TheConstants.Capability as every_capability
use Rattle.csp_model.specs.declared.check.TheConstants.InlineKind as every_kind
use Rattle.csp_model.specs.declared.name.TheConstants.Name as every_name
use Rattle.csp_model.specs.declared.policy.Disposition.TheVariants.{Enforce, Report}

-- all names, in the order of their texts
abbrev pub names : List Name
names = every_name.ALL

-- a name as it is written
abbrev pub name_text : Name → List ℕ
name_text ConnectSrc = codes "connect-src"
name_text FontSrc = codes "font-src"
name_text FrameSrc = codes "frame-src"
name_text ImgSrc = codes "img-src"
name_text ManifestSrc = codes "manifest-src"
name_text MediaSrc = codes "media-src"
name_text ObjectSrc = codes "object-src"
name_text StyleSrcElem = codes "style-src-elem"
name_text ScriptSrcElem = codes "script-src-elem"
name_text WorkerSrc = codes "worker-src"
name_text ScriptSrcAttr = codes "script-src-attr"
name_text StyleSrcAttr = codes "style-src-attr"
name_text ScriptSrc = codes "script-src"
name_text StyleSrc = codes "style-src"
name_text ChildSrc = codes "child-src"
name_text DefaultSrc = codes "default-src"
name_text BaseUri = codes "base-uri"
name_text FormAction = codes "form-action"
name_text FrameAncestors = codes "frame-ancestors"
name_text Sandbox = codes "sandbox"

-- the effective directive of a fetch
abbrev pub group_directive : Group → Name
group_directive Group.Connect = ConnectSrc
group_directive Group.Font = FontSrc
group_directive Group.Frame = FrameSrc
group_directive Group.Img = ImgSrc
group_directive Group.Manifest = ManifestSrc
group_directive Group.Media = MediaSrc
group_directive Group.Object = ObjectSrc
group_directive Group.StyleElem = StyleSrcElem
group_directive Group.ScriptElem = ScriptSrcElem
group_directive Group.Worker = WorkerSrc

abbrev pub inline_kinds : List InlineKind
inline_kinds = every_kind.ALL

-- the effective directive of inline code or style
abbrev pub inline_directive : InlineKind → Name
inline_directive InlineKind.Script = ScriptSrcElem
inline_directive InlineKind.ScriptAttribute = ScriptSrcAttr
inline_directive InlineKind.Style = StyleSrcElem
inline_directive InlineKind.StyleAttribute = StyleSrcAttr
inline_directive InlineKind.Navigation = ScriptSrcElem

-- a capability of a sandbox as it is written
abbrev pub capability_text : Capability → List ℕ
capability_text Capability.Forms = codes "forms"
capability_text Capability.Scripts = codes "scripts"
capability_text Capability.SameOrigin = codes "same-origin"
capability_text Capability.Popups = codes "popups"
capability_text Capability.PopupsToEscapeSandbox = codes "popups-to-escape-sandbox"
capability_text Capability.TopNavigation = codes "top-navigation"
capability_text Capability.TopNavigationByUserActivation = codes "top-navigation-by-user-activation"
capability_text Capability.Modals = codes "modals"
capability_text Capability.PointerLock = codes "pointer-lock"
capability_text Capability.OrientationLock = codes "orientation-lock"
capability_text Capability.Presentation = codes "presentation"
capability_text Capability.Downloads = codes "downloads"

abbrev pub capabilities : List Capability
capabilities = every_capability.ALL

-- the capability that is so written
abbrev pub capability_named : List ℕ → Option Capability
capability_named name = find (λ c. bytes_eq name (capability_text c)) capabilities

-- a disposition as it is written
abbrev pub disposition_text : Disposition → List ℕ
disposition_text Enforce = codes "enforce"
disposition_text Report = codes "report"
