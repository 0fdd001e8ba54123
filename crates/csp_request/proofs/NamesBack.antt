-- What is printed by its name is read by it.
use Rattle.std.proofs.Common.{◌≡◌, refl, Some}
use Rattle.csp_model.specs.Names.{capability_text, capability_named}
use Rattle.csp_model.specs.declared.check.Capability.{Capability}
use Rattle.csp_model.specs.declared.check.Capability.TheVariants as capability
use Rattle.csp_model.specs.declared.check.Group.{Group}
use Rattle.csp_model.specs.declared.check.Group.TheVariants as group
use Rattle.csp_model.specs.declared.check.InlineKind.{InlineKind}
use Rattle.csp_model.specs.declared.check.InlineKind.TheVariants as inline
use Rattle.csp_model.specs.Destinations.{destination_text, destination_named, group_of}
use Rattle.csp_request.specs.Kinds.{inline_text, inline_named}
use Rattle.csp_request.specs.Printed.{destination_for}

pub capability_back : (which : Capability) → capability_named (capability_text which) ≡ Some which
capability_back capability.Forms = refl
capability_back capability.Scripts = refl
capability_back capability.SameOrigin = refl
capability_back capability.Popups = refl
capability_back capability.PopupsToEscapeSandbox = refl
capability_back capability.TopNavigation = refl
capability_back capability.TopNavigationByUserActivation = refl
capability_back capability.Modals = refl
capability_back capability.PointerLock = refl
capability_back capability.OrientationLock = refl
capability_back capability.Presentation = refl
capability_back capability.Downloads = refl

pub inline_back : (which : InlineKind) → inline_named (inline_text which) ≡ Some which
inline_back inline.Script = refl
inline_back inline.ScriptAttribute = refl
inline_back inline.Style = refl
inline_back inline.StyleAttribute = refl
inline_back inline.Navigation = refl

pub destination_back : (g : Group)
    → destination_named (destination_text (destination_for g)) ≡ Some (destination_for g)
destination_back group.Connect = refl
destination_back group.Font = refl
destination_back group.Frame = refl
destination_back group.Img = refl
destination_back group.Manifest = refl
destination_back group.Media = refl
destination_back group.Object = refl
destination_back group.StyleElem = refl
destination_back group.ScriptElem = refl
destination_back group.Worker = refl

-- a group is that of the destination that stands for it
pub group_back : (g : Group) → group_of (destination_for g) ≡ Some g
group_back group.Connect = refl
group_back group.Font = refl
group_back group.Frame = refl
group_back group.Img = refl
group_back group.Manifest = refl
group_back group.Media = refl
group_back group.Object = refl
group_back group.StyleElem = refl
group_back group.ScriptElem = refl
group_back group.Worker = refl
