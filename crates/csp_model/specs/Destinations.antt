-- Destinations of requests (Fetch Standard, section 2.2.5; Content Security Policy Level 3, section 6.8.1).
use Rattle.std.specs.Prelude.{ℕ, List, [], ◌∷◌, Option, Some, None, codes}
use Rattle.std.specs.List.{find}
use Rattle.std.specs.Str.{bytes_eq}
use Rattle.csp_model.specs.Types.{Group, Destination}
use Rattle.csp_model.specs.declared.destination.Destination.TheVariants.{Empty, Manifest, Object, Embed, Frame, Iframe, Audio, Track, Video, Font, Image, Style, Script, Audioworklet, Paintworklet, Worker, Serviceworker, Sharedworker, Report}

-- a destination as it is written
abbrev pub destination_text : Destination → List ℕ
destination_text Empty = []
destination_text Manifest = codes "manifest"
destination_text Object = codes "object"
destination_text Embed = codes "embed"
destination_text Frame = codes "frame"
destination_text Iframe = codes "iframe"
destination_text Audio = codes "audio"
destination_text Track = codes "track"
destination_text Video = codes "video"
destination_text Font = codes "font"
destination_text Image = codes "image"
destination_text Style = codes "style"
destination_text Script = codes "script"
destination_text Audioworklet = codes "audioworklet"
destination_text Paintworklet = codes "paintworklet"
destination_text Worker = codes "worker"
destination_text Serviceworker = codes "serviceworker"
destination_text Sharedworker = codes "sharedworker"
destination_text Report = codes "report"

abbrev pub destinations : List Destination
destinations = Empty ∷ Manifest ∷ Object ∷ Embed ∷ Frame ∷ Iframe ∷ Audio ∷ Track ∷ Video ∷ Font ∷ Image
    ∷ Style ∷ Script ∷ Audioworklet ∷ Paintworklet ∷ Worker ∷ Serviceworker ∷ Sharedworker ∷ Report ∷ []

-- the destination that is so written
abbrev pub destination_named : List ℕ → Option Destination
destination_named name = find (λ d. bytes_eq name (destination_text d)) destinations

-- the group of its fetches; a report has none
abbrev pub group_of : Destination → Option Group
group_of Empty = Some Group.Connect
group_of Manifest = Some Group.Manifest
group_of Object = Some Group.Object
group_of Embed = Some Group.Object
group_of Frame = Some Group.Frame
group_of Iframe = Some Group.Frame
group_of Audio = Some Group.Media
group_of Track = Some Group.Media
group_of Video = Some Group.Media
group_of Font = Some Group.Font
group_of Image = Some Group.Img
group_of Style = Some Group.StyleElem
group_of Script = Some Group.ScriptElem
group_of Audioworklet = Some Group.ScriptElem
group_of Paintworklet = Some Group.ScriptElem
group_of Worker = Some Group.Worker
group_of Serviceworker = Some Group.Worker
group_of Sharedworker = Some Group.Worker
group_of Report = None
