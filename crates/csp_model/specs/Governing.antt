-- Which directive of a policy governs a check (Content Security Policy Level 3, sections 6.8.3 and 6.8.4).
use Rattle.std.specs.Prelude.{ℕ, Bool, List, [], ◌∷◌, map, position, Option, ⊤}
use Rattle.std.specs.List.{find}
use Rattle.std.specs.Option.{option_map, MatchOption}
use Rattle.std.specs.Str.{bytes_eq}
use Rattle.csp_model.specs.Names.{name_text}
use Rattle.csp_model.specs.Reading.{first_of}
use Rattle.csp_model.specs.Types.{Name, Directive, Policy}
use Rattle.csp_model.specs.declared.name.Name.TheVariants.{ConnectSrc, FontSrc, FrameSrc, ImgSrc, ManifestSrc, MediaSrc, ObjectSrc, StyleSrcElem, ScriptSrcElem, WorkerSrc, ScriptSrcAttr, StyleSrcAttr, ScriptSrc, StyleSrc, ChildSrc, DefaultSrc, BaseUri, FormAction, FrameAncestors, Sandbox}

-- the names that may govern, the first one that the policy has before the others
abbrev pub fallbacks : Name → List Name
fallbacks ConnectSrc = ConnectSrc ∷ DefaultSrc ∷ []
fallbacks FontSrc = FontSrc ∷ DefaultSrc ∷ []
fallbacks FrameSrc = FrameSrc ∷ ChildSrc ∷ DefaultSrc ∷ []
fallbacks ImgSrc = ImgSrc ∷ DefaultSrc ∷ []
fallbacks ManifestSrc = ManifestSrc ∷ DefaultSrc ∷ []
fallbacks MediaSrc = MediaSrc ∷ DefaultSrc ∷ []
fallbacks ObjectSrc = ObjectSrc ∷ DefaultSrc ∷ []
fallbacks StyleSrcElem = StyleSrcElem ∷ StyleSrc ∷ DefaultSrc ∷ []
fallbacks ScriptSrcElem = ScriptSrcElem ∷ ScriptSrc ∷ DefaultSrc ∷ []
fallbacks WorkerSrc = WorkerSrc ∷ ChildSrc ∷ ScriptSrc ∷ DefaultSrc ∷ []
fallbacks ScriptSrcAttr = ScriptSrcAttr ∷ ScriptSrc ∷ DefaultSrc ∷ []
fallbacks StyleSrcAttr = StyleSrcAttr ∷ StyleSrc ∷ DefaultSrc ∷ []
fallbacks ScriptSrc = ScriptSrc ∷ DefaultSrc ∷ []
fallbacks StyleSrc = StyleSrc ∷ DefaultSrc ∷ []
fallbacks ChildSrc = ChildSrc ∷ DefaultSrc ∷ []
fallbacks DefaultSrc = DefaultSrc ∷ []
fallbacks BaseUri = BaseUri ∷ []
fallbacks FormAction = FormAction ∷ []
fallbacks FrameAncestors = FrameAncestors ∷ []
fallbacks Sandbox = Sandbox ∷ []

-- a directive that governs, and the name under which it does
pub record Governor : Type 0 where
  pub name : Name
  pub directive : Directive

abbrev pub is_named : Name → Directive → Bool
is_named name d = bytes_eq d.name (name_text name)

-- the first directive of a name
unfoldable pub governor_named : List Directive → Name → Option Governor
governor_named directives name =
    option_map (λ d. record { name = name; directive = d }) (find (is_named name) directives)

-- what governs: of the first name that the policy has the first directive, and no other is looked at
abbrev pub governor : Policy → Name → Option Governor
governor policy effective = first_of (map (governor_named policy.directives) (fallbacks effective))

-- the place of the first directive of a name
unfoldable pub place_of_name : List Directive → Name → Option ℕ
place_of_name directives name = position (is_named name) directives

-- the place of the directive that governs
abbrev pub governing_place : Policy → Name → Option ℕ
governing_place policy effective = first_of (map (place_of_name policy.directives) (fallbacks effective))

-- P of what governs; where nothing does, the policy allows
abbrev pub WhereGoverned : Policy → Name → (Governor → Type 0) → Type 0
WhereGoverned policy effective P = MatchOption (governor policy effective) ⊤ P
