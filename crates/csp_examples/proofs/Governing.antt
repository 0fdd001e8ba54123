-- Which directive governs, and its place.
use Rattle.std.proofs.Common.{◌≡◌, ℕ, List, [], ◌∷◌, Option, map, Some, None, refl}
use Rattle.std.specs.Prelude.{codes}
use Rattle.std.specs.Option.{option_map}
use Rattle.csp_model.specs.Governing.{Governor, governor, governing_place}
use Rattle.csp_model.specs.Policies.{directives_of}
use Rattle.csp_examples.proofs.OnLiterals.{verdicts_on_literals}
use Rattle.csp_examples.proofs.Values.{policy_with}
use Rattle.csp_model.specs.declared.name.Name.{Name}
use Rattle.csp_model.specs.declared.name.Name.TheVariants.{WorkerSrc, FrameSrc, StyleSrcAttr, ScriptSrcElem, ImgSrc, BaseUri, ScriptSrc, ChildSrc, DefaultSrc}

-- a policy, the directive that is asked for, and the name and the place of the one that governs
pub record Case : Type 0 where
  pub value : List ℕ
  pub effective : Name
  pub governing : Option (Name × ℕ)

abbrev case : List ℕ → Name → Option (Name × ℕ) → Case
case value effective governing = record { value = value; effective = effective; governing = governing }

abbrev cases : List Case
cases =
    -- child-src goes before script-src, which governs workers too
    case (codes "default-src; script-src; child-src") WorkerSrc (Some (ChildSrc, 2))
    ∷ case (codes "default-src; script-src") WorkerSrc (Some (ScriptSrc, 1))
    ∷ case (codes "default-src; child-src") FrameSrc (Some (ChildSrc, 1))
    -- its own name goes first, and default-src comes last
    ∷ case (codes "default-src; script-src; script-src-elem") ScriptSrcElem (Some (ScriptSrcElem, 2))
    ∷ case (codes "default-src; script-src") StyleSrcAttr (Some (DefaultSrc, 0))
    -- script-src is nothing to images, and default-src nothing to base-uri
    ∷ case (codes "script-src") ImgSrc None
    ∷ case (codes "default-src") BaseUri None
    ∷ []

-- the name and the place of what governs
abbrev name_by : Case → Option Name
name_by c = option_map (λ (g : Governor). g.name) (governor (policy_with (directives_of c.value)) c.effective)

abbrev place_by : Case → Option ℕ
place_by c = governing_place (policy_with (directives_of c.value)) c.effective

pub names : map name_by cases ≡ map (λ (c : Case). option_map (λ (g : Name × ℕ). g.0) c.governing) cases
unfolding verdicts_on_literals
names = refl

pub places : map place_by cases ≡ map (λ (c : Case). option_map (λ (g : Name × ℕ). g.1) c.governing) cases
unfolding verdicts_on_literals
places = refl
