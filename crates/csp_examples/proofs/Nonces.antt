-- The nonces of elements.
use Rattle.std.proofs.Common.{◌≡◌, ℕ, Bool, true, false, List, [], ◌∷◌, All, map, subst, refl}
use Rattle.std.specs.Prelude.{codes}
use Rattle.std.proofs.lemmas.List.Elements.{All-cons, All-nil}
use Rattle.csp_model.specs.DecideNonces.{element_nonce}
use Rattle.csp_model.specs.Inline.{IsElementNonce}
use Rattle.csp_model.proofs.NoncesDecided.{has_nonce}

-- an element, with or without a duplicate attribute, and its nonce
record Element : Type 0 where
  tag : List ℕ
  attributes : List (List ℕ × List ℕ)
  duplicate : Bool
  nonce : List ℕ

abbrev element : List ℕ → List (List ℕ × List ℕ) → Bool → List ℕ → Element
element tag attributes duplicate nonce =
    record { tag = tag; attributes = attributes; duplicate = duplicate; nonce = nonce }

abbrev HasIts : Element → Type 0
HasIts e = IsElementNonce e.tag e.attributes e.duplicate e.nonce

abbrev found : Element → List ℕ
found e = element_nonce e.tag e.attributes e.duplicate

each_has : (es : List Element) → map found es ≡ map (λ (e : Element). e.nonce) es → All HasIts es
each_has [] same = All-nil HasIts
each_has (e ∷ es) same =
    let here : found e ≡ e.nonce = cc in
    let later : map found es ≡ map (λ (x : Element). x.nonce) es = cc in
    All-cons HasIts e es
    (subst (IsElementNonce e.tag e.attributes e.duplicate) here (has_nonce e.tag e.attributes e.duplicate))
    (each_has es later)

-- a nonce, and another attribute
abbrev nonce : List ℕ × List ℕ
nonce = (codes "nonce", codes "R4nd0m")

abbrev source : List ℕ × List ℕ
source = (codes "src", codes "a.js")

abbrev elements : List Element
elements =
    element (codes "script") (source ∷ nonce ∷ []) false (codes "R4nd0m")
    ∷ element (codes "script") (source ∷ []) false []
    -- the first of two
    ∷ element (codes "style") (nonce ∷ (codes "nonce", codes "b") ∷ []) false (codes "R4nd0m")
    -- a duplicate attribute takes it
    ∷ element (codes "script") (nonce ∷ []) true []
    -- and so does an attribute of a script that begins another element
    ∷ element (codes "script") (nonce ∷ (codes "x", codes "y<SCRIPT z") ∷ []) false []
    ∷ element (codes "script") ((codes "<style", []) ∷ nonce ∷ []) false []
    -- but not of a style element
    ∷ element (codes "style") (nonce ∷ (codes "x", codes "<script") ∷ []) false (codes "R4nd0m")
    ∷ []

pub each_element_has_its_nonce : All HasIts elements
each_element_has_its_nonce = each_has elements refl
