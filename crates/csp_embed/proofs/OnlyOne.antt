-- What the only value of a list says, and a text that names an embedder.
use Rattle.std.proofs.Common.{◌≡◌, ◌∙◌, sym, ap, subst, refl, ℕ, List, [], ◌∷◌, ◌++◌, map, Bor, Option, Some, None, Ok, ok_or}
use Rattle.std.specs.Str.{IsUtf8}
use Rattle.csp_model.specs.declared.url.Origin.{Origin}
use Rattle.csp_url.specs.Origins.{origin_of}
use Rattle.csp_embed.specs.AllowFrom.{AreSameOrigin, Names, OnlyOneStandsFor, StandsFor}

abbrev pub bytes_of : Bor (List ℕ) → List ℕ
bytes_of value = value.now

-- a list of one value
pub one_stands : (values : List (Bor (List ℕ))) (value : Bor (List ℕ)) (all : List (List ℕ)) (embedder : Origin)
    → values ≡ value ∷ [] → map bytes_of values ≡ all
    → (OnlyOneStandsFor all embedder → StandsFor value.now embedder) × (StandsFor value.now embedder → OnlyOneStandsFor all embedder)
one_stands values value all embedder one is =
    let e : all ≡ value.now ∷ [] = sym is ∙ ap (map bytes_of) one in (
      λ stands. subst (λ (l : List (List ℕ)). OnlyOneStandsFor l embedder) e stands,
      λ stands. subst (λ (l : List (List ℕ)). OnlyOneStandsFor l embedder) (sym e) stands,
    )

several : (front : List (Bor (List ℕ))) (value : Bor (List ℕ)) (embedder : Origin) → (front ≡ [] → ⊥)
    → OnlyOneStandsFor (map bytes_of (front ++ value ∷ [])) embedder → ⊥
several [] value embedder more stands = more refl
several (v ∷ []) value embedder more stands = stands
several (v ∷ w ∷ front) value embedder more stands = stands

-- a list of more than one
pub none_stands : (values front : List (Bor (List ℕ))) (value : Bor (List ℕ)) (all : List (List ℕ)) (embedder : Origin)
    → values ≡ front ++ value ∷ [] → (front ≡ [] → ⊥) → map bytes_of values ≡ all → OnlyOneStandsFor all embedder → ⊥
none_stands values front value all embedder made more is stands =
    several front value embedder more
    (subst (λ (l : List (List ℕ)). OnlyOneStandsFor l embedder) (sym is ∙ ap (map bytes_of) made) stands)

-- and of none
pub nothing_stands : (values : List (Bor (List ℕ))) (all : List (List ℕ)) (embedder : Origin) → values ≡ []
    → map bytes_of values ≡ all → OnlyOneStandsFor all embedder → ⊥
nothing_stands values all embedder empty is stands =
    subst (λ (l : List (List ℕ)). OnlyOneStandsFor l embedder) (sym is ∙ ap (map bytes_of) empty) stands

read_as : {E : Type 0} (o : Option Origin) (e : E) (named : Origin) → ok_or o e ≡ Ok named → o ≡ Some named
read_as None e named h = absurd (cc h)
read_as (Some x) e named h = let same : x ≡ named = cc in ap Some same

-- a text that reads as this origin names the embedder where they are the same
pub names_where_same : {E : Type 0} (value text : List ℕ) (e : E) (named embedder : Origin) → text ≡ value → IsUtf8 value
    → ok_or (origin_of text) e ≡ Ok named
    → (AreSameOrigin named embedder → Names value embedder) × (Names value embedder → AreSameOrigin named embedder)
names_where_same value text e named embedder is utf8 read =
    let found : origin_of value ≡ Some named = ap origin_of (sym is) ∙ read_as (origin_of text) e named read in (
      λ same. record { utf8 = utf8; named = named; read = found; same = same },
      λ names. let one : names.named ≡ named = cc (sym names.read ∙ found) in
          subst (λ (o : Origin). AreSameOrigin o embedder) one names.same,
    )
