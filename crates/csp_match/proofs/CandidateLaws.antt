-- Of the directives that can govern, the first of each name is the policy's.
use Rattle.std.proofs.Common.{◌≡◌, ℕ, ◌<◌, Bool, true, false, List, [], ◌∷◌, map, filter, get_or, length, Option, refl, ap, ◌∙◌, arith}
use Rattle.std.specs.List.{find}
use Rattle.std.specs.Option.{option_map}
use Rattle.std.proofs.lemmas.Bool.{false≢true}
use Rattle.csp_model.specs.Governing.{Governor, governor_named, is_named, fallbacks}
use Rattle.csp_model.specs.Names.{names}
use Rattle.csp_model.specs.Reading.{first_of}
use Rattle.csp_match.specs.Types.{Name, Directive}
use Rattle.csp_match.specs.Candidates.{can_govern, governor_among}
use Rattle.csp_model.proofs.NamesListed.{place, within, at_place}
use Rattle.csp_match.proofs.AnyLaws.{found}

-- a directive of one of the names can govern
can : (d : Directive) (name : Name) → is_named name d ≡ true → can_govern d ≡ true
unfolding can_govern
can d name named = found (λ n. is_named n d) names (place name) name (within name) (at_place name name) named

-- a search for what a test finds passes by what another test leaves out
kept : {X : Type 0} (p q : X → Bool) (x : X) (xs : List X) (a b : Bool) → p x ≡ a → q x ≡ b → (a ≡ true → b ≡ true)
    → find p (filter q xs) ≡ find p xs → find p (filter q (x ∷ xs)) ≡ find p (x ∷ xs)
kept p q x xs true true is also so rest = rw (also, is) refl
kept p q x xs true false is also so rest = absurd (false≢true (so refl))
kept p q x xs false true is also so rest = rw (also, is) rest
kept p q x xs false false is also so rest = rw (also, is) rest

find_kept : {X : Type 0} (p q : X → Bool) → ((x : X) → p x ≡ true → q x ≡ true) → (xs : List X)
    → find p (filter q xs) ≡ find p xs
find_kept p q so [] = refl
find_kept p q so (x ∷ xs) = kept p q x xs (p x) (q x) refl refl (so x) (find_kept p q so xs)

abbrev under : Name → Directive → Governor
under name d = record { name = name; directive = d }

-- the first directive of a name is one that can govern
pub first_named : (ds : List Directive) (name : Name) → governor_named (filter can_govern ds) name ≡ governor_named ds name
unfolding governor_named
first_named ds name =
    ap (option_map (under name))
    (find_kept (is_named name) can_govern (λ d. can d name) ds)

firsts : (ds : List Directive) (ns : List Name)
    → map (governor_named (filter can_govern ds)) ns ≡ map (governor_named ds) ns
firsts ds [] = refl
firsts ds (n ∷ ns) =
    ap (λ (o : Option Governor). o ∷ map (governor_named (filter can_govern ds)) ns) (first_named ds n)
    ∙ ap (λ (os : List (Option Governor)). governor_named ds n ∷ os) (firsts ds ns)

-- what governs of those that can govern, of the policy's directives
pub among_all : (ds : List Directive) (effective : Name)
    → governor_among (filter can_govern ds) effective ≡ governor_among ds effective
among_all ds effective = ap first_of (firsts ds (fallbacks effective))
