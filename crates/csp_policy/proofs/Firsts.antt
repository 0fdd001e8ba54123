-- The first directives of a list to which one more is added at its end.
use Rattle.std.proofs.Common.{arith, ◌≡◌, ◌∙◌, sym, ap, refl, ℕ, Bool, true, false, ◌&&◌, not, List, [], ◌∷◌, ◌++◌, append-nil, Bor, map, Some, None}
use Rattle.std.specs.List.{filter, filter_map, cons_option}
use Rattle.std.specs.Str.{bytes_eq}
use Rattle.std.proofs.lemmas.Grind.{common_steps}
use Rattle.std.proofs.lemmas.List.{map_push}
use Rattle.std.proofs.lemmas.List.Elements.{filter-append, filter_map-append}
use Rattle.std.proofs.lemmas.Slice.Eq.{bytes_eq-Decides}
use Rattle.csp_model.specs.Policies.{directive_of, firsts, same_name}
use Rattle.csp_policy.specs.Types.{Directive}
use Rattle.csp_policy.specs.Fates.{has_name}
use Rattle.csp_policy.specs.Room.{if_first}

-- the directives of these pieces
abbrev pub found : List (Bor (List ℕ)) → List Directive
found pieces = filter_map directive_of (map (λ x. x.now) pieces)

abbrev pub is_new : List Directive → Directive → Bool
is_new ds e = not (has_name e.name ds)

abbrev is_other : Directive → Directive → Bool
is_other x e = not (same_name e x)

filter_twice : {X : Type 0} (p q r : X → Bool) → ((x : X) → r x ≡ (p x && q x)) → (xs : List X) → filter p (filter q xs) ≡ filter r xs
filter_twice p q r h [] = refl
filter_twice p q r h (x ∷ xs) = grind (arith, common_steps, h x, filter_twice p q r h xs)

-- what has another name than x has not the name of what has x's
apart : (d e x : Directive) → same_name d x ≡ false → same_name e x ≡ true → same_name d e ≡ false
apart d e x h k = elim (same_name d e) as (λ b. same_name d e ≡ b → b ≡ false) [
  | true ↦ λ same. let moved : same_name d x ≡ same_name e x = ap (λ name. bytes_eq name x.name) ((bytes_eq-Decides d.name e.name).0 same) in cc
  | false ↦ λ other. refl
] refl

-- directives of another name are not looked at
name_apart : (d x : Directive) → same_name d x ≡ false → (ds : List Directive) → has_name d.name (filter (is_other x) ds) ≡ has_name d.name ds
name_apart d x h [] = refl
name_apart d x h (e ∷ ds) = grind (arith, common_steps, apart d e x h, name_apart d x h ds)

new_more : (x : Directive) (ds : List Directive) (e : Directive) → is_new (x ∷ filter (is_other x) ds) e ≡ (is_other x e && is_new ds e)
new_more x ds e = elim (same_name e x) as (λ b. same_name e x ≡ b → is_new (x ∷ filter (is_other x) ds) e ≡ (is_other x e && is_new ds e)) [
  | true ↦ λ h. grind (arith, common_steps, h)
  | false ↦ λ h. grind (arith, common_steps, h, name_apart e x h ds)
] refl

firsts_more : (ds : List Directive) (d : Directive) → firsts (ds ++ d ∷ []) ≡ firsts ds ++ filter (is_new (firsts ds)) (d ∷ [])
firsts_more [] d = refl
firsts_more (x ∷ ds) d = ap (λ kept. x ∷ kept) (ap (filter (is_other x)) (firsts_more ds d)
    ∙ filter-append (is_other x) (firsts ds) (filter (is_new (firsts ds)) (d ∷ []))
    ∙ ap (λ kept. filter (is_other x) (firsts ds) ++ kept)
    (filter_twice (is_other x) (is_new (firsts ds)) (is_new (firsts (x ∷ ds))) (new_more x (firsts ds)) (d ∷ [])))

-- one more directive, which is the first of its name or counts for nothing
pub firsts_push : (ds : List Directive) (d : Directive) (is_first : Bool) → is_first ≡ is_new (firsts ds) d → firsts (ds ++ d ∷ []) ≡ firsts ds ++ if_first is_first d
firsts_push ds d is_first h = firsts_more ds d ∙ ap (λ b. firsts ds ++ if_first b d) (sym h)

-- one more piece
pub found_more : (pieces : List (Bor (List ℕ))) (piece : Bor (List ℕ)) → found (pieces ++ piece ∷ []) ≡ found pieces ++ cons_option (directive_of piece.now) []
found_more pieces piece = ap (filter_map directive_of) (map_push (λ (x : Bor (List ℕ)). x.now) pieces piece)
    ∙ filter_map-append directive_of (map (λ (x : Bor (List ℕ)). x.now) pieces) (piece.now ∷ [])

pub found_none : (pieces : List (Bor (List ℕ))) (piece : Bor (List ℕ)) → directive_of piece.now ≡ None → found (pieces ++ piece ∷ []) ≡ found pieces
found_none pieces piece h = found_more pieces piece ∙ ap (λ o. found pieces ++ cons_option o []) h ∙ append-nil (found pieces)

pub found_some : (pieces : List (Bor (List ℕ))) (piece : Bor (List ℕ)) (d : Directive) → directive_of piece.now ≡ Some d → found (pieces ++ piece ∷ []) ≡ found pieces ++ d ∷ []
found_some pieces piece d h = found_more pieces piece ∙ ap (λ o. found pieces ++ cons_option o []) h
