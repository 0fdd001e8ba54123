-- What reporters tell one after the other is the text of their kinds and of what they hold.
use Rattle.std.proofs.Common.{◌≡◌, ◌∷◌, [], List, map, refl}
use Rattle.std.specs.List.{flat_map}
use Rattle.std.proofs.lemmas.List.Concat.{flat_map-cons}
use Rattle.csp_model.specs.declared.verdict.Violation.{Violation}
use Rattle.csp_desk.specs.Texts.{section, desk_text}
use Rattle.csp_desk.specs.declared.reporter.Kind.{Kind}

pub desk_text-map : {A : Type 0} (kind : A → Kind) (held : A → List Violation) (xs : List A)
    → flat_map (λ x. section (kind x) (held x)) xs ≡ desk_text (map kind xs) (map held xs)
desk_text-map kind held [] = refl
desk_text-map kind held (x ∷ xs) =
    rw (flat_map-cons (λ x. section (kind x) (held x)) x xs, desk_text-map kind held xs) refl
