use Rattle.std.proofs.Common.{◌≡◌, ℕ, List, ◌∷◌, [], IsTrue, refl}
use Rattle.std.specs.List.{list_all}
use Rattle.csp_model.specs.Validity.{is_piece}
use Rattle.csp_request.proofs.description.origin_url.Goals as goal

empty_piece : IsTrue (list_all is_piece ([] ∷ []))
unfolding is_piece
empty_piece = refl

not_none : (path : List (List ℕ)) → path ≡ [] ∷ [] → path ≡ [] → ⊥
not_none path one none = cc

pub returns-clause-valid : goal.returns-clause-valid
returns-clause-valid c =
    let one : c.push.new.self ≡ [] ∷ [] = rw (c.in_ok-push-in-Hosted.ensures.ok, c.in_ok-path-in-Hosted.ensures) refl in
    let valid = rw c.in-Hosted.is at c.requires in
    (valid.0, valid.1, not_none c.push.new.self one, rw one empty_piece)
