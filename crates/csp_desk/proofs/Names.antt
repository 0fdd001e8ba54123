-- What is kept for each name stands at its place.
use Rattle.std.proofs.Common.{◌≡◌, ℕ, ◌+◌, arith, if◌then◌else◌, map, get_or, set}
use Rattle.csp_model.specs.declared.name.Name.{Name}
use Rattle.csp_desk.specs.NameOrder.{names_in_order, place_of, same_name}

-- a count for each name: those after that of one name is raised
pub set-place_of : (f : Name → ℕ) (name : Name) → set (map f names_in_order) (place_of name) (f name + 1)
    ≡ map (λ other. if same_name name other then f other + 1 else f other) names_in_order
set-place_of f name = grind arith
