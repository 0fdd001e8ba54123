use Rattle.std.proofs.Common.{◌≡◌, drop, map, ◌++◌}
use Rattle.csp_json.specs.View.{view}
use Rattle.csp_request.specs.Members.{each, found_map}
use Rattle.csp_request.specs.Described.{attribute}
use Rattle.csp_request.proofs.element.attributes.Given as goal

abbrev pub invariant-loop-item : goal.invariant-loop-item
invariant-loop-item l =
    each attribute l.field (map view l.items)
    ≡ found_map (λ more. l.found ++ more) (each attribute l.field (map view (drop l.item-index l.items)))
