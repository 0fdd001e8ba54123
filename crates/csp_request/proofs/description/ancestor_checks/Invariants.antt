use Rattle.std.proofs.Common.{◌≡◌, drop, map, ◌++◌, All}
use Rattle.csp_json.specs.View.{view}
use Rattle.csp_model.specs.Validity.{IsValidCheck}
use Rattle.csp_request.specs.Members.{each, found_map}
use Rattle.csp_request.specs.Described.{ancestor}
use Rattle.csp_request.proofs.description.ancestor_checks.Given as goal

abbrev pub invariant-loop-item : goal.invariant-loop-item
invariant-loop-item l = record {
  ancestors : each ancestor l.field (map view l.items)
      ≡ found_map (λ more. l.checks ++ more) (each ancestor l.field (map view (drop l.item-index l.items)));
  valid : All IsValidCheck l.checks;
}
