use Rattle.std.proofs.Common.{◌≡◌, ◌∷◌, [], map, ◌++◌, All}
use Rattle.std.specs.Vec.Iter.{into_iter_items}
use Rattle.csp_model.specs.Validity.{IsValidCheck}
use Rattle.csp_request.specs.Described.{fetch_check}
use Rattle.csp_request.specs.Hops.{IsValidHop}
use Rattle.csp_request.proofs.fetch.fetch_checks.Given as goal

-- the checks so far and those of the hops that are left, of which the last stands aside
abbrev pub invariant-loop-hop : goal.invariant-loop-hop
invariant-loop-hop l = record {
  checks : map (fetch_check l.group l.options) l.fn.hops
      ≡ l.checks ++ map (fetch_check l.group l.options) (into_iter_items l.hop-iterator ++ l.last ∷ []);
  valid : All IsValidCheck l.checks;
  left : All IsValidHop (into_iter_items l.hop-iterator);
  last : IsValidHop l.last;
}
