use Rattle.std.proofs.Common.{◌≡◌, map, drop}
use Rattle.csp_model.specs.Governing as spec
use Rattle.csp_model.specs.Reading.{first_of}
use Rattle.csp_match.proofs.fallback.governing.Given as goal

-- none of the names so far is there
abbrev pub invariant-loop-name : goal.invariant-loop-name
invariant-loop-name l =
    first_of (map (spec.place_of_name l.policy.directives) (drop l.name-index l.name-items))
    ≡ spec.governing_place l.policy l.fn.effective
