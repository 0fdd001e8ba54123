use Rattle.std.proofs.Common.{◌≡◌, map, drop}
use Rattle.csp_match.specs.Candidates as candidates
use Rattle.csp_model.specs.Governing as spec
use Rattle.csp_model.specs.Reading.{first_of}
use Rattle.csp_match.proofs.candidates.governor_among.Given as goal

-- none of the names so far is there
abbrev pub invariant-loop-name : goal.invariant-loop-name
invariant-loop-name l =
    first_of (map (spec.governor_named (map (λ d. d.now) l.directives)) (drop l.name-index l.name-items))
    ≡ candidates.governor_among (map (λ d. d.now) l.directives) l.fn.effective
