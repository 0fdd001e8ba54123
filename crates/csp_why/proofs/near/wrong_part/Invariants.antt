use Rattle.std.proofs.Common.{◌≡◌, drop}
use Rattle.std.specs.List.{find}
use Rattle.csp_why.specs.Near as spec
use Rattle.csp_why.proofs.near.wrong_part.Given as goal

-- none of the parts so far is the one
abbrev pub invariant-loop-part : goal.invariant-loop-part
invariant-loop-part l =
    find (λ part. spec.some_matches (spec.changed part l.origin l.url l.source) l.origin l.url l.redirected) (drop l.part-index l.part-items)
    ≡ spec.wrong_part l.origin l.url l.redirected l.source
