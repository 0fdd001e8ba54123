use Rattle.std.proofs.Common.{◌≡◌, take}
use Rattle.csp_match.proofs.fronts.shared_length.Given as goal

-- the bytes so far are the same
abbrev pub invariant-loop-at : goal.invariant-loop-at
invariant-loop-at l = take l.at l.one ≡ take l.at l.other
