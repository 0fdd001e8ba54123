use Rattle.std.proofs.Common.{◌≡◌, ◌+◌, List, length}
use Rattle.csp_model.specs.declared.verdict.Described.{Described}
use Rattle.csp_token.specs.Digests.{digests_of}
use Rattle.csp_request.specs.Requests.{each_from, request_limit, still}
use Rattle.csp_request.proofs.RequestTurns.{before_rest}
use Rattle.csp_request.proofs.taking.each_left.Given as goal

-- what was taken so far stands before what the others give
abbrev pub invariant-requests : goal.invariant-requests
invariant-requests g l = record {
  taken : (taken : List Described)
      × g.T.Take.Took l.fn.taker taken l.taker
      × (l.number ≡ length taken)
      × (each_from digests_of 1 (still l.initial.requests)
      ≡ before_rest taken (each_from digests_of (l.number + 1) (still l.requests)));
  wants : g.T.Take.wants l.taker ≡ l.wanted;
  count : l.number + l.requests.limit ≡ request_limit;
}

abbrev pub decreases-requests : goal.decreases-requests
decreases-requests g l = length l.requests.tokens
