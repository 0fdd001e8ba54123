use Rattle.std.proofs.Common.{◌≡◌, ℕ, ◌<◌, false}
use Rattle.csp_proof.specs.Accepts.{blocks, is_met}
use Rattle.csp_search.specs.Questions.{lists_of, pair_of}
use Rattle.csp_search.proofs.leaf.leaf_of.Given as goal

-- the branch isn't met, and no policy so far surely allows nothing
abbrev pub invariant-loop-place : goal.invariant-loop-place
invariant-loop-place l = record {
  met : is_met (lists_of l.question) (pair_of l.question) l.branch.literals ≡ false;
  none : (k : ℕ) → k < l.place → blocks (lists_of l.question) (pair_of l.question) l.branch.literals k ≡ false;
}
