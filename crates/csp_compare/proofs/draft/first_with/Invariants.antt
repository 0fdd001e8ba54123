use Rattle.std.proofs.Common.{◌≢◌}
use Rattle.std.specs.Prelude.{Some}
use Rattle.std.specs.List.{AllWithin}
use Rattle.csp_proof.specs.WellFormed.{body_at}
use Rattle.csp_proof.specs.declared.proof.Body.TheVariants.{Nodes}
use Rattle.csp_compare.proofs.draft.first_with.Given as goal

abbrev pub invariant-loop-number : goal.invariant-loop-number
invariant-loop-number l = AllWithin (λ number. body_at l.trees number ≢ Some (Nodes l.nodes)) l.numbers 0 l.number-index
