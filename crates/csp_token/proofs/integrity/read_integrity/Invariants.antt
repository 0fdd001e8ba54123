use Rattle.std.proofs.Common.{◌≡◌, map}
use Rattle.std.specs.List.{filter_map, All}
use Rattle.csp_model.specs.Validity.{IsIntegrityValue}
use Rattle.csp_token.specs.Integrity.{hash_of_token}
use Rattle.csp_token.proofs.integrity.read_integrity.Given as goal

-- the pairs are those of the tokens so far, and valid
abbrev pub invariant-loop-token : goal.invariant-loop-token
invariant-loop-token l = record {
  pairs : l.pairs ≡ filter_map hash_of_token (map (λ token. token.now) l.yielded);
  valid : All (λ h. IsIntegrityValue h.value) l.pairs;
}
