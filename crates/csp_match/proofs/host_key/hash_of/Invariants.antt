use Rattle.std.proofs.Common.{◌≡◌, take, fold}
use Rattle.csp_match.specs.Keys.{hash_step}
use Rattle.csp_match.proofs.host_key.hash_of.Given as goal

abbrev pub invariant-loop-byte : goal.invariant-loop-byte
invariant-loop-byte l = l.hash ≡ fold hash_step 5381 (take l.byte-index l.text)
