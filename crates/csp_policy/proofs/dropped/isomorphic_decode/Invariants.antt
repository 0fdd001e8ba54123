use Rattle.std.proofs.Common.{◌≡◌, ◌++◌, drop, string_bytes}
use Rattle.csp_policy.specs.ReadingLines.{isomorphic_decode}
use Rattle.csp_policy.proofs.dropped.isomorphic_decode.Given as goal

abbrev pub invariant-loop-byte : goal.invariant-loop-byte
invariant-loop-byte l = string_bytes l.text ++ isomorphic_decode (drop l.byte-index l.bytes) ≡ isomorphic_decode l.bytes
