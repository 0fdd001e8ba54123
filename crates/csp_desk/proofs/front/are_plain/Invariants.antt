-- Whether the bytes so far are plain.
use Rattle.std.proofs.Common.{◌≡◌, take}
use Rattle.csp_desk.specs.Plain.{are_plain}
use Rattle.csp_desk.proofs.front.are_plain.Given as goal

abbrev pub invariant-loop-byte : goal.invariant-loop-byte
invariant-loop-byte l = l.plain ≡ are_plain (take l.byte-index l.text)
