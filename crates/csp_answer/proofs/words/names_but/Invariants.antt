use Rattle.std.proofs.Common.{◌≡◌, take}
use Rattle.csp_answer.specs.Asking.{names_but}
use Rattle.csp_answer.proofs.words.names_but.Given as goal

abbrev pub invariant-loop-name : goal.invariant-loop-name
invariant-loop-name l = l.left.items ≡ names_but (take l.name-index l.names) l.fn.others
