use Rattle.std.proofs.Common.{◌≡◌, ◌++◌, take}
use Rattle.csp_output.specs.Orders.{numbers_text}
use Rattle.csp_output.proofs.order_output.push_numbers.Given as goal

abbrev pub invariant-loop-number : goal.invariant-loop-number
invariant-loop-number l = l.text.items ≡ l.fn.text.items ++ numbers_text (take l.number-index l.numbers)
