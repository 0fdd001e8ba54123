use Rattle.std.proofs.Common.{ℕ, List, drop}
use Rattle.csp_formula.specs.Sentences.{Sentence}
use Rattle.csp_order.specs.Within.{Narrows}
use Rattle.csp_order.proofs.Narrowing.{said}
use Rattle.csp_order.proofs.within.is_part.Given as goal

abbrev pub invariant-loop-other : goal.invariant-loop-other
invariant-loop-other l =
    (says : List ℕ → Sentence) → Narrows (said says l.rest) (said says (drop l.other-index l.others))
    → Narrows (said says l.fn.tokens) (said says l.others)
