use Rattle.std.proofs.Common.{◌≡◌, take}
use Rattle.std.specs.List.{flat_map}
use Rattle.csp_answer.specs.Answers.{names_in}
use Rattle.csp_answer.proofs.answer.ShapeAnswer.names.Given as goal

abbrev pub invariant-loop-conjunction : goal.invariant-loop-conjunction
invariant-loop-conjunction l = l.names.items ≡ flat_map names_in (take l.conjunction-index l.conjunction-items)
