use Rattle.std.proofs.Common.{List, take}
use Rattle.csp_model.specs.declared.source.Hash.{Hash}
use Rattle.csp_answer.specs.Naming.{ArePairs}
use Rattle.csp_answer.specs.Tables.{AreAnswers}
use Rattle.csp_answer.proofs.table.answers_of_each.Given as goal

abbrev pub invariant-loop-policy : goal.invariant-loop-policy
invariant-loop-policy l = (hashes : List Hash) → ArePairs l.naming.names.now hashes l.naming.pairs.now
    → AreAnswers l.naming.names.now hashes (take l.policy-index l.policies) l.made
