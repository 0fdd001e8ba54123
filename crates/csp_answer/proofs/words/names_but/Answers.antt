use Rattle.std.proofs.Common.{◌∙◌, sym, get_or}
use Rattle.csp_answer.proofs.NamesIn.{one_is_left, one_is_out}
use Rattle.csp_answer.proofs.words.names_but.Goals.{then-not-contains+in_ok-push, else-not-contains}
use Rattle.csp_answer.proofs.words.names_but.Goals as goal

pub loop-name-preserved : goal.loop-name-preserved
loop-name-preserved c =
    let names = c.args.names.now in
    let others = c.args.others.now in
    let i = c.loop-name.name-index in
    let known = c.contains.ensures ∙ c.in_ok-others.ensures (get_or names i 0) in
    elim c.if-not-contains.branch [
      | then-not-contains+in_ok-push w ↦
          rw (w.left-is, w.in_ok-push.ensures.items)
          (one_is_left names others c.loop-name.left.items i c.loop-name-test.true (sym known ∙ w.if-not-contains.true) c.loop-name.invariant)
      | else-not-contains w ↦
          rw w.left-is (one_is_out names others c.loop-name.left.items i c.loop-name-test.true (sym known ∙ w.if-not-contains.false) c.loop-name.invariant)
    ]
