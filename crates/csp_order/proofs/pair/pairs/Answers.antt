use Rattle.std.proofs.Common.{sym, ap, ◌≡◌, ◌∙◌, ◌+◌, ◌++◌, ◌∷◌, [], List, ℕ, append_assoc, arith}
use Rattle.csp_order.specs.Pairs.{pair}
use Rattle.csp_order.specs.declared.pair.Pair.{Pair}
use Rattle.csp_order.proofs.PairsListed.{row_below, rows_below, row_more, row_skips, rows_more}
use Rattle.csp_order.proofs.pair.pairs.Goals as goal
use Rattle.csp_order.proofs.pair.pairs.Goals.{then-second-first+in_ok-push, else-second-first}

pub loop-second-preserved : goal.loop-second-preserved
loop-second-preserved c =
    let first : ℕ = c.loop-first.first in
    let second : ℕ = c.loop-second.second in
    let rows : List Pair = rows_below c.args.count first in
    elim c.if-second-first.branch [
      | then-second-first+in_ok-push w ↦ rw w.made-is
          (w.in_ok-push.ensures.items
          ∙ ap (λ (ps : List Pair). ps ++ pair first second ∷ []) c.loop-second.invariant
          ∙ append_assoc rows (row_below first second) (pair first second ∷ [])
          ∙ ap (λ (ps : List Pair). rows ++ ps) (sym (row_more first second (omega arith) w.if-second-first.true)))
      | else-second-first w ↦ rw w.made-is
          (c.loop-second.invariant
          ∙ ap (λ (ps : List Pair). rows ++ ps) (sym (row_skips first second (omega arith) w.if-second-first.false)))
    ]

pub loop-first-preserved : goal.loop-first-preserved
loop-first-preserved c =
    let first : ℕ = c.loop-first.first in
    let count : ℕ = c.args.count in
    let all : c.loop-second.second ≡ count + 1 = omega arith in
    c.loop-second.invariant
    ∙ ap (λ (n : ℕ). rows_below count first ++ row_below first n) all
    ∙ sym (rows_more count first (omega arith))
