use Rattle.std.proofs.Common.{arith, ◌≡◌, ◌∙◌, sym, ap, ℕ, ◌+◌, Bor, List, [], ◌∷◌, ◌++◌, length, append-nil}
use Rattle.std.specs.Str.Lines.{strip_carriage_return}
use Rattle.std.proofs.lemmas.List.{length_push}
use Rattle.std.proofs.lemmas.Iterator.Consumers.{YieldsList-at, YieldsList-end, YieldsList-from_first}
use Rattle.csp_model.specs.Ascii.{split_at}
use Rattle.csp_model.specs.Policies.{Line, Skipped, Bad, Header, line_of}
use Rattle.csp_policy.specs.Fates.{Serialized, delivered_by, delivered_from}
use Rattle.csp_policy.specs.Pieces.{pieces_left}
use Rattle.csp_policy.proofs.Delivering.{delivered_more}
use Rattle.csp_policy.proofs.LinesSoFar.{at_turn, few_lines, said, said_length, said_more, says}
use Rattle.csp_policy.proofs.serialized.serialized_policies.Goals as goal

pub overflow_add-number : goal.overflow_add-number
overflow_add-number c =
    let turn = at_turn (YieldsList-at c.into_iter-line-iterator.ensures.into_iter_gives
    (YieldsList-from_first (λ x. x.now) pieces_left {s = c.new-line-items.result} (split_at 10 c.without_status.result.now) c.new-line-items.ensures))
    c.loop-line.yielded _ c.loop-line.yielded_by _ _ c.in-Some.line c.in-Some.is c.next.ensures.steps in
    let within = turn.1.0 in
    let few = few_lines c.args.bytes.now in
    let all = ap (λ t. length (split_at 10 t)) c.without_status.ensures in
    let number = c.loop-line.invariant.number in
    let short = c.type_inv.bytes in
    omega arith

pub returns : goal.returns
returns c =
    let all = YieldsList-end (YieldsList-at c.into_iter-line-iterator.ensures.into_iter_gives
    (YieldsList-from_first (λ x. x.now) pieces_left {s = c.new-line-items.result} (split_at 10 c.without_status.result.now) c.new-line-items.ensures))
    c.loop-line.yielded _ c.loop-line.yielded_by _ _ c.in-None.is c.next.ensures.steps in
    c.loop-line.invariant.made ∙ ap (λ parts. delivered_from 1 (says parts)) (all.0 ∙ ap (split_at 10) c.without_status.ensures)

-- what one more line delivers
delivers_more : (lines : List (Bor (List ℕ))) (line : Bor (List ℕ)) (said_line : Line) → said_line ≡ line_of (strip_carriage_return line.now)
    → delivered_from 1 (said lines) ++ delivered_by (length lines + 1) said_line ≡ delivered_from 1 (said (lines ++ line ∷ []))
delivers_more lines line said_line is =
    ap (λ (n : ℕ). delivered_from 1 (said lines) ++ delivered_by n said_line) (sym (said_length lines))
    ∙ ap (λ (l : Line). delivered_from 1 (said lines) ++ delivered_by (1 + length (said lines)) l) is
    ∙ sym (delivered_more 1 (said lines) (line_of (strip_carriage_return line.now)))
    ∙ ap (delivered_from 1) (sym (said_more lines line))

pub loop-line-preserved-in-Skipped : goal.loop-line-preserved-in-Skipped
loop-line-preserved-in-Skipped c =
    let n = length_push c.loop-line.yielded c.in-Some.line in
    record {
      number = let number = c.loop-line.invariant.number in omega arith;
      made = c.loop-line.invariant.made ∙ sym (append-nil (delivered_from 1 (said c.loop-line.yielded)))
          ∙ delivers_more c.loop-line.yielded c.in-Some.line Skipped c.in-Skipped.ensures;
    }

pub loop-line-preserved-in-Bad : goal.loop-line-preserved-in-Bad
loop-line-preserved-in-Bad c =
    let n = length_push c.loop-line.yielded c.in-Some.line in
    record {
      number = let number = c.loop-line.invariant.number in omega arith;
      made = c.loop-line.invariant.made ∙ sym (append-nil (delivered_from 1 (said c.loop-line.yielded)))
          ∙ delivers_more c.loop-line.yielded c.in-Some.line Bad c.in-Bad.ensures;
    }

pub loop-line-preserved : goal.loop-line-preserved
loop-line-preserved c =
    let n = length_push c.loop-line.yielded c.in-Some.line in
    let header : Line = Header c.in-Header.name.now c.in-Header.value.now in
    record {
      number = let number = c.loop-line.invariant.number in omega arith;
      made = c.in_ok-add_delivered-in-Header.ensures
          ∙ ap (λ (l : List Serialized). l ++ delivered_by (c.loop-line.number + 1) header) c.loop-line.invariant.made
          ∙ ap (λ (k : ℕ). delivered_from 1 (said c.loop-line.yielded) ++ delivered_by (k + 1) header) c.loop-line.invariant.number
          ∙ delivers_more c.loop-line.yielded c.in-Some.line header c.in-Header.ensures;
    }
