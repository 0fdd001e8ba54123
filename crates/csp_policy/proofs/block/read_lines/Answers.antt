use Rattle.std.proofs.Common.{arith, ◌∙◌, ◌+◌, length, sym, ap, subst, refl, inr, Some, append-nil}
use Rattle.std.specs.List.{flat_map, position_from}
use Rattle.std.proofs.lemmas.List.{length_push}
use Rattle.std.proofs.lemmas.Iterator.Consumers.{YieldsList-at, YieldsList-end, YieldsList-from_first}
use Rattle.csp_model.specs.Ascii.{split_at}
use Rattle.csp_model.specs.Policies.{Skipped, Header, policies, policies_of, is_bad}
use Rattle.csp_policy.specs.Pieces.{pieces_left}
use Rattle.csp_policy.specs.Room.{AreRead}
use Rattle.csp_policy.specs.Refusal.{refusal_at}
use Rattle.csp_policy.proofs.LinesSoFar.{few_lines, says, said, still_good, read_more, bad_at, at_turn}
use Rattle.csp_policy.proofs.block.read_lines.Goals as goal

pub overflow_add-number : goal.overflow_add-number
overflow_add-number c =
    let turn = at_turn (YieldsList-at c.into_iter-line-iterator.ensures.into_iter_gives
    (YieldsList-from_first (λ x. x.now) pieces_left {s = c.new-line-items.result} (split_at 10 c.without_status.result.now) c.new-line-items.ensures))
    c.loop-line.yielded _ c.loop-line.yielded_by _ _ c.in-Some.line c.in-Some.is c.next.ensures.steps in
    let within = turn.1.0 in
    let few = few_lines c.args.bytes.now in
    let all = ap (λ t. length (split_at 10 t)) c.without_status.ensures in
    let number = c.loop-line.invariant.number in
    let short = c.requires in
    omega arith

pub loop-line-preserved-in-Skipped : goal.loop-line-preserved-in-Skipped
loop-line-preserved-in-Skipped c =
    let n = length_push c.loop-line.yielded c.in-Some.line in
    record {
      number = let number = c.loop-line.invariant.number in omega arith;
      good = still_good c.loop-line.yielded c.in-Some.line Skipped c.in-Skipped.ensures refl c.loop-line.invariant.good;
      read = subst (λ ps. AreRead ps c.loop-line.reader.policies c.loop-line.reader.room)
          (sym (append-nil (flat_map (policies_of c.args.origin.now) (said c.loop-line.yielded))) ∙ read_more c.args.origin.now c.loop-line.yielded c.in-Some.line Skipped c.in-Skipped.ensures)
          c.loop-line.invariant.read;
    }

pub loop-line-preserved : goal.loop-line-preserved
loop-line-preserved c =
    let n = length_push c.loop-line.yielded c.in-Some.line in
    let header = Header c.in-Header.name.now c.in-Header.value.now in
    record {
      number = let number = c.loop-line.invariant.number in omega arith;
      good = still_good c.loop-line.yielded c.in-Some.line header c.in-Header.ensures refl c.loop-line.invariant.good;
      read = subst (λ ps. AreRead ps c.add_header.new.self.policies c.add_header.new.self.room)
          (read_more c.args.origin.now c.loop-line.yielded c.in-Some.line header c.in-Header.ensures)
          (c.in_ok-add_header-in-Header.ensures _ c.loop-line.invariant.read);
    }

pub returns-in-Bad-clause-bad : goal.returns-in-Bad-clause-bad
returns-in-Bad-clause-bad c =
    let turn = at_turn (YieldsList-at c.into_iter-line-iterator.ensures.into_iter_gives
    (YieldsList-from_first (λ x. x.now) pieces_left {s = c.new-line-items.result} (split_at 10 c.without_status.result.now) c.new-line-items.ensures))
    c.loop-line.yielded _ c.loop-line.yielded_by _ _ c.in-Some.line c.in-Some.is c.next.ensures.steps in
    inr (ap (λ o. refusal_at o (policies c.args.bytes.now c.args.origin.now))
    (ap (λ bytes. position_from is_bad 1 (says (split_at 10 bytes))) (sym c.without_status.ensures)
    ∙ bad_at (split_at 10 c.without_status.result.now) c.loop-line.yielded c.in-Some.line turn.0 turn.1 c.loop-line.invariant.good c.in-Bad.ensures
    ∙ ap (λ n. Some (n + 1)) (sym c.loop-line.invariant.number)))

pub returns-clause-read : goal.returns-clause-read
returns-clause-read c =
    let all = YieldsList-end (YieldsList-at c.into_iter-line-iterator.ensures.into_iter_gives
    (YieldsList-from_first (λ x. x.now) pieces_left {s = c.new-line-items.result} (split_at 10 c.without_status.result.now) c.new-line-items.ensures))
    c.loop-line.yielded _ c.loop-line.yielded_by _ _ c.in-None.is c.next.ensures.steps in
    subst (λ parts. AreRead (flat_map (policies_of c.args.origin.now) (says parts)) c.loop-line.reader.policies c.loop-line.reader.room)
    (all.0 ∙ ap (split_at 10) c.without_status.ensures) c.loop-line.invariant.read

pub returns-clause-good : goal.returns-clause-good
returns-clause-good c =
    let all = YieldsList-end (YieldsList-at c.into_iter-line-iterator.ensures.into_iter_gives
    (YieldsList-from_first (λ x. x.now) pieces_left {s = c.new-line-items.result} (split_at 10 c.without_status.result.now) c.new-line-items.ensures))
    c.loop-line.yielded _ c.loop-line.yielded_by _ _ c.in-None.is c.next.ensures.steps in
    ap (λ parts. position_from is_bad 1 (says parts)) (sym (all.0 ∙ ap (split_at 10) c.without_status.ensures)) ∙ c.loop-line.invariant.good
