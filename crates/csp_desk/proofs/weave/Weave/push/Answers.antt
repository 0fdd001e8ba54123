-- A line's parts are there, and a strand of them.
use Rattle.std.proofs.Common.{◌∙◌}
use Rattle.std.proofs.lemmas.Result.{err_from_is_err_and}
use Rattle.csp_desk.specs.declared.weave.Strand.{Strand}
use Rattle.csp_desk.proofs.Weaving.{all_kept, all_and_new, new_strand, one_strand_more}
use Rattle.csp_desk.proofs.weave.Weave.push.Goals as goal

pub returns-in_err-ending-clause-err : goal.returns-in_err-ending-clause-err
returns-in_err-ending-clause-err c =
    let p = err_from_is_err_and c.from_residual-in_err-ending.result c.from_residual-in_err-ending.ensures.1 in
    rw (p.1, c.in_ok-reserve.ensures.items)
    (all_kept c.self.inside.own.items c.push_parts.new.own.items c.self.inside.endings.items
    c.push_parts.new.endings.items c.self.inside.strands.items c.in_err-ending.ensures.own
    c.in_err-ending.ensures.endings c.self.invariant ∙ c.self.view_is)

pub invariant_of-self-2 : goal.invariant_of-self-2
invariant_of-self-2 c =
    let start = c.len-start.ensures ∙ c.self.inside.own.ok.0 in
    let end = c.len-end.ensures ∙ c.push_parts.new.own.ok.0 in
    rw (c.in_ok-push.ensures.items, c.in_ok-reserve.ensures.items)
    (all_and_new c.self.inside.own.items c.push_parts.new.own.items c.self.inside.endings.items
    c.push_parts.new.endings.items c.self.inside.strands.items _ c.in_ok-ending.ensures.own
    c.in_ok-ending.ensures.endings c.self.invariant start end c.in_ok-ending.ensures.ending)

pub returns-clause-ok : goal.returns-clause-ok
returns-clause-ok c =
    let made : Strand =
    record { start = c.len-start.result; end = c.len-end.result; ending = c.in_ok-ending.ending } in
    let start = c.len-start.ensures ∙ c.self.inside.own.ok.0 in
    let end = c.len-end.ensures ∙ c.push_parts.new.own.ok.0 in
    rw (c.in_ok-push.ensures.items, c.in_ok-reserve.ensures.items, ← c.self.view_is)
    (one_strand_more c.self.inside.own.items c.push_parts.new.own.items c.self.inside.endings.items
    c.push_parts.new.endings.items c.self.inside.strands.items _ _ c.in_ok-ending.ensures.own
    c.in_ok-ending.ensures.endings c.self.invariant
    (new_strand c.self.inside.own.items c.push_parts.new.own.items c.push_parts.new.endings.items made _ start end
    c.in_ok-ending.ensures.line))
