use Rattle.std.proofs.Common.{arith, refl, ◌<◌, length}
use Rattle.std.proofs.lemmas.List.{get_or_read_under}
use Rattle.std.proofs.lemmas.List.Elements.{length_all_zip}
use Rattle.csp_compare.specs.Comparisons.{lists_of}
use Rattle.csp_compare.proofs.Adding.{share_more, share_all}
use Rattle.csp_compare.proofs.EnforcedPolicies.{small_number}
use Rattle.csp_compare.proofs.comparison.Comparison.share_shape.Goals as goal

pub loop-place-preserved : goal.loop-place-preserved
loop-place-preserved c =
    let on = c.args.self.now in
    let counts = length_all_zip _ on.policies.items c.args.numbers.now c.requires.shown in
    let inside : c.loop-place.place < length on.policies.items = omega (arith, counts, c.loop-place-test.true) in
    let small = small_number on.lists.second.now on.policies.items c.loop-place.place c.requires.second c.requires.policies inside in
    let policy = get_or_read_under on.policies.items c.loop-place.place (length on.policies.items) c.index.result.now 0 c.index.ensures inside refl in
    share_more (lists_of on) c.args.shape c.args.draft.now c.loop-place.draft c.share.new.self on.policies.items c.args.numbers.now c.loop-place.place c.shape_number.result
    c.loop-place.invariant c.loop-place-test.true small (omega (arith, c.requires.room)) c.requires.shown c.shape_number.ensures (rw policy at c.in_ok-share.ensures)

pub returns : goal.returns
returns c = share_all (lists_of c.args.self.now) c.args.shape c.args.draft.now c.loop-place.draft c.args.self.now.policies.items c.args.numbers.now c.loop-place.place c.loop-place.invariant c.loop-place-test.false c.requires.shown
