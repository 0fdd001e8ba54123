use Rattle.std.proofs.Common.{rules, ◌≡◌, slice_get}
use Rattle.std.specs.Option.{option_copied}
use Rattle.std.proofs.lemmas.Option.{gets}
use Rattle.csp_checker.proofs.Judged.{due_at, due_for, good_in, not_for, none_for, none_pair}
use Rattle.csp_checker.proofs.trees.bad_line.Goals as goal

pub returns-then-is_for-clause-bad : goal.returns-then-is_for-clause-bad
returns-then-is_for-clause-bad c =
    let asked = c.args.asked.now in
    let found : option_copied c.get.result ≡ slice_get asked.pairs.items c.args.number = search (rules, gets) in
    let there = rw c.in-Some.is at found in
    let f = due_at asked c.requires.asked c.args.number c.in-Some.pair.now there in
    let for = due_for asked c.requires.asked c.args.number c.in-Some.pair.now f.0 c.args.tree.now f.1 f.2 c.if-is_for.ensures in
    good_in asked c.args.number f.0 c.args.tree.now c.bad_below.result f.1 for (c.bad_below.ensures.bad f.0 for)

pub returns-else-is_for-clause-bad : goal.returns-else-is_for-clause-bad
returns-else-is_for-clause-bad c =
    let asked = c.args.asked.now in
    let found : option_copied c.get.result ≡ slice_get asked.pairs.items c.args.number = search (rules, gets) in
    let there = rw c.in-Some.is at found in
    let f = due_at asked c.requires.asked c.args.number c.in-Some.pair.now there in
    not_for asked c.args.number c.in-Some.pair.now f.0 c.args.tree.now f.1 f.2 c.if-is_for.ensures

pub returns-in-None-clause-bad : goal.returns-in-None-clause-bad
returns-in-None-clause-bad c =
    let asked = c.args.asked.now in
    let found : option_copied c.get.result ≡ slice_get asked.pairs.items c.args.number = search (rules, gets) in
    let there = rw c.in-None.is at found in
    none_for asked c.args.number c.args.tree.now (none_pair asked c.requires.asked c.args.number there)
