use Rattle.std.proofs.Common.{refl, subst}
use Rattle.csp_branch.specs.Paths.{Path}
use Rattle.csp_search.specs.Asking.{IsOpenName}
use Rattle.csp_search.proofs.Going.{goes_on, room_left, stands_there}
use Rattle.csp_search.proofs.probing.take_open.Goals as goal

pub take-requires-clause-room : goal.take-requires-clause-room
take-requires-clause-room c =
    let q = c.args.asked.question in
    let at = c.args.walker.now in
    let is_open = subst (λ (p : Path). IsOpenName q p.atoms p.literals c.args.name) c.branch-walker.ensures (c.is_open.ensures c.if-is_open.true) in
    room_left q at at refl c.args.name c.requires.branch is_open c.requires.room

pub returns-then-is_open-clause-stands : goal.returns-then-is_open-clause-stands
returns-then-is_open-clause-stands c =
    let q = c.args.asked.question in
    let at = c.args.walker.now in
    let is_open = subst (λ (p : Path). IsOpenName q p.atoms p.literals c.args.name) c.branch-walker.ensures (c.is_open.ensures c.if-is_open.true) in
    let on = goes_on q at at refl c.args.name c.requires.branch is_open c.args.positive c.take.new.self c.take.ensures in
    stands_there c.args.asked at c.take.new.self c.requires on.0 on.1
