use Rattle.std.proofs.Common.{rules, ◌≡◌, ◌∙◌, sym, None, get_or, ◌+◌, subst}
use Rattle.csp_branch.specs.Walks.{Position}
use Rattle.csp_search.proofs.Going.{Denies, all_known, denies_known, denies_open, known_there, open_name, room_left, some_known, stands_there}
use Rattle.csp_search.proofs.open.deny_all.Goals.{then-is_none, else-is_none}
use Rattle.csp_search.proofs.open.deny_all.Goals as goal

pub take-requires-clause-room : goal.take-requires-clause-room
take-requires-clause-room c =
    let q = c.args.asked.question in
    let names = c.args.asked.names.now in
    let at = c.loop-name.walker in
    let i = c.loop-name.name-index in
    let name = get_or names i 0 in
    let none : c.known.result ≡ None = search rules in
    let told = known_there at c.branch-walker.result.now name c.known.result c.branch-walker.ensures c.known.ensures in
    let denies = c.loop-name.invariant in
    let is_open = open_name q names c.args.walker.now at i denies c.requires.asked.names c.loop-name-test.true (sym told ∙ none) in
    room_left q c.args.walker.now at denies.kept name denies.branch is_open c.requires.room

pub loop-name-preserved : goal.loop-name-preserved
loop-name-preserved c =
    let q = c.args.asked.question in
    let names = c.args.asked.names.now in
    let start = c.args.walker.now in
    let at = c.loop-name.walker in
    let i = c.loop-name.name-index in
    let within = c.loop-name-test.true in
    let denies = c.loop-name.invariant in
    let told = known_there at c.branch-walker.result.now (get_or names i 0) c.known.result c.branch-walker.ensures c.known.ensures in
    elim c.if-is_none.branch [
      | then-is_none w ↦
          let none : c.known.result ≡ None = search rules in
          let is_open = open_name q names start at i denies c.requires.asked.names within (sym told ∙ none) in
          denies_open q names start at i denies within is_open c.if-is_none.walker (w.walker-is ∙ w.take.ensures)
      | else-is_none w ↦
          subst (λ (p : Position). Denies q names start p (i + 1)) (sym w.walker-is)
          (denies_known q names start at i denies within (some_known c.known.result _ told w.if-is_none.ensures))
    ]

pub returns-clause-known : goal.returns-clause-known
returns-clause-known c = all_known c.args.asked.question c.args.asked.names.now c.args.walker.now c.loop-name.walker c.loop-name.name-index c.loop-name.invariant c.loop-name-test.false

pub returns-clause-stands : goal.returns-clause-stands
returns-clause-stands c =
    let denies = c.loop-name.invariant in
    stands_there c.args.asked c.args.walker.now c.loop-name.walker c.requires denies.kept denies.branch
