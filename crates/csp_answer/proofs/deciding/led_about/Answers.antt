use Rattle.std.proofs.Common.{◌≡◌, ◌∙◌, sym, ap, ◌≤◌, ◌<◌, ◌+◌, true, List}
use Rattle.csp_facts.specs.declared.atom.Atom.{Atom}
use Rattle.csp_branch.specs.Numbers.{around_in}
use Rattle.csp_answer.proofs.Finding.{finds_both}
use Rattle.csp_answer.proofs.Parts.{IsAbout, around_or_behind}
use Rattle.csp_answer.proofs.deciding.led_about.Goals as goal

pub returns : goal.returns
returns c =
    let path = c.args.branch.now in
    let place = c.args.place in
    let end = c.end-end.result in
    let looked = rw c.behind.ensures at c.led_by.ensures in
    rw c.or.ensures
    (finds_both path c.args.conjunctions.now (λ name. around_in path.atoms name place ≡ true) (λ name. (place + 1 ≤ name) × (name < end)) (IsAbout path place)
    c.led_around-known.result c.led_by.result c.led_around-known.ensures looked
    (λ name. around_or_behind path place end name (ap (λ (atoms : List Atom). around_in atoms place name) (sym c.names-names.ensures.names) ∙ c.end-end.ensures.range name)))
