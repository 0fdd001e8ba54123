use Rattle.std.proofs.Common.{◌≡◌, ◌∙◌, sym, ap, refl, ◌<◌, ◌+◌, ℕ, List, length, get_or, Some, of_calls, rules}
use Rattle.std.proofs.lemmas.List.{get_or_read_under}
use Rattle.csp_facts.specs.Atoms.{part_of}
use Rattle.csp_facts.specs.declared.atom.Atom.{Atom}
use Rattle.csp_facts.specs.declared.atom.Atom.TheVariants.{HostDomain}
use Rattle.csp_branch.specs.Groups.{atom_in}
use Rattle.csp_branch.specs.Numbers.{AreInOrder}
use Rattle.csp_branch.specs.Order.{number_of}
use Rattle.csp_answer.proofs.Parts.{finds_placed, on_its_part, part_first, part_last}
use Rattle.csp_answer.proofs.deciding.+led_from.Goals as goal

pub returns-else-eq : goal.returns-else-eq
returns-else-eq t c =
    let path = c.args.branch.now in
    let cs = c.args.conjunctions.now in
    let first = c.in-Some.first.now in
    let lead = c.in-Some-lead.lead in
    let end = c.start-end.result in
    let here : c.led_below.result < length cs = search (rules, of_calls) in
    let at_start : get_or cs c.led_below.result first ≡ first = search (rules, of_calls) in
    let leads : first.lead ≡ Some lead = search (rules, of_calls) in
    let order : AreInOrder path.atoms = search (rules, of_calls) in
    let named : c.atoms.result.now ≡ path.atoms = search (rules, of_calls) in
    let there : lead < length c.atoms.result.now = search (rules, of_calls) in
    let on : part_of (atom_in path.atoms lead) ≡ c.part-part.result =
    sym (c.part-part.ensures
    ∙ ap part_of (get_or_read_under c.atoms.result.now lead _ c.index-atoms-lead.result HostDomain c.index-atoms-lead.is there refl)
    ∙ ap (λ (atoms : List Atom). part_of (atom_in atoms lead)) named) in
    let before : (k : ℕ) (d : Atom) → k < end → number_of (get_or path.atoms k d) < number_of (atom_in path.atoms lead) + 1 = search (rules, of_calls) in
    rw c.or.ensures
    (part_first path cs c.args.from c.led_below.result c.led_below.ensures.before c.requires.rise first lead here at_start leads end
    c.led_about-known.result c.led_from.result
    (finds_placed path cs c.part-part.result c.in-Some-place.place lead end c.led_about-known.result c.requires.there c.in-Some-place.ensures
    (λ name there within. on_its_part path.atoms lead end name order before there within ∙ on) c.led_about-known.ensures)
    c.led_from.ensures)

pub returns-else-eq-2 : goal.returns-else-eq-2
returns-else-eq-2 t c =
    let path = c.args.branch.now in
    let cs = c.args.conjunctions.now in
    let first = c.in-Some.first.now in
    let lead = c.in-Some-lead.lead in
    let here : c.led_below.result < length cs = search (rules, of_calls) in
    let at_start : get_or cs c.led_below.result first ≡ first = search (rules, of_calls) in
    let leads : first.lead ≡ Some lead = search (rules, of_calls) in
    rw c.or-in-None.ensures
    (part_last path cs c.args.from c.led_below.result c.led_below.ensures.before c.requires.rise first lead here at_start leads c.start-end.result
    c.led_from-known.result c.led_by.result c.led_from-known.ensures c.led_by.ensures)
