use Rattle.std.proofs.Common.{◌≡◌, ◌∙◌, refl, sym, ap, subst, ℕ, ◌<◌, ◌≤◌, Bool, true, length, get_or, Option, Some, None, Contains, of_calls, rules}
use Rattle.std.proofs.lemmas.Option.{slice_get_past, slice_get_read}
use Rattle.csp_formula.specs.Surely.{maybe_or, surely}
use Rattle.csp_answer.specs.Answers.{integrity_in}
use Rattle.csp_answer.specs.Deciding.{ground_in, listed_in, own_pair_in, pair_in, said_of, said_of_some}
use Rattle.csp_answer.specs.declared.answer.Integrity.{Integrity}
use Rattle.csp_answer.specs.declared.conjunction.Conjunction.{Conjunction}
use Rattle.csp_answer.specs.declared.deciding.Ground.{Ground}
use Rattle.csp_answer.proofs.Adding.{adds_to_true}
use Rattle.csp_answer.proofs.Members.{member_adds}
use Rattle.csp_answer.proofs.Rules.{true_by}
use Rattle.csp_answer.proofs.deciding.decided_by.Goals as goal

pub returns-in-Some-clause-answer : goal.returns-in-Some-clause-answer
returns-in-Some-clause-answer c on =
    let path = c.args.branch.now in
    let cs = c.args.answer.now.conjunctions.items in
    let one = c.in-Some.conjunction.now in
    let has : Contains cs one = search (rules, of_calls) in
    let held : said_of path one ≡ Some true = sym c.all_of.ensures ∙ on in
    let some : Some true ≡ said_of_some path cs = subst (λ (o : Option Bool). maybe_or o (said_of_some path cs) ≡ said_of_some path cs) held (member_adds path cs one has) in
    ap (λ (o : Option Bool). maybe_or o (surely path.literals (integrity_in path.atoms c.args.answer.now.integrity))) (sym some)

pub returns-in-None-clause-ground : goal.returns-in-None-clause-ground
returns-in-None-clause-ground c =
    let path = c.args.branch.now in
    let past : length c.args.answer.now.conjunctions.items ≤ c.in-Conjunction.place = search (rules, of_calls) in
    let none = slice_get_past c.args.answer.now.conjunctions.items c.in-Conjunction.place past in
    sym (ap (λ (g : Ground). surely path.literals (ground_in path.atoms c.args.answer.now g)) c.in-Conjunction.is
    ∙ ap (λ (o : Option Conjunction). surely path.literals (listed_in path.atoms o)) none)

pub returns-in-Some-get-clause-ground : goal.returns-in-Some-get-clause-ground
returns-in-Some-get-clause-ground c =
    let path = c.args.branch.now in
    let rule = c.in-Some-integrity.rule.now in
    let place = c.in-Pair.place in
    let there : c.args.answer.now.integrity ≡ Some rule = search (rules, of_calls) in
    let pair = c.in-Some-get.pair.now in
    let inside : place < length rule.own.items = search (rules, of_calls) in
    let is : pair ≡ get_or rule.own.items place pair = search (rules, of_calls) in
    let at = slice_get_read rule.own.items (length rule.own.items) place pair refl inside is in
    c.integrity_rule.ensures
    ∙ sym (ap (λ (g : Ground). surely path.literals (ground_in path.atoms c.args.answer.now g)) c.in-Pair.is
    ∙ ap (λ (i : Option Integrity). surely path.literals (own_pair_in path.atoms i place)) there
    ∙ ap (λ (o : Option ℕ). surely path.literals (pair_in path.atoms rule o)) at)

pub returns-in-Some-get-clause-answer : goal.returns-in-Some-get-clause-answer
returns-in-Some-get-clause-answer c on =
    let path = c.args.branch.now in
    let cs = c.args.answer.now.conjunctions.items in
    let rule = c.in-Some-integrity.rule.now in
    let pair = c.in-Some-get.pair.now in
    let there : c.args.answer.now.integrity ≡ Some rule = search (rules, of_calls) in
    let has : Contains rule.own.items pair = search (rules, of_calls) in
    let held = true_by path rule rule.own.items pair has (sym c.integrity_rule.ensures ∙ on) in
    ap (maybe_or (said_of_some path cs)) (ap (λ (i : Option Integrity). surely path.literals (integrity_in path.atoms i)) there ∙ held)
    ∙ adds_to_true (said_of_some path cs)

pub returns-in-None-get-clause-ground : goal.returns-in-None-get-clause-ground
returns-in-None-get-clause-ground c =
    let path = c.args.branch.now in
    let rule = c.in-Some-integrity.rule.now in
    let place = c.in-Pair.place in
    let there : c.args.answer.now.integrity ≡ Some rule = search (rules, of_calls) in
    let past : length rule.own.items ≤ place = search (rules, of_calls) in
    let none = slice_get_past rule.own.items place past in
    sym (ap (λ (g : Ground). surely path.literals (ground_in path.atoms c.args.answer.now g)) c.in-Pair.is
    ∙ ap (λ (i : Option Integrity). surely path.literals (own_pair_in path.atoms i place)) there
    ∙ ap (λ (o : Option ℕ). surely path.literals (pair_in path.atoms rule o)) none)
