use Rattle.std.proofs.Common.{◌≡◌, arith, eqb}
use Rattle.std.proofs.lemmas.Grind.{common_steps}
use Rattle.std.proofs.lemmas.List.Filters.{dedup_is}
use Rattle.csp_search.proofs.AskedNames.{all_names, are_asked}
use Rattle.csp_search.proofs.named_question.asked_names.Goals as goal

pub returns : goal.returns
returns c atoms =
    let q = c.args.question in
    let given = c.add_names-2.new.names.items in
    let sorted = c.sort.new.self.items in
    let kept = c.dedup.new.self.items in
    let all : given ≡ all_names q = grind (arith, common_steps) in
    are_asked c.an_answer_speaks_of_its_names.ensures.atoms c.an_answer_speaks_of_its_names.ensures.there q atoms given sorted kept
    all c.in_ok-sort.ensures.permutation (dedup_is eqb sorted kept c.dedup.ensures.filtered)
