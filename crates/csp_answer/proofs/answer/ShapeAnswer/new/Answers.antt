use Rattle.std.proofs.Common.{ap}
use Rattle.std.proofs.lemmas.List.Filters.{dedup_is}
use Rattle.csp_formula.specs.Surely.{maybe_or, surely}
use Rattle.csp_answer.specs.Answers.{AreThere, disjunction_in, integrity_in}
use Rattle.csp_answer.proofs.Among.{among_itself, both_among, members_among}
use Rattle.csp_answer.proofs.Members.{same_members}
use Rattle.csp_answer.proofs.Sorting.{all_kept, leads_rise, none_lost, none_new}
use Rattle.csp_answer.proofs.answer.ShapeAnswer.new.Goals as goal

pub returns-clause-said : goal.returns-clause-said
returns-clause-said c atoms literals =
    let given = c.args.conjunctions.items in
    let sorted = c.sort.new.self.items in
    let kept = c.dedup.new.self.items in
    let is = dedup_is _ sorted kept c.dedup.ensures.filtered in
    let moved = c.in_ok-sort.ensures.permutation in
    ap (λ o. maybe_or o (surely literals (integrity_in atoms c.args.integrity)))
    (same_members (record { atoms = atoms; literals = literals }) kept given (none_new given sorted kept moved is) (none_lost given sorted kept moved is))

pub returns-clause-among : goal.returns-clause-among
returns-clause-among c atoms =
    let given = c.args.conjunctions.items in
    let sorted = c.sort.new.self.items in
    let kept = c.dedup.new.self.items in
    let is = dedup_is _ sorted kept c.dedup.ensures.filtered in
    let rule = integrity_in atoms c.args.integrity in
    both_among (disjunction_in atoms kept) rule (disjunction_in atoms given) rule
    (members_among atoms kept given (none_new given sorted kept c.in_ok-sort.ensures.permutation is)) (among_itself rule)

pub returns-clause-answer : goal.returns-clause-answer
returns-clause-answer c count there integrity =
    let given = c.args.conjunctions.items in
    let sorted = c.sort.new.self.items in
    let kept = c.dedup.new.self.items in
    let is = dedup_is _ sorted kept c.dedup.ensures.filtered in
    let moved = c.in_ok-sort.ensures.permutation in
    record {
      there = all_kept given sorted kept moved is (AreThere count) there;
      integrity = integrity;
      rise = leads_rise given sorted kept moved is c.in_ok-sort.ensures.sorted;
    }
