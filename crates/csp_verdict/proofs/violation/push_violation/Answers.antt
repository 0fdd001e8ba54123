use Rattle.std.proofs.Common.{◌≡◌, ◌≤◌, ◌++◌, [], length, map, Option, None, slice_get, sym, ap, ◌∙◌, append-nil, arith}
use Rattle.std.proofs.lemmas.Bool.Decides.{nat_tests}
use Rattle.std.proofs.lemmas.List.{length-map}
use Rattle.std.proofs.lemmas.Option.{slice_get_past}
use Rattle.std.specs.List.{cons_option}
use Rattle.std.specs.Option.{option_map}
use Rattle.csp_model.specs.Verdict.{violation_of}
use Rattle.csp_model.specs.declared.policy.Policy.{Policy}
use Rattle.csp_verdict.proofs.violation.push_violation.Goals as goal

-- there is no policy of the number, and so no violation
pub returns-in_default : goal.returns-in_default
returns-in_default g c =
    let ps = map g.P.Judge.seen c.args.policies.now in
    let past : length c.args.policies.now ≤ c.args.item.now.policy = grind (arith, nat_tests, c.in_default.ensures.lookup.0) in
    let none : slice_get ps c.args.item.now.policy ≡ None = slice_get_past ps c.args.item.now.policy (omega (arith, past, length-map c.args.policies.now g.P.Judge.seen)) in
    sym (append-nil c.args.found.now)
    ∙ ap (λ (o : Option Policy). c.args.found.now ++ cons_option (option_map (violation_of c.args.described.now c.args.check.now c.args.item.now) o) []) (sym none)
