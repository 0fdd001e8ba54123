use Rattle.std.proofs.Common.{rules, ◌≡◌, Some, sym, ap, ◌∙◌}
use denote.Enum.Bare.{same_true, same_false}
use Rattle.std.specs.Option.{option_map}
use Rattle.csp_match.specs.Shown.{shown}
use Rattle.csp_model.specs.Governing.{Governor, governor}
use Rattle.csp_model.specs.contracts.name.Name.{the_type}
use Rattle.csp_model.specs.declared.name.Name.{Name}
use Rattle.csp_verdict.specs.declared.compiled_policy.Entry.{Entry}
use Rattle.csp_verdict.proofs.Entries.{entry_by_own, entry_by_other}
use Rattle.csp_verdict.proofs.compiled_policy.entry_of.Goals as goal

abbrev ready : Name → Governor → Entry
ready name g = record { governing = Some name; own = Some g }

pub returns-in_ok-new-in-Some : goal.returns-in_ok-new-in-Some
returns-in_ok-new-in-Some c =
    let name = c.args.name in
    let found = shown c.in-Some.found in
    let governs : governor c.args.candidates.now name ≡ Some found = sym c.governor.ensures.governor ∙ ap (option_map shown) c.in-Some.is in
    let own : found.name ≡ name = same_true the_type (search rules) _ _ (sym c.if-eq.ensures) in
    let made : c.in_ok-new-in-Some.field-0 ≡ found = c.in_ok-new-in-Some.ensures in
    ap (λ (g : Governor). ready name g) made ∙ entry_by_own c.args.candidates.now name found governs own

pub returns-in-Some-2 : goal.returns-in-Some-2
returns-in-Some-2 c =
    let name = c.args.name in
    let found = shown c.in-Some.found in
    let governs : governor c.args.candidates.now name ≡ Some found = sym c.governor.ensures.governor ∙ ap (option_map shown) c.in-Some.is in
    entry_by_other c.args.candidates.now name found governs (same_false the_type _ _ (sym c.if-eq.ensures))
