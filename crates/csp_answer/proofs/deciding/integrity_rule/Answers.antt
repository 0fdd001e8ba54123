use Rattle.std.proofs.Common.{◌≡◌, ◌∙◌, sym, ap, ap₂, false, Some, of_calls, rules}
use Rattle.csp_formula.specs.Surely.{maybe_and, maybe_not}
use Rattle.csp_facts.specs.declared.atom.Atom.TheVariants.{HostDomain}
use Rattle.csp_answer.proofs.Rules.{refuted_by, rule_by}
use Rattle.csp_answer.proofs.deciding.integrity_rule.Goals as goal

pub returns-then-eq-2 : goal.returns-then-eq-2
returns-then-eq-2 c =
    let off : c.none_holds-none_other.result ≡ Some false = search (rules, of_calls) in
    off ∙ refuted_by c.args.branch.now c.args.rule.now c.deref.result.now c.args.own.now c.deref.ensures.value (sym c.none_holds-none_other.ensures ∙ off)

pub returns : goal.returns
returns c =
    c.and-2.ensures
    ∙ ap₂ maybe_and (c.not-none_outside.ensures ∙ ap maybe_not (c.known.ensures HostDomain))
    (c.and.ensures ∙ ap₂ maybe_and c.none_holds-none_other.ensures c.one_holds.ensures)
    ∙ rule_by c.args.branch.now c.args.rule.now c.deref.result.now c.args.own.now c.deref.ensures.value
