use Rattle.std.proofs.Common.{◌∙◌, sym, subst}
use Rattle.csp_branch.specs.Walks.{Position}
use Rattle.csp_search.specs.Asking.{IsAsked}
use Rattle.csp_search.specs.declared.named_question.NamedQuestion.{NamedQuestion}
use Rattle.csp_search.proofs.AskedNames.{is_asked}
use Rattle.csp_search.proofs.probing.probe.Goals.{else-is_some-via-else-is_some, else-is_some-via-then-is_some+in_ok-check+in-None-1}
use Rattle.csp_search.proofs.probing.probe.Goals as goal

pub probe_at-requires-clause-asked : goal.probe_at-requires-clause-asked
probe_at-requires-clause-asked c =
    is_asked (record { question = c.args.question; names = c.deref.result }) _ c.args.walker.now.atoms c.deref.ensures.value c.in_ok-names.ensures c.requires.posed

pub probe_at-requires-2-clause-asked : goal.probe_at-requires-2-clause-asked
probe_at-requires-2-clause-asked c =
    let asked : NamedQuestion = record { question = c.args.question; names = c.deref.result } in
    let is = is_asked asked _ c.args.walker.now.atoms c.deref.ensures.value c.in_ok-names.ensures c.requires.posed in
    elim c.else-is_some.branch [
      | else-is_some-via-else-is_some w ↦ subst (λ (p : Position). IsAsked asked p.atoms) (sym w.walker-is) is
      | else-is_some-via-then-is_some+in_ok-check+in-None-1 w ↦ subst (λ (p : Position). IsAsked asked p.atoms) (sym (w.walker-is ∙ w.in_ok-check.ensures.walker)) is
    ]
