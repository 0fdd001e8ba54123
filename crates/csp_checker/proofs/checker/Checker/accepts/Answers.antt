use Rattle.std.proofs.Common.{◌∙◌, sym, subst}
use Rattle.std.proofs.lemmas.Bool.{false≢true}
use Rattle.csp_model.specs.Inclusion.{Subsumes}
use Rattle.csp_checker.specs.Checked.{Claim}
use Rattle.csp_checker.proofs.Judged.{first_bad_is, first_bad_claim}
use Rattle.csp_checker.proofs.checker.Checker.accepts.Goals as goal
use Rattle.csp_checker.proofs.checker.Checker.accepts.Goals.{in-Some, in-None}

pub returns-clause-verdict : goal.returns-clause-verdict
returns-clause-verdict c =
    let claimed = first_bad_claim c.self.inside.asked c.args.self.now c.self.view_is in
    elim c.match-first_bad_line.branch [
      | in-Some w ↦ rw w.result-is (sym (w.in-Some.ensures.bad ∙ claimed))
      | in-None w ↦ rw w.result-is (sym (w.in-None.ensures.bad ∙ claimed))
    ]

pub returns-clause-subsumes : goal.returns-clause-subsumes
returns-clause-subsumes c =
    let asked = c.self.inside.asked in
    elim c.match-first_bad_line.branch [
      | in-Some w ↦ λ ok. absurd (false≢true (rw w.result-is at ok))
      | in-None w ↦ λ ok.
          let accepted = sym (first_bad_is asked) ∙ sym w.in-None.ensures.bad in
          subst (λ (claim : Claim). Subsumes claim.first claim.second) c.self.view_is
          (c.what_is_accepted_is_so.ensures asked.first.now asked.second.now asked.proof.now c.self.invariant.0 c.self.invariant.1 accepted)
    ]
