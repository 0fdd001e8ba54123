use Rattle.std.proofs.Common.{List, map, Bor, ap, ◌∙◌}
use Rattle.csp_match.specs.Types.{Directive, Policy}
use Rattle.csp_model.specs.Governing.{governor}
use Rattle.csp_match.specs.Candidates.{governor_among}
use Rattle.csp_match.proofs.CandidateLaws.{among_all}
use Rattle.csp_match.proofs.candidates.Candidates.governor.Goals as goal

-- the candidates are those of the policy's directives that can govern
pub returns : goal.returns
returns c =
    let effective = c.args.effective in
    let those = λ (ds : List Directive). governor_among ds effective in
    record {
      governor = c.governor_among.ensures
          ∙ ap (λ (ds : List (Bor Directive)). those (map (λ d. d.now) ds)) c.as_slice.ensures.value
          ∙ ap those c.self.invariant
          ∙ among_all c.self.inside.policy.now.directives effective
          ∙ ap (λ (p : Policy). governor p effective) c.self.view_is;
    }
