use Rattle.std.proofs.Common.{ℕ, List, ◌++◌, ◌∙◌, ap, codes, append_assoc}
use Rattle.std.proofs.lemmas.Result.{on_ok_weaker}
use Rattle.json.specs.Print.{quoted}
use Rattle.csp_desk.proofs.Parts.{report_front-literal}
use Rattle.csp_desk.proofs.front.append_front.Goals as goal

pub returns-clause-ok : goal.returns-clause-ok
returns-clause-ok c =
    on_ok_weaker c.push_quoted.result
    (λ pushed. pushed ∙ ap (λ (l : List ℕ). l ++ quoted c.args.blocked_uri.now) c.in_ok-extend_from_slice.ensures.items
    ∙ rw (report_front-literal c.args.blocked_uri.now) (append_assoc _ (codes "{\"blocked-uri\":") _))
    c.push_quoted.ensures.ok
