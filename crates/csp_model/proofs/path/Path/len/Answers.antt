use Rattle.std.proofs.Common.{rules, ◌≡◌, ◌∙◌, ap}
use Rattle.std.specs.Prelude.{◌==◌}
use Rattle.std.specs.List.{count_by}
use Rattle.csp_model.proofs.PathSegments.{slashes}
use Rattle.csp_model.proofs.path.Path.len.Goals as goal

pub returns : goal.returns
returns c =
    let counted : c.count.result ≡ count_by (λ b. b == 47) c.as_bytes.result.now = search rules in
    counted ∙ ap (count_by (λ b. b == 47)) (c.as_bytes.ensures.value ∙ c.as_str.ensures) ∙ slashes c.args.self.now
