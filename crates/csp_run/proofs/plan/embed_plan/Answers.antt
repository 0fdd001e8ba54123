use Rattle.std.proofs.Common.{[], ◌∷◌, ◌∙◌, ap, sym, ℕ, List, Some, Err}
use Rattle.csp_url.specs.Origins.{origin_of}
use Rattle.csp_run.specs.Forms.{Embed}
use Rattle.csp_run.specs.Shown.{file_as, words_end}
use Rattle.csp_run.specs.Words.{File, with_command}
use Rattle.csp_run.specs.declared.fault.Fault.{Fault}
use Rattle.csp_run.specs.declared.fault.Role.TheVariants as role
use Rattle.csp_run.proofs.Embedder.{found_so, of_three, refused_so}
use Rattle.csp_run.proofs.plan.embed_plan.Goals as goal

pub returns-in-Ok-clause-plan : goal.returns-in-Ok-clause-plan
returns-in-Ok-clause-plan c = λ real.
    let files : List File =
    file_as role.Required c.required-item.result ∷ file_as role.Response c.response-item.result ∷ [] in
    c.plan_at.ensures.plan real
    ∙ ap (λ (w : List ℕ). words_end (with_command (Some (record { form = Embed c.in-Ok.embedder; files = files })) w))
    c.as_str.ensures.text
    ∙ ap words_end
    (found_so (origin_of c.args.embedder.now) c.in-Ok.embedder files c.origin-item.result c.in-Ok.ensures.origin
    ∙ sym (of_three c.args.embedder.now c.args.words.now c.origin-item.result c.required-item.result
    c.response-item.result c.in-len3.len_at_least c.in-len3.len_below c.origin-item.is c.required-item.is
    c.response-item.is))

pub returns-in-Err-clause-plan : goal.returns-in-Err-clause-plan
returns-in-Err-clause-plan c = λ real.
    let files : List File =
    file_as role.Required c.required-item.result ∷ file_as role.Response c.response-item.result ∷ [] in
    refused_so (origin_of c.args.embedder.now) c.in-Err.error c.from.result files c.origin-item.result c.from.ensures
    c.in-Err.ensures.origin (λ same. real (ap (λ (f : Fault). Err f) same))
    ∙ sym (ap words_end
    (of_three c.args.embedder.now c.args.words.now c.origin-item.result c.required-item.result
    c.response-item.result c.in-len3.len_at_least c.in-len3.len_below c.origin-item.is c.required-item.is
    c.response-item.is))
