-- A run of `learn` prints a policy that allows exactly what its log needs.
use Rattle.std.proofs.Common.{◌≡◌, ◌∙◌, sym, ap, subst, refl, ℕ, List, [], ◌∷◌, Option, Some, None, Result, Ok, Err, All}
use Rattle.csp_model.specs.Validity.{IsValidOrigin}
use Rattle.csp_model.specs.declared.verdict.Described.{Described}
use Rattle.csp_output.specs.Learnt.{learning}
use Rattle.csp_output.specs.declared.built.Built.{Built}
use Rattle.csp_output.specs.declared.status.Status.{Status}
use Rattle.csp_output.specs.declared.status.Status.TheVariants.{Clean}
use Rattle.csp_request.specs.Requests.{requests_of}
use Rattle.csp_request.specs.declared.error.RequestError.{RequestError}
use Rattle.csp_run.specs.Commands.{AsksFor, Learns, Wrote}
use Rattle.csp_desk.specs.Desk.{Desk}
use Rattle.csp_run.specs.Due.{End, end_status, end_text}
use Rattle.csp_run.specs.Files.{World, found_in}
use Rattle.csp_run.specs.Outputs.{EndsSo, IsLearnt, IsOnRequests, IsOutput, IsPrinted, learnt_or_fault}
use Rattle.csp_run.specs.Words.{Plan}
use Rattle.csp_run.specs.declared.fault.Fault.TheVariants as fault
use Rattle.csp_run.specs.declared.fault.FileFault.{FileFault}
use Rattle.csp_run.specs.Contents.{Content}
use Rattle.csp_run.specs.Contents as content
use Rattle.csp_run.specs.Forms.{Learn}
use Rattle.csp_run.proofs.Commands.{clean_suffices, written_output}
use Rattle.csp_run.proofs.Ends.{built_ends, none_ends, not_by_fault, refused_ends}
use Rattle.csp_run.proofs.PlainLogs.{Prints, learnt_of_urls}
use Rattle.csp_run.proofs.PlanOrigins.{ValidOrigins, planned_origin}
use Rattle.csp_valid.specs.ValidUrls.{HaveValidUrls}

abbrev pub ValidUrls : Type 0
ValidUrls = (bytes : List ℕ) (requests : List Described) → requests_of bytes ≡ Ok requests → All HaveValidUrls requests

learnt_from : Prints → ValidUrls → (w : World) (plan : Plan) (end : End) (bytes : List ℕ) (log : List Described)
    (printed : Option Built) → IsValidOrigin plan.origin
    → found_in plan.origin plan.files w.log ≡ Ok (content.Requests bytes ∷ []) → requests_of bytes ≡ Ok log
    → learning plan.origin log ≡ printed → EndsSo (λ e. e ≡ learnt_or_fault printed) end → end_status end ≡ Clean
    → Learns w plan (end_text end)
learnt_from prints urls w plan end bytes log (Some built) valid read described so is clean =
    subst (Learns w plan) (sym (ap end_text (built_ends built end is))) (record {
      bytes = bytes;
      log = log;
      files = read;
      described = described;
      learnt = learnt_of_urls prints plan.origin log built valid (urls bytes log described) so;
    })
learnt_from prints urls w plan (Ok built) bytes log None valid read described so is clean = absurd (cc is)
learnt_from prints urls w plan (Err f) bytes log None valid read described so is clean =
    absurd (not_by_fault f (Err f) Clean refl refl clean)

learnt_by : Prints → ValidUrls → (w : World) (plan : Plan) (end : End) (bytes : List ℕ)
    (described : Result (List Described) RequestError) → IsValidOrigin plan.origin
    → found_in plan.origin plan.files w.log ≡ Ok (content.Requests bytes ∷ []) → requests_of bytes ≡ described
    → EndsSo (IsOnRequests (IsLearnt plan.origin) described) end → end_status end ≡ Clean → Learns w plan (end_text end)
learnt_by prints urls w plan end bytes (Ok log) valid read so is clean =
    learnt_from prints urls w plan end bytes log (learning plan.origin log) valid read so refl is clean
learnt_by prints urls w plan end bytes (Err refused) valid read so is clean =
    absurd (refused_ends (IsLearnt plan.origin) refused end Clean refl is clean)

learnt_on : Prints → ValidUrls → (w : World) (desk : Desk) (plan : Plan) (end : End)
    (found : Result (List Content) FileFault) → IsValidOrigin plan.origin
    → found_in plan.origin plan.files w.log ≡ found → IsOutput Learn plan.origin found desk end
    → end_status end ≡ Clean → Learns w plan (end_text end)
learnt_on prints urls w desk plan end (Err f) valid read is clean =
    absurd (not_by_fault (fault.File f) end Clean refl is.0 clean)
learnt_on prints urls w desk plan end (Ok (content.Requests bytes ∷ [])) valid read is clean =
    learnt_by prints urls w plan end bytes (requests_of bytes) valid read refl is.0 clean
learnt_on prints urls w desk plan end (Ok contents) valid read is clean =
    absurd (none_ends (IsPrinted Learn plan.origin contents) (λ e never. never) end is.0)

pub learnt_so : Prints → ValidUrls → ValidOrigins → (w : World) (desk : Desk) (words : List (List ℕ)) (plan : Plan)
    (status : Status) (text : List ℕ) → AsksFor words Learn plan → Wrote w desk words status text
    → status ≡ Clean → Learns w plan text
learnt_so prints urls origins w desk words plan status text asks wrote clean =
    subst (Learns w plan) (sym wrote.text_is)
    (learnt_on prints urls w desk plan wrote.end (found_in plan.origin plan.files w.log)
    (planned_origin origins words plan asks.planned) refl
    (written_output w desk words plan status text Learn asks wrote (clean_suffices status clean))
    (sym wrote.status_is ∙ clean))
