-- A run of `tidy` prints an equivalent list that reads back.
use Rattle.std.proofs.Common.{◌≡◌, ◌∙◌, sym, subst, refl, ℕ, List, [], ◌∷◌, Result, Ok, Err}
use Rattle.csp_model.specs.Validity.{IsValidOrigin}
use Rattle.csp_model.specs.declared.policy.PolicyList.{PolicyList}
use Rattle.csp_model.specs.declared.url.Origin.{Origin}
use Rattle.csp_output.specs.Tidyings.{IsTidying}
use Rattle.csp_output.specs.declared.built.Built.{Built}
use Rattle.csp_output.specs.declared.status.Status.{Status}
use Rattle.csp_output.specs.declared.status.Status.TheVariants.{Clean}
use Rattle.csp_policy.specs.HeaderLines.{header_lines}
use Rattle.csp_policy.specs.Refusal.{list_of}
use Rattle.csp_run.specs.Commands.{AsksFor, Tidies, Wrote}
use Rattle.csp_desk.specs.Desk.{Desk}
use Rattle.csp_run.specs.Due.{End, end_status, end_text}
use Rattle.csp_run.specs.Files.{World, found_in}
use Rattle.csp_run.specs.Outputs.{IsOutput, IsPrinted}
use Rattle.csp_run.specs.Words.{Plan}
use Rattle.csp_run.specs.declared.fault.Fault.TheVariants as fault
use Rattle.csp_run.specs.declared.fault.FileFault.{FileFault}
use Rattle.csp_run.specs.Contents.{Content}
use Rattle.csp_run.specs.Contents as content
use Rattle.csp_run.specs.Forms.{Tidy}
use Rattle.csp_run.proofs.Commands.{clean_suffices, written_output}
use Rattle.csp_run.proofs.Ends.{fault_ends, none_ends, not_by_fault}
use Rattle.csp_run.proofs.PlanOrigins.{ValidOrigins, planned_origin}
use Rattle.csp_run.proofs.ReadFiles.{first_from, found_from}

abbrev pub TidiedReadsBack : Type 0
TidiedReadsBack = (bytes : List ℕ) (origin : Origin) (list : PolicyList) (built : Built) → IsValidOrigin origin
    → list_of bytes origin ≡ Ok list → (is : IsTidying list built)
    → list_of (header_lines is.tidied.list.policies) origin ≡ Ok is.tidied.list

tidied_on : TidiedReadsBack → (w : World) (desk : Desk) (plan : Plan) (end : End)
    (found : Result (List Content) FileFault) → IsValidOrigin plan.origin
    → found_in plan.origin plan.files w.log ≡ found → IsOutput Tidy plan.origin found desk end
    → end_status end ≡ Clean → Tidies w plan (end_status end) (end_text end)
tidied_on back w desk plan end (Err f) valid read is clean = absurd (not_by_fault (fault.File f) end Clean refl is.0 clean)
tidied_on back w desk plan (Ok built) (Ok (content.Policies list ∷ [])) valid read is clean =
    let from = first_from plan.origin (content.Policies list) [] (found_from plan.origin plan.files w.log _ read) in
    record {
      list = list;
      files = read;
      tidying = is.0;
      equivalent = is.0.is.equivalent;
      back = back from.0 plan.origin list built valid from.1 is.0;
    }
tidied_on back w desk plan (Err f) (Ok (content.Policies list ∷ [])) valid read is clean =
    absurd (fault_ends (IsTidying list) f is.0)
tidied_on back w desk plan end (Ok contents) valid read is clean =
    absurd (none_ends (IsPrinted Tidy plan.origin contents) (λ e never. never) end is.0)

pub tidied_so : TidiedReadsBack → ValidOrigins → (w : World) (desk : Desk) (words : List (List ℕ)) (plan : Plan)
    (status : Status) (text : List ℕ) → AsksFor words Tidy plan → Wrote w desk words status text → status ≡ Clean
    → Tidies w plan status text
tidied_so back origins w desk words plan status text asks wrote clean =
    subst (λ (s : Status). Tidies w plan s text) (sym wrote.status_is)
    (subst (Tidies w plan (end_status wrote.end)) (sym wrote.text_is)
    (tidied_on back w desk plan wrote.end (found_in plan.origin plan.files w.log)
    (planned_origin origins words plan asks.planned) refl
    (written_output w desk words plan status text Tidy asks wrote (clean_suffices status clean))
    (sym wrote.status_is ∙ clean)))
