-- A run of `check` that accepts shows inclusion.
use Rattle.std.proofs.Common.{◌≡◌, ◌∙◌, sym, ap, subst, refl, ℕ, List, [], ◌∷◌, Option, Some, None, Result, Ok, Err, codes}
use Rattle.csp_model.specs.Inclusion.{Subsumes}
use Rattle.csp_model.specs.Policies.{IsReadable}
use Rattle.csp_model.specs.Validity.{IsValidOrigin}
use Rattle.csp_model.specs.declared.policy.PolicyList.{PolicyList}
use Rattle.csp_model.specs.declared.url.Origin.{Origin}
use Rattle.csp_output.specs.Checks.{IsChecked, checked}
use Rattle.csp_output.specs.declared.built.Built.{Built}
use Rattle.csp_output.specs.declared.status.Status.{Status}
use Rattle.csp_output.specs.declared.status.Status.TheVariants.{Clean}
use Rattle.csp_policy.specs.Refusal.{list_of}
use Rattle.csp_proof.specs.Accepts.{first_bad_node}
use Rattle.csp_run.specs.Commands.{AcceptsInclusion, AsksFor, Wrote}
use Rattle.csp_desk.specs.Desk.{Desk}
use Rattle.csp_run.specs.Due.{End, end_status, end_text}
use Rattle.csp_run.specs.Files.{World, found_in}
use Rattle.csp_run.specs.Outputs.{IsOutput, IsPrinted}
use Rattle.csp_run.specs.Words.{Plan}
use Rattle.csp_run.specs.declared.fault.Fault.TheVariants as fault
use Rattle.csp_run.specs.declared.fault.FileFault.{FileFault}
use Rattle.csp_run.specs.Contents.{Content}
use Rattle.csp_run.specs.Contents as content
use Rattle.csp_run.specs.Forms.{Check}
use Rattle.csp_run.proofs.Commands.{clean_suffices, written_output}
use Rattle.csp_run.proofs.Ends.{none_ends, not_by_fault}
use Rattle.csp_run.proofs.PlanOrigins.{ValidOrigins, planned_origin}
use Rattle.csp_run.proofs.ReadFiles.{first_from, found_from, second_from}

abbrev pub ShowsInclusion : Type 0
ShowsInclusion = (first second : PolicyList) (text : List ℕ) (built : Built) → IsReadable first → IsReadable second
    → IsChecked first second text built → built.status ≡ Clean → Subsumes first second

abbrev pub ReadableLists : Type 0
ReadableLists = (bytes : List ℕ) (origin : Origin) (list : PolicyList) → IsValidOrigin origin
    → list_of bytes origin ≡ Ok list → IsReadable list

accepted_text : (bad : Option ℕ) (built : Built) → built ≡ checked bad → built.status ≡ Clean
    → built.text ≡ codes "accepted\n"
accepted_text None built is clean = ap (λ (b : Built). b.text) is
accepted_text (Some line) built is clean = absurd (cc (sym clean ∙ ap (λ (b : Built). b.status) is))

accepted_on : ShowsInclusion → ReadableLists → (w : World) (desk : Desk) (plan : Plan) (end : End)
    (found : Result (List Content) FileFault) → IsValidOrigin plan.origin
    → found_in plan.origin plan.files w.log ≡ found → IsOutput Check plan.origin found desk end
    → end_status end ≡ Clean → AcceptsInclusion w plan (end_text end)
accepted_on shows readable w desk plan end (Err f) valid read is clean =
    absurd (not_by_fault (fault.File f) end Clean refl is.0 clean)
accepted_on shows readable w desk plan (Ok built) (Ok (content.Policies first ∷ content.Policies second ∷ content.Proof proof ∷ [])) valid read is clean =
    let all = found_from plan.origin plan.files w.log _ read in
    let one = first_from plan.origin (content.Policies first) (content.Policies second ∷ content.Proof proof ∷ []) all in
    let other = second_from plan.origin (content.Policies first) (content.Policies second) (content.Proof proof ∷ []) all in
    record {
      first = first;
      second = second;
      proof = proof;
      files = read;
      accepted = accepted_text (first_bad_node first second is.0.proof) built is.0.output clean;
      subsumes = shows first second proof built (readable one.0 plan.origin first valid one.1)
          (readable other.0 plan.origin second valid other.1) is.0 clean;
    }
accepted_on shows readable w desk plan (Err f) (Ok (content.Policies first ∷ content.Policies second ∷ content.Proof proof ∷ [])) valid read is clean =
    absurd (not_by_fault f (Err f) Clean refl refl clean)
accepted_on shows readable w desk plan end (Ok contents) valid read is clean =
    absurd (none_ends (IsPrinted Check plan.origin contents) (λ e never. never) end is.0)

pub accepted_so : ShowsInclusion → ValidOrigins → ReadableLists → (w : World) (desk : Desk) (words : List (List ℕ))
    (plan : Plan) (status : Status) (text : List ℕ) → AsksFor words Check plan → Wrote w desk words status text
    → status ≡ Clean → AcceptsInclusion w plan text
accepted_so shows origins readable w desk words plan status text asks wrote clean =
    subst (AcceptsInclusion w plan) (sym wrote.text_is)
    (accepted_on shows readable w desk plan wrote.end (found_in plan.origin plan.files w.log)
    (planned_origin origins words plan asks.planned) refl
    (written_output w desk words plan status text Check asks wrote (clean_suffices status clean))
    (sym wrote.status_is ∙ clean))
