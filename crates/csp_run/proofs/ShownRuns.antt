-- A run of `embed` that shows a response upholds what is required.
use Rattle.std.proofs.Common.{◌≡◌, ◌∙◌, sym, refl, ℕ, List, [], ◌∷◌, Result, Ok, Err}
use Rattle.csp_embed.specs.Decisions.{Upholds}
use Rattle.csp_model.specs.declared.policy.Disposition.TheVariants.{Enforce}
use Rattle.csp_model.specs.declared.policy.Policy.{Policy}
use Rattle.csp_model.specs.declared.policy.PolicyList.{PolicyList}
use Rattle.csp_model.specs.declared.url.Origin.{Origin}
use Rattle.csp_output.specs.Embeddings.{IsEmbedding, IsEnforcedList}
use Rattle.csp_output.specs.declared.built.Built.{Built}
use Rattle.csp_output.specs.declared.status.Status.{Status}
use Rattle.csp_output.specs.declared.status.Status.TheVariants.{Clean}
use Rattle.csp_run.specs.Commands.{AsksFor, Shows, Wrote}
use Rattle.csp_desk.specs.Desk.{Desk}
use Rattle.csp_run.specs.Due.{End, end_status}
use Rattle.csp_run.specs.Files.{World, found_in}
use Rattle.csp_run.specs.Outputs.{IsOutput, IsPrinted}
use Rattle.csp_run.specs.Words.{Plan}
use Rattle.csp_run.specs.declared.fault.Fault.TheVariants as fault
use Rattle.csp_run.specs.declared.fault.FileFault.{FileFault}
use Rattle.csp_run.specs.Contents.{Content}
use Rattle.csp_run.specs.Contents as content
use Rattle.csp_run.specs.Forms.{Embed}
use Rattle.csp_run.proofs.Commands.{clean_suffices, written_output}
use Rattle.csp_run.proofs.Ends.{fault_ends, none_ends, not_by_fault}
use Rattle.csp_run.proofs.ReadFiles.{first_from, found_from}

abbrev pub EmbeddingUpholds : Type 0
EmbeddingUpholds = (embedder : Origin) (required : Policy) (block : List ℕ) (response list : PolicyList) (built : Built)
    → required.disposition ≡ Enforce → IsEmbedding embedder required block response built → built.status ≡ Clean
    → IsEnforcedList embedder required block response list → Upholds list required

shown_on : EmbeddingUpholds → (w : World) (desk : Desk) (plan : Plan) (embedder : Origin) (end : End)
    (found : Result (List Content) FileFault) → found_in plan.origin plan.files w.log ≡ found
    → IsOutput (Embed embedder) plan.origin found desk end → end_status end ≡ Clean → Shows w plan embedder
shown_on upholds w desk plan embedder end (Err f) read is clean = absurd (not_by_fault (fault.File f) end Clean refl is.0 clean)
shown_on upholds w desk plan embedder (Ok built) (Ok (content.Required required ∷ content.Response block response ∷ [])) read is clean =
    let all = found_from plan.origin plan.files w.log _ read in
    record {
      required = required;
      block = block;
      response = response;
      files = read;
      upheld = λ list now. upholds embedder required block response list built
          (first_from plan.origin (content.Required required) (content.Response block response ∷ []) all) is.0 clean now;
    }
shown_on upholds w desk plan embedder (Err f) (Ok (content.Required required ∷ content.Response block response ∷ [])) read is clean =
    absurd (fault_ends (IsEmbedding embedder required block response) f is.0)
shown_on upholds w desk plan embedder end (Ok contents) read is clean =
    absurd (none_ends (IsPrinted (Embed embedder) plan.origin contents) (λ e never. never) end is.0)

pub shown_so : EmbeddingUpholds → (w : World) (desk : Desk) (words : List (List ℕ)) (plan : Plan) (status : Status)
    (text : List ℕ) (embedder : Origin) → AsksFor words (Embed embedder) plan → Wrote w desk words status text
    → status ≡ Clean → Shows w plan embedder
shown_so upholds w desk words plan status text embedder asks wrote clean =
    shown_on upholds w desk plan embedder wrote.end (found_in plan.origin plan.files w.log) refl
    (written_output w desk words plan status text (Embed embedder) asks wrote (clean_suffices status clean))
    (sym wrote.status_is ∙ clean)
