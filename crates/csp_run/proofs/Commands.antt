-- The output of a run of which the status and the text are known.
use Rattle.std.proofs.Common.{◌≡◌, ◌≢◌, ◌∙◌, sym, ℕ, List}
use Rattle.csp_output.specs.declared.status.Status.{Status}
use Rattle.csp_output.specs.declared.status.Status.TheVariants as status
use Rattle.csp_run.specs.Commands.{AsksFor, Wrote}
use Rattle.csp_desk.specs.Desk.{Desk}
use Rattle.csp_run.specs.Due.{end_status}
use Rattle.csp_run.specs.Files.{World, found_in}
use Rattle.csp_run.specs.Outputs.{IsOutput}
use Rattle.csp_run.specs.Words.{Plan}
use Rattle.csp_run.specs.Forms.{Form}
use Rattle.csp_run.proofs.Ends.{output_on}

-- what was written is the output of the command, where memory suffices
pub written_output : (w : World) (desk : Desk) (words : List (List ℕ)) (plan : Plan) (ending : Status) (text : List ℕ)
    (form : Form) → AsksFor words form plan → (wrote : Wrote w desk words ending text) → ending ≢ status.NoMemory
    → IsOutput form plan.origin (found_in plan.origin plan.files w.log) desk wrote.end
written_output w desk words plan ending text form asks wrote other =
    output_on w desk words plan wrote.end form asks.planned asks.form_is wrote.due
    (λ (none : end_status wrote.end ≡ status.NoMemory). other (wrote.status_is ∙ none))

-- after `Clean` memory sufficed
pub clean_suffices : (s : Status) → s ≡ status.Clean → s ≢ status.NoMemory
clean_suffices s clean none = cc (sym clean ∙ none)
