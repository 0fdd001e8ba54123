-- What laws of runs say of commands, of the files that they read and of the text that they wrote.
use Rattle.std.specs.Prelude.{◌≡◌, ◌↔◌, ℕ, List, [], ◌∷◌, Contains, Ok, codes}
use Rattle.csp_compare.specs.Differences.{AreDifferences, DiffersAmong, directives_of}
use Rattle.csp_compare.specs.declared.differences.Difference.{Difference}
use Rattle.csp_output.specs.Differing.{output_of}
use Rattle.csp_embed.specs.Decisions.{Upholds}
use Rattle.csp_model.specs.Inclusion.{Subsumes}
use Rattle.csp_model.specs.declared.check.Check.{Check}
use Rattle.csp_model.specs.declared.name.Name.{Name}
use Rattle.csp_model.specs.declared.policy.Policy.{Policy}
use Rattle.csp_model.specs.declared.policy.PolicyList.{PolicyList}
use Rattle.csp_model.specs.declared.url.Origin.{Origin}
use Rattle.csp_model.specs.declared.verdict.Described.{Described}
use Rattle.csp_output.specs.Embeddings.{IsEnforcedList}
use Rattle.csp_output.specs.Learnt.{IsLearntText}
use Rattle.csp_output.specs.Tidyings.{IsTidying}
use Rattle.csp_output.specs.declared.status.Status.{Status}
use Rattle.csp_policy.specs.HeaderLines.{header_lines}
use Rattle.csp_policy.specs.Refusal.{list_of}
use Rattle.csp_request.specs.Requests.{requests_of}
use Rattle.csp_run.specs.Contents as content
use Rattle.csp_desk.specs.Desk.{Desk}
use Rattle.csp_run.specs.Due.{End, IsDue, end_status, end_text}
use Rattle.csp_run.specs.Files.{World, found_in}
use Rattle.csp_run.specs.Forms.{Form}
use Rattle.csp_run.specs.Words.{Plan, plan_of}
use Rattle.csp_tidy.specs.Thinnings.{AreEquivalent}

-- What `run` promises of every call that doesn't end with `WriteFault`: the status and the text that was written
-- are those of an end that is due for these words.
pub record Wrote (w : World) (desk : Desk) (words : List (List ℕ)) (status : Status) (text : List ℕ) : Type 0 where
  pub end : End
  pub due : IsDue w desk words end
  pub status_is : status ≡ end_status end
  pub text_is : text ≡ end_text end

-- the words ask for this form
pub record AsksFor (words : List (List ℕ)) (form : Form) (plan : Plan) : Type 0 where
  pub planned : plan_of words ≡ Ok plan
  pub form_is : plan.form ≡ form

-- `check` read two lists and a text, says that it is accepted, and the second list allows all that the first
-- allows
pub record AcceptsInclusion (w : World) (plan : Plan) (text : List ℕ) : Type 0 where
  pub first : PolicyList
  pub second : PolicyList
  pub proof : List ℕ
  pub files : found_in plan.origin plan.files w.log
      ≡ Ok (content.Policies first ∷ content.Policies second ∷ content.Proof proof ∷ [])
  pub accepted : text ≡ codes "accepted\n"
  pub subsumes : Subsumes first second

-- `learn` read a log, and its text is that of a policy that allows exactly what the log needs
pub record Learns (w : World) (plan : Plan) (text : List ℕ) : Type 0 where
  pub bytes : List ℕ
  pub log : List Described
  pub files : found_in plan.origin plan.files w.log ≡ Ok (content.Requests bytes ∷ [])
  pub described : requests_of bytes ≡ Ok log
  pub learnt : IsLearntText plan.origin log text

-- `tidy` read a list, and its text is that of an equivalent list, whose header lines read back to it
pub record Tidies (w : World) (plan : Plan) (status : Status) (text : List ℕ) : Type 0 where
  pub list : PolicyList
  pub files : found_in plan.origin plan.files w.log ≡ Ok (content.Policies list ∷ [])
  pub tidying : IsTidying list (record { status = status; text = text })
  pub equivalent : AreEquivalent list tidying.tidied.list
  pub back : list_of (header_lines tidying.tidied.list.policies) plan.origin ≡ Ok tidying.tidied.list

-- `embed` read a policy and a response, and whatever is enforced on the response then upholds the policy
pub record Shows (w : World) (plan : Plan) (embedder : Origin) : Type 0 where
  pub required : Policy
  pub block : List ℕ
  pub response : PolicyList
  pub files : found_in plan.origin plan.files w.log
      ≡ Ok (content.Required required ∷ content.Response block response ∷ [])
  pub upheld : (list : PolicyList) → IsEnforcedList embedder required block response list → Upholds list required

-- the text of `differ` names a directive exactly where the first list allows under it a check that the second
-- doesn't
pub record NamesDirectives (first second : PolicyList) (status : Status) (text : List ℕ) : Type 0 where
  pub entries : List Difference
  pub differences : AreDifferences first second entries
  pub printed : record { status = status; text = text } ≡ output_of second entries
  pub named : (directive : Name) → Contains (directives_of entries) directive
      ↔ ((asked : Check) × DiffersAmong (directive ∷ []) first second asked)
