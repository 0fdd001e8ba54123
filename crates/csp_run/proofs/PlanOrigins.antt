-- The origin of a plan is valid.
use Rattle.std.proofs.Common.{◌≡◌, refl, subst, ℕ, Bool, true, false, cond, List, [], ◌∷◌, Option, Some, None, Ok, codes}
use Rattle.std.specs.Prelude.{bytes_eq}
use Rattle.csp_model.specs.Validity.{IsValidOrigin}
use Rattle.csp_model.specs.declared.url.Origin.{Origin}
use Rattle.csp_model.specs.declared.url.Origin.TheVariants.{Opaque}
use Rattle.csp_url.specs.Origins.{origin_of}
use Rattle.csp_run.specs.Words.{Command, File, Plan, command_of, embed_plan, files_as, origin_for, plan_of, with_command, with_embedder, with_origin}
use Rattle.csp_run.specs.declared.fault.Role.TheVariants.{Required, Response}
use Rattle.csp_run.specs.Forms.{Form}
use Rattle.csp_run.specs.Forms.{Drill}

abbrev pub ValidOrigins : Type 0
ValidOrigins = (text : List ℕ) (origin : Origin) → origin_of text ≡ Some origin → IsValidOrigin origin

for_form : ValidOrigins → (form : Form) (word : List ℕ) (origin : Origin) → origin_for form word ≡ Some origin
    → IsValidOrigin origin
unfolding origin_for
for_form law (Drill pairs) word origin is = let same : Opaque ≡ origin = cc is in subst IsValidOrigin same tt
for_form law form word origin is = law word origin is

at_origin : ValidOrigins → (command : Command) (word : List ℕ) (plan : Plan)
    → with_origin command (origin_for command.form word) ≡ Ok plan → IsValidOrigin plan.origin
at_origin law command word plan is = by (origin_for command.form word) refl is where
  by : (o : Option Origin) → origin_for command.form word ≡ o → with_origin command o ≡ Ok plan
      → IsValidOrigin plan.origin
  by (Some origin) so e =
      let same : origin ≡ plan.origin = cc e in subst IsValidOrigin same (for_form law command.form word origin so)
  by None so e = absurd (cc e)

at_command : ValidOrigins → (command : Option Command) (word : List ℕ) (plan : Plan)
    → with_command command word ≡ Ok plan → IsValidOrigin plan.origin
at_command law None word plan is = absurd (cc is)
at_command law (Some command) word plan is = at_origin law command word plan is

at_embedder : ValidOrigins → (files : Option (List File)) (embedder : Option Origin) (word : List ℕ) (plan : Plan)
    → with_embedder files embedder word ≡ Ok plan → IsValidOrigin plan.origin
at_embedder law None embedder word plan is = absurd (cc is)
at_embedder law (Some files) None word plan is = absurd (cc is)
at_embedder law (Some files) (Some embedder) word plan is = at_origin law _ word plan is

of_embed : ValidOrigins → (embedder : List ℕ) (words : List (List ℕ)) (plan : Plan) → embed_plan embedder words ≡ Ok plan
    → IsValidOrigin plan.origin
of_embed law embedder [] plan is = absurd (cc is)
of_embed law embedder (word ∷ names) plan is =
    at_embedder law (files_as (Required ∷ Response ∷ []) names) (origin_of embedder) word plan is

pub planned_origin : ValidOrigins → (words : List (List ℕ)) (plan : Plan) → plan_of words ≡ Ok plan
    → IsValidOrigin plan.origin
planned_origin law [] plan is = absurd (cc is)
planned_origin law (verb ∷ []) plan is = absurd (cc is)
planned_origin law (verb ∷ word ∷ names) plan is = by (bytes_eq verb (codes "embed")) is where
  by : (embeds : Bool)
      → cond embeds (embed_plan word names) (with_command (command_of verb word names) word) ≡ Ok plan
      → IsValidOrigin plan.origin
  by true e = of_embed law word names plan e
  by false e = at_command law (command_of verb word names) word plan e
