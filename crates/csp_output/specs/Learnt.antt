-- What `learn` prints: the learnt policy as a header, and the fetches that no source can name.
use Rattle.std.specs.Prelude.{◌≡◌, ℕ, nat_le, if◌then◌else◌, List, [], ◌∷◌, ◌++◌, length, Option, Some, None, codes, decimal}
use Rattle.std.specs.List.{flat_map}
use Rattle.csp_learn.specs.Allowed.{AllowsWhatIsNeeded}
use Rattle.csp_learn.specs.Logs.{Lesson, checks_of, left_of, lesson_of}
use Rattle.csp_learn.specs.Needs.{need_limit}
use Rattle.csp_learn.specs.Policies.{policy_for}
use Rattle.csp_learn.specs.Printed.{ReadsBack}
use Rattle.csp_learn.specs.declared.learnt.Learnt.{Learnt}
use Rattle.csp_learn.specs.declared.learnt.Place.{Place}
use Rattle.csp_model.specs.Policies.{policy_text}
use Rattle.csp_model.specs.declared.policy.Policy.{Policy}
use Rattle.csp_model.specs.declared.url.Origin.{Origin}
use Rattle.csp_model.specs.declared.verdict.Described.{Described}
use Rattle.csp_policy.specs.HeaderLines.{header_line}
use Rattle.csp_output.specs.declared.built.Built.{Built}
use Rattle.csp_output.specs.declared.status.Status.TheVariants.{Clean}

abbrev pub left_pieces : Place → List (List ℕ)
left_pieces place =
    codes "not learnt " ∷ decimal place.request ∷ codes " " ∷ decimal place.check ∷ codes "\n" ∷ []

-- the line of a fetch that no source can name, as "not learnt 2 1"
unfoldable pub left_line : Place → List ℕ
left_line place = flat_map (λ piece. piece) (left_pieces place)

-- the policy as a header, and a line for each fetch that no source can name
abbrev pub learnt_text : Policy → List Place → List ℕ
learnt_text policy left =
    codes "Content-Security-Policy: " ++ (policy_text policy ++ (codes "\n" ++ flat_map left_line left))

abbrev pub learnt_output : Policy → List Place → Built
learnt_output policy left = record { status = Clean; text = learnt_text policy left }

-- the output on what is learnt
abbrev pub printed : Learnt → Built
printed learnt = learnt_output learnt.policy learnt.left

-- the output on a lesson, with a policy of this origin; none where it needs more sources than a policy file
-- may have beside 'none'
abbrev pub lesson_output : Origin → Lesson → Option Built
lesson_output origin lesson =
    if nat_le (length lesson.needs) need_limit
    then Some (learnt_output (policy_for origin lesson.needs) lesson.left)
    else None

-- the output of `learn` on a log
abbrev pub learning : Origin → List Described → Option Built
learning origin log = lesson_output origin (lesson_of log)

-- the header line of a policy, and a line for each fetch that no source can name. The header line reads back to
-- the policy, which allows exactly the fetches that the log needs.
pub record IsLearntText (origin : Origin) (log : List Described) (text : List ℕ) : Type 0 where
  pub policy : Policy
  pub lines : text ≡ header_line policy ++ flat_map left_line (left_of log)
  pub back : ReadsBack origin policy
  pub allows : AllowsWhatIsNeeded (checks_of log) policy
