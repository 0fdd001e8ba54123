-- One more request that is learnt from, and what is printed of a lesson.
use Rattle.std.proofs.Common.{◌≡◌, ◌≤◌, ◌+◌, ℕ, List, [], ◌∷◌, ◌++◌, length, take, Option, Some, None, Bool, true}
use Rattle.std.proofs.Common.{refl, ap, sym, ◌∙◌, arith}
use Rattle.std.specs.Prelude.{nat_le, if◌then◌else◌}
use Rattle.std.proofs.lemmas.Bool.Decides.{nat_tests}
use Rattle.std.proofs.lemmas.List.{take_all}
use Rattle.csp_learn.specs.Logs.{Lesson, left_in, lesson_of}
use Rattle.csp_learn.specs.Needs.{need_limit}
use Rattle.csp_learn.specs.Policies.{policy_for}
use Rattle.csp_learn.specs.declared.learnt.Learnt.{Learnt}
use Rattle.csp_learn.specs.declared.learnt.Place.{Place}
use Rattle.csp_learn.proofs.LogLaws.{more_learnt, needs_after}
use Rattle.csp_model.specs.declared.check.Check.{Check}
use Rattle.csp_model.specs.declared.policy.Policy.{Policy}
use Rattle.csp_model.specs.declared.url.Origin.{Origin}
use Rattle.csp_model.specs.declared.verdict.Described.{Described}
use Rattle.csp_request.proofs.Parts.{same_of_checks}
use Rattle.csp_request.specs.Wanted.{IsPartOf}
use Rattle.csp_output.specs.Learnt.{learnt_output, lesson_output, printed}
use Rattle.csp_output.specs.Taken.{wanted_to_learn}
use Rattle.csp_output.specs.declared.built.Built.{Built}

-- Requests

-- what is learnt, with the checks of the request of this number
abbrev pub lesson_with : Lesson → ℕ → List Check → Lesson
lesson_with l n checks = record { needs = needs_after l.needs checks; left = l.left ++ left_in n 1 checks }

pushed : (log : List Described) (d : Described)
    → lesson_with (lesson_of log) (length log + 1) d.checks ≡ lesson_of (log ++ d ∷ [])
pushed log d =
    let all : d.checks ≡ take (length d.checks) d.checks = sym (take_all (length d.checks) d.checks (omega arith)) in
    more_learnt log d (lesson_of log) (lesson_with (lesson_of log) (length log + 1) d.checks) (length log + 1)
    (length d.checks) (omega arith) refl refl (ap (needs_after (lesson_of log).needs) all)
    (ap (λ (checks : List Check). (lesson_of log).left ++ left_in (length log + 1) 1 checks) all)

-- what is learnt of a part is learnt of the whole
pub learnt_more : (l : Lesson) (before : List Described) (part whole : Described)
    → l ≡ lesson_of (before ++ part ∷ []) → IsPartOf wanted_to_learn part whole
    → l ≡ lesson_of (before ++ whole ∷ [])
learnt_more l before part whole is of_it =
    is ∙ sym (pushed before part)
    ∙ same_of_checks (lesson_with (lesson_of before) (length before + 1)) wanted_to_learn part whole of_it
    (λ which nonce source. refl)
    ∙ pushed before whole

-- The output

abbrev limited : Origin → Lesson → Bool → Option Built
limited o l few = if few then Some (learnt_output (policy_for o l.needs) l.left) else None

-- the sources are as few as a policy file may have
pub few_learnt : (o : Origin) (l : Lesson) (made : Learnt) (built : Built) → length l.needs ≤ need_limit
    → made.policy ≡ policy_for o l.needs → made.left ≡ l.left → built ≡ printed made
    → lesson_output o l ≡ Some built
few_learnt o l made built few policy left is =
    let fits : nat_le (length l.needs) need_limit ≡ true = grind (arith, nat_tests, few) in
    let some : Built → Option Built = λ b. Some b in
    ap (limited o l) fits
    ∙ ap some
    (sym
    (is ∙ ap (λ (p : Policy). learnt_output p made.left) policy
    ∙ ap (λ (places : List Place). learnt_output (policy_for o l.needs) places) left))
