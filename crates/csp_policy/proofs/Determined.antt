-- The text of a reading determines the list that a block gives.
use Rattle.std.proofs.Common.{arith, ◌≡◌, ◌∙◌, sym, ap, refl, ℕ, ◌+◌, ◌-◌, ◌<◌, ◌≤◌, ◌^◌, Bool, true, false, cond, nat_lt, List, length, Option, Some, None, Ok}
use Rattle.std.proofs.lemmas.Bool.{ltb-false}
use Rattle.std.proofs.lemmas.List.{length-map}
use Rattle.std.specs.List.{flat_map}
use Rattle.std.specs.Str.Lines.{strip_carriage_return}
use Rattle.csp_model.specs.Ascii.{split_at}
use Rattle.csp_model.specs.Policies.{block_lines, first_bad, line_of, lines_of, policies, without_status}
use Rattle.csp_policy.specs.Types.{Policy, PolicyList, Origin, BlockError}
use Rattle.csp_policy.specs.Delivered.{policy_kept}
use Rattle.csp_policy.specs.Fates.{delivered}
use Rattle.csp_policy.specs.Refusal.{excess, list_of, refusal_at, unless_refused}
use Rattle.csp_policy.specs.declared.error.BlockError.TheVariants.{TooManyPolicies}
use Rattle.csp_policy.proofs.LinesSoFar.{few_lines}
use Rattle.csp_policy.specs.ReadingLines.{reading_text}
use Rattle.csp_policy.specs.Told.{told}
use Rattle.csp_policy.proofs.OneText.{same_numbered, same_policies}
use Rattle.csp_policy.proofs.Sound.{AreSound, lines_from, sound_from}
use Rattle.csp_policy.proofs.Telling.{listed, told_policies}

-- a list that is given is no longer than the limit
not_more : (more : Bool) (other : Option BlockError) (ps : List Policy) (list : PolicyList)
    → unless_refused (cond more (Some TooManyPolicies) other) ps ≡ Ok list → more ≡ false
not_more true other ps list is = absurd (cc is)
not_more false other ps list is = refl

few_of : (ps : List Policy) (list : PolicyList) → unless_refused (excess ps) ps ≡ Ok list → length ps ≤ 64
few_of ps list is = ltb-false 64 (length ps) (not_more (nat_lt 64 (length ps)) _ ps list is)

few : (bad : Option ℕ) (ps : List Policy) (list : PolicyList) → unless_refused (refusal_at bad ps) ps ≡ Ok list → length ps ≤ 64
few None ps list is = few_of ps list is
few (Some line) ps list is = absurd (cc is)

short_lines : (bytes : List ℕ) → length (block_lines bytes) ≤ length bytes + 1
short_lines bytes =
    let as_many : length (block_lines bytes) ≡ length (split_at 10 (without_status bytes)) =
    length-map (lines_of (without_status bytes)) line_of ∙ length-map (split_at 10 (without_status bytes)) strip_carriage_return in
    omega (arith, as_many, few_lines bytes)

abbrev pub KeepsTheList : Type 0
KeepsTheList = (bytes : List ℕ) (origin : Origin) → flat_map (policy_kept origin) (delivered bytes) ≡ policies bytes origin

sound : KeepsTheList → (origin : Origin) (bytes : List ℕ) (list : PolicyList) → length bytes < 2 ^ 32 - 1
    → list_of bytes origin ≡ Ok list → AreSound (told bytes)
sound law origin bytes list short is =
    let as_many : length (flat_map (policy_kept origin) (delivered bytes)) ≡ length (policies bytes origin) =
    ap (λ (ps : List Policy). length ps) (law bytes origin) in
    sound_from origin 0 (delivered bytes)
    (omega (arith, as_many, few (first_bad bytes) (policies bytes origin) list is))
    (lines_from 1 (block_lines bytes) (omega (arith, short, short_lines bytes)))

pub determined : KeepsTheList → (origin : Origin) (one other : List ℕ) (first second : PolicyList) → length one < 2 ^ 32 - 1
    → length other < 2 ^ 32 - 1 → list_of one origin ≡ Ok first → list_of other origin ≡ Ok second
    → reading_text one ≡ reading_text other → first ≡ second
determined law origin one other first second short also is so same =
    let told_same = same_policies origin (told one) (told other) (sound law origin one first short is)
    (sound law origin other second also so) same in
    let kept = same_numbered 0 (flat_map (policy_kept origin) (delivered one)) (flat_map (policy_kept origin) (delivered other))
    (sym (told_policies origin 0 (delivered one)) ∙ told_same ∙ told_policies origin 0 (delivered other)) in
    ap (λ (ps : List Policy). record { policies = ps })
    (sym (listed one origin first is) ∙ sym (law one origin) ∙ kept ∙ law other origin ∙ listed other origin second so)
