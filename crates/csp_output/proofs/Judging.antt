-- One more request that is judged.
use Rattle.std.proofs.Common.{◌≡◌, ◌+◌, ℕ, Bool, true, false, ◌||◌, List, [], ◌∷◌, ◌++◌, length}
use Rattle.std.proofs.Common.{refl, ap, arith, sym, ◌∙◌, append-nil, append_assoc}
use Rattle.std.specs.List.{list_any}
use Rattle.csp_model.specs.Verdict.{verdict_of}
use Rattle.csp_model.specs.declared.policy.PolicyList.{PolicyList}
use Rattle.csp_model.specs.declared.verdict.Described.{Described}
use Rattle.csp_model.specs.declared.verdict.Verdict.{Verdict}
use Rattle.csp_output.specs.Lines.{lines_from, verdict_line}
use Rattle.csp_request.proofs.Parts.{same_of_checks}
use Rattle.csp_request.specs.Wanted.{IsPartOf}
use Rattle.csp_request.specs.declared.texts.ReportTexts.TheVariants.{Empty}
use Rattle.csp_output.specs.Taken.{judging_of, verdicts_on}
use Rattle.csp_output.specs.declared.judge_output.Judging.{Judging}
use Rattle.csp_verdict.proofs.NamedDigests.{wanted_verdict}
use Rattle.csp_verdict.specs.Algorithms.{algorithms_of}

one_line : (list : PolicyList) (n : ℕ) (before : List Described) (d : Described)
    → lines_from n (verdicts_on list (before ++ d ∷ []))
    ≡ lines_from n (verdicts_on list before) ++ verdict_line (length before + n) (verdict_of list d.checks)
one_line list n [] d =
    append-nil (verdict_line n (verdict_of list d.checks))
    ∙ ap (λ (k : ℕ). verdict_line k (verdict_of list d.checks)) (let e : n ≡ length {A = Described} [] + n = omega arith in e)
one_line list n (first ∷ before) d =
    let here : List ℕ = verdict_line n (verdict_of list first.checks) in
    ap (λ (rest : List ℕ). here ++ rest) (one_line list (n + 1) before d)
    ∙ sym (append_assoc here (lines_from (n + 1) (verdicts_on list before))
    (verdict_line (length before + (n + 1)) (verdict_of list d.checks)))
    ∙ ap (λ (k : ℕ). lines_from n (verdicts_on list (first ∷ before)) ++ verdict_line k (verdict_of list d.checks))
    (let e : length before + (n + 1) ≡ length (first ∷ before) + n = omega arith in e)

abbrev is_blocked : Verdict → Bool
is_blocked verdict = verdict.blocked

or_assoc : (a b c : Bool) → (a || (b || c)) ≡ ((a || b) || c)
or_assoc true b c = refl
or_assoc false b c = refl

or_false : (b : Bool) → (b || false) ≡ b
or_false true = refl
or_false false = refl

one_more : (list : PolicyList) (before : List Described) (d : Described)
    → list_any is_blocked (verdicts_on list (before ++ d ∷ []))
    ≡ (list_any is_blocked (verdicts_on list before) || (verdict_of list d.checks).blocked)
one_more list [] d = or_false (verdict_of list d.checks).blocked
one_more list (first ∷ before) d =
    let here : Bool = (verdict_of list first.checks).blocked in
    ap (λ (b : Bool). here || b) (one_more list before d)
    ∙ or_assoc here (list_any is_blocked (verdicts_on list before)) (verdict_of list d.checks).blocked

-- what is there, with the verdict on the request of this number
abbrev pub with_verdict : Judging → ℕ → Verdict → Judging
with_verdict j n verdict = record {
  list = j.list;
  lines = j.lines ++ verdict_line n verdict;
  blocked = j.blocked || verdict.blocked;
}

pub judged_more : (list : PolicyList) (j : Judging) (n : ℕ) (verdict : Verdict) (before : List Described)
    (part whole : Described) → j ≡ judging_of list before → n ≡ length before + 1
    → verdict ≡ verdict_of j.list part.checks
    → IsPartOf (record { digests = algorithms_of j.list; texts = Empty }) part whole
    → with_verdict j n verdict ≡ judging_of list (before ++ whole ∷ [])
judged_more list j n verdict before part whole was number is of_it =
    let same : verdict_of j.list part.checks ≡ verdict_of j.list whole.checks =
    same_of_checks (verdict_of j.list) (record { digests = algorithms_of j.list; texts = Empty }) part whole of_it
    (wanted_verdict j.list) in
    let v : Verdict = verdict_of list whole.checks in
    let told : verdict ≡ v =
    is ∙ same ∙ ap (λ (k : Judging). verdict_of k.list whole.checks) was in
    let Make : List ℕ → Bool → Judging = λ t b. record { list = list; lines = t; blocked = b } in
    let so_far : Judging = judging_of list before in
    ap (λ (k : Judging). with_verdict k n verdict) was
    ∙ ap (λ (k : ℕ). with_verdict so_far k verdict) number
    ∙ ap (with_verdict so_far (length before + 1)) told
    ∙ ap (λ (t : List ℕ). Make t (so_far.blocked || v.blocked)) (sym (one_line list 1 before whole))
    ∙ ap (Make (lines_from 1 (verdicts_on list (before ++ whole ∷ [])))) (sym (one_more list before whole))
