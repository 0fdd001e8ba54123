-- One more request that is explained.
use Rattle.std.proofs.Common.{◌≡◌, ◌+◌, ℕ, Bool, true, false, ◌||◌, List, [], ◌∷◌, ◌++◌, length}
use Rattle.std.proofs.Common.{refl, ap, arith, sym, ◌∙◌, append-nil, append_assoc}
use Rattle.std.specs.List.{list_any}
use Rattle.csp_model.specs.declared.policy.PolicyList.{PolicyList}
use Rattle.csp_model.specs.declared.verdict.Described.{Described}
use Rattle.csp_output.specs.Explanations.{Explained, explained_from, is_blocked, request_text, with_request}
use Rattle.csp_output.proofs.NamedDigests.{same_explained}
use Rattle.csp_request.proofs.Parts.{same_of_checks}
use Rattle.csp_request.specs.Wanted.{IsPartOf}
use Rattle.csp_request.specs.declared.texts.ReportTexts.TheVariants.{Empty}
use Rattle.csp_output.specs.Taken.{explained_of}
use Rattle.csp_verdict.specs.Algorithms.{algorithms_of}

one_text : (list : PolicyList) (n : ℕ) (before : List Described) (d : Described)
    → explained_from n list (before ++ d ∷ [])
    ≡ explained_from n list before ++ request_text list (length before + n) d.checks
one_text list n [] d =
    append-nil (request_text list n d.checks)
    ∙ ap (λ (k : ℕ). request_text list k d.checks) (let e : n ≡ length {A = Described} [] + n = omega arith in e)
one_text list n (first ∷ before) d =
    let here : List ℕ = request_text list n first.checks in
    ap (λ (rest : List ℕ). here ++ rest) (one_text list (n + 1) before d)
    ∙ sym (append_assoc here (explained_from (n + 1) list before) (request_text list (length before + (n + 1)) d.checks))
    ∙ ap (λ (k : ℕ). explained_from n list (first ∷ before) ++ request_text list k d.checks)
    (let e : length before + (n + 1) ≡ length (first ∷ before) + n = omega arith in e)

or_assoc : (a b c : Bool) → (a || (b || c)) ≡ ((a || b) || c)
or_assoc true b c = refl
or_assoc false b c = refl

or_false : (b : Bool) → (b || false) ≡ b
or_false true = refl
or_false false = refl

one_more : (list : PolicyList) (before : List Described) (d : Described)
    → list_any (is_blocked list) (before ++ d ∷ []) ≡ (list_any (is_blocked list) before || is_blocked list d)
one_more list [] d = or_false (is_blocked list d)
one_more list (first ∷ before) d =
    ap (λ (b : Bool). is_blocked list first || b) (one_more list before d)
    ∙ or_assoc (is_blocked list first) (list_any (is_blocked list) before) (is_blocked list d)

pub explained_more : (list : PolicyList) (e : Explained) (n : ℕ) (before : List Described) (part whole : Described)
    → e ≡ explained_of list before → n ≡ length before + 1
    → IsPartOf (record { digests = algorithms_of e.list; texts = Empty }) part whole
    → with_request e n part.checks ≡ explained_of list (before ++ whole ∷ [])
explained_more list e n before part whole was number of_it =
    let Make : List ℕ → Bool → Explained = λ t b. record { list = list; blocked = b; text = t } in
    let so_far : Explained = explained_of list before in
    same_of_checks (with_request e n) (record { digests = algorithms_of e.list; texts = Empty }) part whole of_it
    (same_explained e n)
    ∙ ap (λ (k : Explained). with_request k n whole.checks) was
    ∙ ap (λ (k : ℕ). with_request so_far k whole.checks) number
    ∙ ap (λ (t : List ℕ). Make t (so_far.blocked || is_blocked list whole)) (sym (one_text list 1 before whole))
    ∙ ap (Make (explained_from 1 list (before ++ whole ∷ []))) (sym (one_more list before whole))
