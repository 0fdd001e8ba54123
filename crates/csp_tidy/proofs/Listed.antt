-- Each candidate that is listed is one.
use Rattle.std.proofs.Common.{arith, ◌≡◌, sym, refl, subst, ℕ, zero, suc, ◌+◌, true, false, List, [], ◌∷◌, Some, All, inl, inr}
use Rattle.std.specs.Prelude.{slice_get, MatchOption}
use Rattle.std.proofs.lemmas.Bool.{cases_Bool, cond-true, cond-false}
use Rattle.std.proofs.lemmas.List.Elements.{All-nil, All-cons, All-append}
use Rattle.csp_model.specs.Verdict.{is_enforce}
use Rattle.csp_model.specs.declared.policy.Directive.{Directive}
use Rattle.csp_model.specs.declared.policy.Policy.{Policy}
use Rattle.csp_model.specs.declared.policy.PolicyList.{PolicyList}
use Rattle.csp_model.specs.declared.source.Source.{Source}
use Rattle.csp_tidy.specs.Candidates.{has_source_name, is_report_sample, source_candidates, directive_candidates, policy_candidates, candidates, IsCandidateIn, IsCandidateOf, IsCandidate}
use Rattle.csp_tidy.specs.declared.place.TokenPlace.{TokenPlace}

abbrev at : ℕ → ℕ → ℕ → TokenPlace
at policy directive token = record { policy = policy; directive = directive; token = token }

next_place : (n k : ℕ) → n + 1 + k ≡ n + suc k
next_place n k = omega arith

first_place : (n : ℕ) → n + 0 ≡ n
first_place n = omega arith

sources_are : (P : TokenPlace → Type 0) (policy directive n : ℕ) (sources : List Source)
    → ((k : ℕ) (s : Source) → slice_get sources k ≡ Some s → is_report_sample s ≡ false → P (at policy directive (n + k)))
    → All P (source_candidates policy directive n sources)
sources_are P policy directive n [] each = All-nil P
sources_are P policy directive n (s ∷ sources) each =
    let rest = sources_are P policy directive (n + 1) sources (λ k t here may. subst (λ (m : ℕ). P (at policy directive m)) (sym (next_place n k)) (each (suc k) t here may)) in
    elim (cases_Bool (is_report_sample s)) [
      | inl is ↦ subst (All P) (sym (cond-true _ _ _ is)) rest
      | inr is ↦ subst (All P) (sym (cond-false _ _ _ is))
          (All-cons P (at policy directive n) _ (subst (λ (m : ℕ). P (at policy directive m)) (first_place n) (each zero s refl is)) rest)
    ]

directives_are : (P : TokenPlace → Type 0) (policy n : ℕ) (ds : List Directive)
    → ((k : ℕ) (d : Directive) → slice_get ds k ≡ Some d → has_source_name d ≡ true → All P (source_candidates policy (n + k) 0 d.sources))
    → All P (directive_candidates policy n ds)
directives_are P policy n [] each = All-nil P
directives_are P policy n (d ∷ ds) each =
    let rest = directives_are P policy (n + 1) ds (λ k e here may. subst (λ (m : ℕ). All P (source_candidates policy m 0 e.sources)) (sym (next_place n k)) (each (suc k) e here may)) in
    All-append P _ _ (elim (cases_Bool (has_source_name d)) [
      | inl is ↦ subst (All P) (sym (cond-true _ _ _ is)) (subst (λ (m : ℕ). All P (source_candidates policy m 0 d.sources)) (first_place n) (each zero d refl is))
      | inr is ↦ subst (All P) (sym (cond-false _ _ _ is)) (All-nil P)
    ]) rest

policies_are : (P : TokenPlace → Type 0) (n : ℕ) (ps : List Policy)
    → ((k : ℕ) (p : Policy) → slice_get ps k ≡ Some p → is_enforce p.disposition ≡ true → All P (directive_candidates (n + k) 0 p.directives))
    → All P (policy_candidates n ps)
policies_are P n [] each = All-nil P
policies_are P n (p ∷ ps) each =
    let rest = policies_are P (n + 1) ps (λ k q here may. subst (λ (m : ℕ). All P (directive_candidates m 0 q.directives)) (sym (next_place n k)) (each (suc k) q here may)) in
    All-append P _ _ (elim (cases_Bool (is_enforce p.disposition)) [
      | inl is ↦ subst (All P) (sym (cond-true _ _ _ is)) (subst (λ (m : ℕ). All P (directive_candidates m 0 p.directives)) (first_place n) (each zero p refl is))
      | inr is ↦ subst (All P) (sym (cond-false _ _ _ is)) (All-nil P)
    ]) rest

nothing_before : (k : ℕ) → 0 + k ≡ k
nothing_before k = omega arith

-- counted from 0

sources_at : (P : TokenPlace → Type 0) (policy directive : ℕ) (sources : List Source)
    → ((k : ℕ) (s : Source) → slice_get sources k ≡ Some s → is_report_sample s ≡ false → P (at policy directive k)) → All P (source_candidates policy directive 0 sources)
sources_at P policy directive sources each =
    sources_are P policy directive 0 sources (λ k s here may. subst (λ (m : ℕ). P (at policy directive m)) (sym (nothing_before k)) (each k s here may))

directives_at : (P : TokenPlace → Type 0) (policy : ℕ) (ds : List Directive)
    → ((k : ℕ) (d : Directive) → slice_get ds k ≡ Some d → has_source_name d ≡ true → All P (source_candidates policy k 0 d.sources)) → All P (directive_candidates policy 0 ds)
directives_at P policy ds each =
    directives_are P policy 0 ds (λ k d here may. subst (λ (m : ℕ). All P (source_candidates policy m 0 d.sources)) (sym (nothing_before k)) (each k d here may))

policies_at : (P : TokenPlace → Type 0) (ps : List Policy)
    → ((k : ℕ) (p : Policy) → slice_get ps k ≡ Some p → is_enforce p.disposition ≡ true → All P (directive_candidates k 0 p.directives)) → All P (policy_candidates 0 ps)
policies_at P ps each =
    policies_are P 0 ps (λ k p here may. subst (λ (m : ℕ). All P (directive_candidates m 0 p.directives)) (sym (nothing_before k)) (each k p here may))

pub candidates_are : (list : PolicyList) → All (IsCandidate list) (candidates list)
candidates_are list =
    policies_at (IsCandidate list) list.policies (λ i p here enforces.
    directives_at (IsCandidate list) i p.directives (λ j d there named.
    sources_at (IsCandidate list) i j d.sources (λ k s stands may.
    let in_source = subst (λ o. MatchOption o ⊥ (λ (t : Source). is_report_sample t ≡ false)) (sym stands) may in
    let in_directive = subst (λ o. MatchOption o ⊥ (λ (e : Directive). IsCandidateIn e k)) (sym there) (named, in_source) in
    subst (λ o. MatchOption o ⊥ (λ (q : Policy). IsCandidateOf q j k)) (sym here) (enforces, in_directive))))
