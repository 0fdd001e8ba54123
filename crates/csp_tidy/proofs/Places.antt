-- The numbers of a candidate's policy and token are small, since the list is readable.
use Rattle.std.proofs.Common.{arith, ◌≡◌, subst, ℕ, zero, suc, ◌<◌, ◌≤◌, false, List, [], ◌∷◌, length}
use Rattle.std.specs.Prelude.{MatchOption, slice_get}
use Rattle.std.specs.List.{sum_by}
use Rattle.std.proofs.lemmas.List.Sums.{sum_by-cons}
use Rattle.csp_model.specs.Policies.{IsReadable, IsReadablePolicy, policy_limit, token_count, token_limit}
use Rattle.csp_model.specs.declared.policy.Directive.{Directive}
use Rattle.csp_model.specs.declared.policy.Policy.{Policy}
use Rattle.csp_model.specs.declared.policy.PolicyList.{PolicyList}
use Rattle.csp_model.specs.declared.source.Source.{Source}
use Rattle.csp_tidy.specs.Candidates.{IsCandidate, IsCandidateIn, IsCandidateOf, is_report_sample}
use Rattle.csp_tidy.specs.declared.place.TokenPlace.{TokenPlace}
use Rattle.csp_tidy.proofs.Fewer.{each_at, there, tokens_in}
use Rattle.csp_tidy.proofs.Readable.{HasRead}

stands : {A : Type 0} (P : A → Type 0) (xs : List A) (n : ℕ) → MatchOption (slice_get xs n) ⊥ P → n < length xs
stands P [] n is = absurd is
stands P (x ∷ xs) zero is = omega arith
stands P (x ∷ xs) (suc n) is = let rest = stands P xs n is in omega (arith, rest)

-- what is less than one number is less than the sum
below_sum : {A : Type 0} (f : A → ℕ) (t : ℕ) (xs : List A) (n : ℕ) → MatchOption (slice_get xs n) ⊥ (λ (x : A). t < f x)
    → t < sum_by f xs
below_sum f t [] n is = absurd is
below_sum f t (x ∷ xs) zero is = let sum = sum_by-cons f x xs in omega (arith, sum, is)
below_sum f t (x ∷ xs) (suc n) is =
    let sum = sum_by-cons f x xs in
    let rest = below_sum f t xs n is in
    omega (arith, sum, rest)

below_directive : (d : Directive) (t : ℕ) → HasRead d → IsCandidateIn d t → t < tokens_in d
below_directive d t read is =
    let P : Source → Type 0 = λ s. is_report_sample s ≡ false in
    there P d.tokens t (subst (λ (ss : List Source). MatchOption (slice_get ss t) ⊥ P) read is.1)

below_policy : (p : Policy) (n t : ℕ) → IsReadablePolicy p → IsCandidateOf p n t → t < sum_by tokens_in p.directives
below_policy p n t readable is =
    below_sum tokens_in t p.directives n
    (each_at HasRead (λ (d : Directive). IsCandidateIn d t) (λ (d : Directive). t < tokens_in d) p.directives n readable.read
    (λ d read candidate. below_directive d t read candidate) is.1)

pub token_below : (list : PolicyList) (place : TokenPlace) → IsReadable list → IsCandidate list place → place.token < token_limit
token_below list place readable is =
    let counted : place.token < token_count list.policies =
    below_sum (λ (p : Policy). sum_by tokens_in p.directives) place.token list.policies place.policy
    (each_at IsReadablePolicy (λ (p : Policy). IsCandidateOf p place.directive place.token)
    (λ (p : Policy). place.token < sum_by tokens_in p.directives) list.policies place.policy readable.each
    (λ p read candidate. below_policy p place.directive place.token read candidate) is) in
    let few : token_count list.policies ≤ token_limit = readable.tokens in
    omega (arith, counted, few)

pub policy_below : (list : PolicyList) (place : TokenPlace) → IsReadable list → IsCandidate list place
    → place.policy < policy_limit
policy_below list place readable is =
    let counted : place.policy < length list.policies =
    stands (λ (p : Policy). IsCandidateOf p place.directive place.token) list.policies place.policy is in
    let few : length list.policies ≤ policy_limit = readable.policies in
    omega (arith, counted, few)
