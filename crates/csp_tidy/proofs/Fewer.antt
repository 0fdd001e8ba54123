-- A list without one candidate has fewer tokens.
use Rattle.std.proofs.Common.{arith, ◌≡◌, subst, ℕ, zero, suc, ◌+◌, ◌<◌, false, List, [], ◌∷◌, length, map}
use Rattle.std.specs.Prelude.{MatchOption, slice_get}
use Rattle.std.specs.List.{fold, remove, sum_by, All}
use Rattle.std.proofs.lemmas.List.Elements.{All-head, All-tail}
use Rattle.csp_model.specs.Policies.{IsReadable, IsReadablePolicy, token_count}
use Rattle.csp_model.specs.Reading.{source_of}
use Rattle.csp_model.specs.declared.policy.Directive.{Directive}
use Rattle.csp_model.specs.declared.policy.Policy.{Policy}
use Rattle.csp_model.specs.declared.policy.PolicyList.{PolicyList}
use Rattle.csp_model.specs.declared.source.Source.{Source}
use Rattle.csp_tidy.specs.Candidates.{IsCandidate, IsCandidateIn, IsCandidateOf, change_at, directive_without, policy_without, without, is_report_sample}
use Rattle.csp_tidy.specs.declared.place.TokenPlace.{TokenPlace}
use Rattle.csp_tidy.proofs.Readable.{HasRead}

module _ {A : Type 0} (step : ℕ → A → ℕ) (grows : (a b : ℕ) (x : A) → a < b → step a x < step b x) where
  fold_less : (xs : List A) (a b : ℕ) → a < b → fold step a xs < fold step b xs
  fold_less [] a b less = less
  fold_less (x ∷ xs) a b less = fold_less xs (step a x) (step b x) (grows a b x less)

  fold_fewer : (f : A → A) (n : ℕ) (xs : List A) (a : ℕ) → MatchOption (slice_get xs n) ⊥ (λ (x : A). (b : ℕ) → step b (f x) < step b x)
      → fold step a (change_at f n xs) < fold step a xs
  fold_fewer f n [] a fewer = absurd fewer
  fold_fewer f zero (x ∷ xs) a fewer = fold_less xs (step a (f x)) (step a x) (fewer a)
  fold_fewer f (suc n) (x ∷ xs) a fewer = fold_fewer f n xs (step a x) fewer

removed_shorter : {A : Type 0} (n : ℕ) (xs : List A) → n < length xs → length (remove xs n) < length xs
removed_shorter n [] within = absurd (omega arith)
removed_shorter zero (x ∷ xs) within = omega arith
removed_shorter (suc n) (x ∷ xs) within = let rest = removed_shorter n xs (omega arith) in omega (arith, rest)

pub there : (P : Source → Type 0) (tokens : List (List ℕ)) (n : ℕ) → MatchOption (slice_get (map source_of tokens) n) ⊥ P → n < length tokens
there P [] n is = absurd is
there P (token ∷ tokens) zero is = omega arith
there P (token ∷ tokens) (suc n) is = let rest = there P tokens n is in omega (arith, rest)

abbrev pub tokens_in : Directive → ℕ
tokens_in d = length d.tokens

fewer_directive : (d : Directive) (t : ℕ) → HasRead d → IsCandidateIn d t → (b : ℕ) → b + tokens_in (directive_without t d) < b + tokens_in d
fewer_directive d t read is b =
    let within = there (λ (s : Source). is_report_sample s ≡ false) d.tokens t (subst (λ (ss : List Source). MatchOption (slice_get ss t) ⊥ (λ (s : Source). is_report_sample s ≡ false)) read is.1) in
    let shorter = removed_shorter t d.tokens within in
    omega (arith, shorter)

pub each_at : {A : Type 0} (P Q R : A → Type 0) (xs : List A) (n : ℕ) → All P xs → ((x : A) → P x → Q x → R x) → MatchOption (slice_get xs n) ⊥ Q → MatchOption (slice_get xs n) ⊥ R
each_at P Q R [] n all each is = absurd is
each_at P Q R (x ∷ xs) zero all each is = each x (All-head P x xs all) is
each_at P Q R (x ∷ xs) (suc n) all each is = each_at P Q R xs n (All-tail P x xs all) each is

fewer_policy : (p : Policy) (n t : ℕ) → IsReadablePolicy p → IsCandidateOf p n t → (b : ℕ) → b + sum_by tokens_in (policy_without n t p).directives < b + sum_by tokens_in p.directives
fewer_policy p n t readable is b =
    let fewer = fold_fewer (λ a (d : Directive). a + tokens_in d) (λ a c d less. omega (arith, less)) (directive_without t) n p.directives 0
    (each_at HasRead (λ (d : Directive). IsCandidateIn d t) (λ (d : Directive). (c : ℕ) → c + tokens_in (directive_without t d) < c + tokens_in d) p.directives n readable.read
    (λ d read candidate. fewer_directive d t read candidate) is.1) in
    omega (arith, fewer)

pub fewer_tokens : (list : PolicyList) (place : TokenPlace) → IsReadable list → IsCandidate list place → token_count (without list place).policies < token_count list.policies
fewer_tokens list place readable is =
    fold_fewer (λ a (p : Policy). a + sum_by tokens_in p.directives) (λ a c p less. omega (arith, less)) (policy_without place.directive place.token) place.policy list.policies 0
    (each_at IsReadablePolicy (λ (p : Policy). IsCandidateOf p place.directive place.token)
    (λ (p : Policy). (c : ℕ) → c + sum_by tokens_in (policy_without place.directive place.token p).directives < c + sum_by tokens_in p.directives) list.policies place.policy readable.each
    (λ p read candidate. fewer_policy p place.directive place.token read candidate) is)
