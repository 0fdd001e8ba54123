-- The tokens of a list of policies that may be taken away, by their places.
use Rattle.std.specs.Prelude.{◌≡◌, ℕ, zero, suc, ◌+◌, Bool, true, false, not, ◌&&◌, if◌then◌else◌, List, [], ◌∷◌, ◌++◌, MatchOption, slice_get}
use Rattle.std.specs.List.{remove}
use Rattle.csp_model.specs.Governing.{is_named}
use Rattle.csp_model.specs.Verdict.{is_enforce}
use Rattle.csp_match.specs.Candidates.{can_govern}
use Rattle.csp_model.specs.declared.name.Name.TheVariants.{Sandbox}
use Rattle.csp_model.specs.declared.policy.Directive.{Directive}
use Rattle.csp_model.specs.declared.policy.Policy.{Policy}
use Rattle.csp_model.specs.declared.policy.PolicyList.{PolicyList}
use Rattle.csp_model.specs.declared.source.Keyword.TheVariants.{ReportSample}
use Rattle.csp_model.specs.declared.source.Source.{Source}
use Rattle.csp_model.specs.declared.source.Source.TheVariants.{Word}
use Rattle.csp_tidy.specs.declared.place.TokenPlace.{TokenPlace}

-- the directive decides by sources: it can govern a check, and isn't `sandbox`
abbrev pub has_source_name : Directive → Bool
has_source_name d = can_govern d && not (is_named Sandbox d)

-- 'report-sample' allows nothing: it asks that reports show samples
abbrev pub is_report_sample : Source → Bool
is_report_sample (Word ReportSample) = true
is_report_sample other = false

-- Each candidate, in order

-- of these sources, of which the first has this number
abbrev pub source_candidates : ℕ → ℕ → ℕ → List Source → List TokenPlace
source_candidates policy directive number [] = []
source_candidates policy directive number (s ∷ sources) =
    if is_report_sample s then source_candidates policy directive (number + 1) sources
    else record { policy = policy; directive = directive; token = number }
    ∷ source_candidates policy directive (number + 1) sources

-- of these directives, of which the first has this number
abbrev pub directive_candidates : ℕ → ℕ → List Directive → List TokenPlace
directive_candidates policy number [] = []
directive_candidates policy number (d ∷ ds) =
    (if has_source_name d then source_candidates policy number 0 d.sources else [])
    ++ directive_candidates policy (number + 1) ds

-- of these policies, of which the first has this number
abbrev pub policy_candidates : ℕ → List Policy → List TokenPlace
policy_candidates number [] = []
policy_candidates number (p ∷ ps) =
    (if is_enforce p.disposition then directive_candidates number 0 p.directives else [])
    ++ policy_candidates (number + 1) ps

-- the places of all candidates of a list, ordered by policy, directive and token: the tokens of enforced
-- policies in directives that decide by sources, but for 'report-sample'
abbrev pub candidates : PolicyList → List TokenPlace
candidates list = policy_candidates 0 list.policies

-- at this place

abbrev pub IsCandidateIn : Directive → ℕ → Type 0
IsCandidateIn d token =
    (has_source_name d ≡ true)
    × MatchOption (slice_get d.sources token) ⊥ (λ (s : Source). is_report_sample s ≡ false)

abbrev pub IsCandidateOf : Policy → ℕ → ℕ → Type 0
IsCandidateOf p directive token =
    (is_enforce p.disposition ≡ true)
    × MatchOption (slice_get p.directives directive) ⊥ (λ (d : Directive). IsCandidateIn d token)

-- a candidate stands at the place
abbrev pub IsCandidate : PolicyList → TokenPlace → Type 0
IsCandidate list place =
    MatchOption (slice_get list.policies place.policy) ⊥
    (λ (p : Policy). IsCandidateOf p place.directive place.token)

-- A list without one token

-- the items with another one at this place, made of the one that stands there
abbrev pub change_at : {A : Type 0} → (A → A) → ℕ → List A → List A
change_at f place [] = []
change_at f zero (x ∷ xs) = f x ∷ xs
change_at f (suc place) (x ∷ xs) = x ∷ change_at f place xs

abbrev pub directive_without : ℕ → Directive → Directive
directive_without token d =
    record { name = d.name; tokens = remove d.tokens token; sources = remove d.sources token }

abbrev pub policy_without : ℕ → ℕ → Policy → Policy
policy_without directive token p = record {
  disposition = p.disposition;
  meta = p.meta;
  origin = p.origin;
  directives = change_at (directive_without token) directive p.directives;
}

-- the list without the token at the place and its source, all else unchanged
abbrev pub without : PolicyList → TokenPlace → PolicyList
without list place = record {
  policies = change_at (policy_without place.directive place.token) place.policy list.policies;
}
