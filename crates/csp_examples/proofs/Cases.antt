-- Tables of cases, of which each holds.
use Rattle.std.proofs.Common.{◌≡◌, ℕ, Bool, true, not, List, [], ◌∷◌, All, map}
use Rattle.std.specs.Bool.{Decides}
use Rattle.std.specs.List.{list_all}
use Rattle.std.proofs.lemmas.Bool.Decides.{Decides-not}
use Rattle.csp_model.specs.Verdict.{verdict_of}
use Rattle.csp_model.proofs.Deciding.{holds, all_decides}
use Rattle.csp_examples.proofs.Values.{headed}
use Rattle.csp_model.specs.declared.check.Check.{Check}
use Rattle.csp_model.specs.declared.policy.PolicyList.{PolicyList}
use Rattle.csp_model.specs.declared.verdict.Verdict.{Verdict}

-- a list of policies, the checks of a request, and the verdict
pub record Case : Type 0 where
  pub list : PolicyList
  pub checks : List Check
  pub verdict : Verdict

-- one check by one header Content-Security-Policy
abbrev pub case : List ℕ → Check → Verdict → Case
case value asked verdict = record { list = headed value; checks = asked ∷ []; verdict = verdict }

-- the checks of a request by any list
abbrev pub request : PolicyList → List Check → Verdict → Case
request list checks verdict = record { list = list; checks = checks; verdict = verdict }

-- each case has its verdict
abbrev pub Hold : List Case → Type 0
Hold cases = map (λ (c : Case). verdict_of c.list c.checks) cases ≡ map (λ (c : Case). c.verdict) cases

-- a relation holds in each of the first cases, and in none of the others
pub record Parts {A : Type 0} (P : A → Type 0) (these others : List A) : Type 0 where
  pub holds : All P these
  pub fails : All (λ a. ¬ P a) others

module _ {A : Type 0} where
  pub parted : {P : A → Type 0} {these others : List A} (p : A → Bool) → ((a : A) → Decides (p a) (P a))
      → list_all p these ≡ true → list_all (λ a. not (p a)) others ≡ true → Parts P these others
  parted {P} {these} {others} p each all none = record {
    holds = holds (all_decides p P each these) all;
    fails = holds (all_decides (λ a. not (p a)) (λ a. ¬ P a) (λ a. Decides-not (p a) (each a)) others) none;
  }
