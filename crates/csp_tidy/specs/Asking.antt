-- Words of private contracts, which stand here since contracts cite only specs/: what comes of asking whether a
-- token can go, and of a round over all candidates.
use Rattle.std.specs.Prelude.{◌≡◌, ◌<◌, ◌≤◌, List, map, All, MatchOption, slice_get}
use Rattle.std.specs.List.{filter}
use Rattle.csp_compare.specs.Differences.{effective_names}
use Rattle.csp_model.specs.Policies.{IsReadable, token_count}
use Rattle.csp_model.specs.declared.name.Name.{Name}
use Rattle.csp_model.specs.declared.policy.Directive.{Directive}
use Rattle.csp_model.specs.declared.policy.Policy.{Policy}
use Rattle.csp_model.specs.declared.policy.PolicyList.{PolicyList}
use Rattle.csp_tidy.specs.Candidates.{candidates, without}
use Rattle.csp_tidy.specs.Governed.{governs}
use Rattle.csp_tidy.specs.Thinnings.{AreEquivalent, IsThinning}
use Rattle.csp_tidy.specs.Tidied.{IsNeeded, place_of}
use Rattle.csp_tidy.specs.declared.asking.TokenUse.{TokenUse}
use Rattle.csp_tidy.specs.declared.asking.TokenUse.TheVariants as asked
use Rattle.csp_tidy.specs.declared.place.TokenPlace.{TokenPlace}
use Rattle.csp_tidy.specs.declared.rounds.Round.{Round}
use Rattle.csp_tidy.specs.declared.rounds.Round.TheVariants as round
use Rattle.csp_tidy.specs.declared.rounds.Settled.{Settled}

-- the effective directives of the checks that the directive at the place governs
abbrev pub GovernsAt : PolicyList → TokenPlace → List Name → Type 0
GovernsAt list place names =
    MatchOption (slice_get list.policies place.policy) ⊥ (λ (p : Policy).
    MatchOption (slice_get p.directives place.directive) ⊥ (λ (d : Directive).
    names ≡ filter (governs p d) effective_names))

-- an entry for the candidate, or the equivalent list without it
abbrev pub IsAsked : PolicyList → TokenPlace → TokenUse → Type 0
IsAsked list place (asked.Needed needed) = (place_of needed ≡ place) × IsNeeded list needed
IsAsked list place (asked.Spare thinner) = (thinner ≡ without list place) × AreEquivalent list thinner

-- a list without some of the candidates that is equivalent; of what the old list is a thinning, it is one too
pub record IsThinner (old new : PolicyList) : Type 0 where
  pub readable : IsReadable new
  pub thinning : (first : PolicyList) → IsThinning first old → IsThinning first new
  pub equivalent : AreEquivalent old new
  pub fewer : token_count new.policies ≤ token_count old.policies

-- an entry for each candidate, or a thinner list
abbrev pub IsRound : PolicyList → Round → Type 0
IsRound list (round.Settled needed) =
    (map place_of needed ≡ candidates list) × All (IsNeeded list) needed
IsRound list (round.Thinner thinner) =
    IsThinner list thinner × (token_count thinner.policies < token_count list.policies)

-- a thinner list, and an entry for each of its candidates
pub record IsSettled (old : PolicyList) (settled : Settled) : Type 0 where
  pub thinner : IsThinner old settled.list
  pub places : map place_of settled.needed ≡ candidates settled.list
  pub needed : All (IsNeeded settled.list) settled.needed
