-- What comes of tidying a list of policies.
use Rattle.std.specs.Prelude.{◌≡◌, not, map, All}
use Rattle.csp_compare.specs.Answers.{IsPrinted}
use Rattle.csp_model.specs.Validity.{IsValidCheck}
use Rattle.csp_model.specs.Policies.{IsReadable}
use Rattle.csp_model.specs.Verdict.{list_allows}
use Rattle.csp_model.specs.declared.policy.PolicyList.{PolicyList}
use Rattle.csp_tidy.specs.Candidates.{candidates, without}
use Rattle.csp_tidy.specs.Thinnings.{AreEquivalent, IsThinning}
use Rattle.csp_tidy.specs.declared.place.TokenPlace.{TokenPlace}
use Rattle.csp_tidy.specs.declared.tidying.Needed.{Needed}
use Rattle.csp_tidy.specs.declared.tidying.Tidied.{Tidied}

abbrev pub place_of : Needed → TokenPlace
place_of needed =
    record { policy = needed.policy; directive = needed.directive; token = needed.token }

-- A check tells the list from the list without the token: the entry says which of the two allows it.
pub record IsNeeded (list : PolicyList) (needed : Needed) : Type 0 where
  pub valid : IsValidCheck needed.check
  pub with_token : list_allows list needed.check ≡ needed.allowed_with
  pub without_token : list_allows (without list (place_of needed)) needed.check ≡ not needed.allowed_with

-- The list is an equivalent thinning of the old one, which the two proofs show; for each of its candidates,
-- in order, there is an entry that shows that the token can't go.
pub record IsTidied (old : PolicyList) (tidied : Tidied) : Type 0 where
  pub readable : IsReadable tidied.list
  pub thinning : IsThinning old tidied.list
  pub equivalent : AreEquivalent old tidied.list
  pub forward : IsPrinted old tidied.list tidied.forward
  pub backward : IsPrinted tidied.list old tidied.backward
  pub places : map place_of tidied.needed ≡ candidates tidied.list
  pub needed : All (IsNeeded tidied.list) tidied.needed
