-- A check makes each literal of a cell true where its parts do: kind by kind of check.
use Rattle.std.proofs.Common.{◌≡◌, refl, ℕ, Bool, true, false, not, List, Option, Some, None, IsTrue, All}
use Rattle.std.proofs.lemmas.Bool.{false≢true}
use Rattle.csp_model.specs.Parts.{checked_url, checked_nonce, checked_integrity}
use Rattle.csp_model.specs.declared.check.Check.{Check}
use Rattle.csp_model.specs.declared.check.Check.TheVariants as check
use Rattle.csp_model.specs.declared.check.CheckPart.{CheckPart}
use Rattle.csp_model.specs.declared.check.CheckPart.TheVariants as part
use Rattle.csp_model.specs.declared.check.Group.{Group}
use Rattle.csp_model.specs.declared.source.Hash.{Hash}
use Rattle.csp_model.specs.declared.url.Scheme.{Scheme}
use Rattle.csp_model.specs.declared.url.Url.{Url}
use Rattle.csp_facts.specs.Holding.{holds}
use Rattle.csp_facts.specs.declared.atom.Literal.{Literal}
use Rattle.csp_cell.specs.Cells.{IsOf, Meets}
use Rattle.csp_facts.specs.Shapes.{looks_at}
use Rattle.csp_facts.specs.declared.shape.Shape.{Shape}
use Rattle.csp_facts.specs.declared.shape.Shape.TheVariants as shape
use Rattle.csp_pick.specs.Parts.{MeetPart, nonce_holds, integrity_holds}
use Rattle.csp_pick.specs.Urls.{url_holds, looks_at_url, MeetUrl}
use Rattle.csp_pick.proofs.PartLaws.{meet_alike, is_of_url, by_url, by_nonce, by_integrity}

-- URLs

of_url : (scheme : Option Scheme) (compares : Bool) (asked : CheckPart) → IsTrue (looks_at_url scheme compares asked) → is_of_url asked ≡ true
of_url scheme compares part.Host looks = refl
of_url scheme compares part.Port looks = refl
of_url scheme compares part.Path looks = refl
of_url scheme compares part.PlainScheme looks = refl
of_url (Some scheme) compares other looks = absurd (false≢true looks)
of_url None compares other looks = absurd (false≢true looks)

-- Checks

module _ (hashes : List Hash) (literals : List Literal) where
  -- the check makes each literal on the part true
  abbrev MeetsOn : Check → CheckPart → Type 0
  MeetsOn asked one = MeetPart one (holds hashes asked) literals

  by_parts : (kind : Shape) (asked : Check) → All (IsOf kind) literals
      → ((one : CheckPart) → IsTrue (looks_at kind one) → MeetsOn asked one) → Meets hashes asked literals
  by_parts kind asked each on k d below = on _ (each k d below).1 k d below refl

  on_url : (asked : Check) (there : Url) → checked_url asked ≡ Some there → (scheme : Option Scheme) (compares : Bool)
      → MeetUrl scheme compares there literals → (one : CheckPart) → IsTrue (looks_at_url scheme compares one) → MeetsOn asked one
  on_url asked there is scheme compares meet one looks =
      meet_alike one (url_holds there) (holds hashes asked)
      (λ a own. by_url hashes asked there is a (rw own (of_url scheme compares one looks))) literals (meet one looks)

  on_fetch : (asked : Check) (there : Url) (nonce : List ℕ) (pairs : List Hash) → checked_url asked ≡ Some there → checked_nonce asked ≡ Some nonce
      → checked_integrity asked ≡ Some pairs → (group : Group) (scheme : Option Scheme) (redirected parser : Bool)
      → MeetUrl scheme (not redirected) there literals → MeetPart part.Nonce (nonce_holds nonce) literals
      → MeetPart part.Integrity (integrity_holds hashes pairs) literals
      → (one : CheckPart) → IsTrue (looks_at (shape.Fetch group scheme redirected parser) one) → MeetsOn asked one
  on_fetch asked there nonce pairs u n i group scheme redirected parser meet_u meet_n meet_i part.Nonce looks =
      meet_alike part.Nonce (nonce_holds nonce) _ (by_nonce hashes asked nonce n) literals meet_n
  on_fetch asked there nonce pairs u n i group scheme redirected parser meet_u meet_n meet_i part.Integrity looks =
      meet_alike part.Integrity (integrity_holds hashes pairs) _ (by_integrity hashes asked pairs i) literals meet_i
  on_fetch asked there nonce pairs u n i group scheme redirected parser meet_u meet_n meet_i other looks =
      on_url asked there u scheme (not redirected) meet_u other looks

  pub fetch_meets : (group : Group) (scheme : Option Scheme) (redirected parser : Bool) (there : Url) (hops : ℕ)
      (nonce : List ℕ) (pairs : List Hash) → All (IsOf (shape.Fetch group scheme redirected parser)) literals
      → MeetUrl scheme (not redirected) there literals → MeetPart part.Nonce (nonce_holds nonce) literals
      → MeetPart part.Integrity (integrity_holds hashes pairs) literals
      → Meets hashes (check.Fetch group there hops nonce pairs parser) literals
  fetch_meets group scheme redirected parser there hops nonce pairs each u n i =
      let asked = check.Fetch group there hops nonce pairs parser in
      by_parts (shape.Fetch group scheme redirected parser) asked each (on_fetch asked there nonce pairs refl refl refl group scheme redirected parser u n i)

  pub form_meets : (scheme : Option Scheme) (redirected : Bool) (there : Url) (hops : ℕ)
      → All (IsOf (shape.Form scheme redirected)) literals → MeetUrl scheme (not redirected) there literals
      → Meets hashes (check.Form there hops) literals
  form_meets scheme redirected there hops each u =
      by_parts (shape.Form scheme redirected) (check.Form there hops) each (on_url (check.Form there hops) there refl scheme (not redirected) u)

  pub base_meets : (scheme : Option Scheme) (there : Url) → All (IsOf (shape.Base scheme)) literals
      → MeetUrl scheme true there literals → Meets hashes (check.Base there) literals
  base_meets scheme there each u = by_parts (shape.Base scheme) (check.Base there) each (on_url (check.Base there) there refl scheme true u)

  pub ancestor_meets : (scheme : Option Scheme) (there : Url) → All (IsOf (shape.Ancestor scheme)) literals
      → MeetUrl scheme false there literals → Meets hashes (check.Ancestor there) literals
  ancestor_meets scheme there each u =
      by_parts (shape.Ancestor scheme) (check.Ancestor there) each (on_url (check.Ancestor there) there refl scheme false u)
