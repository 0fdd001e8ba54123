-- What literals say of the URL of a check.
use Rattle.std.specs.Prelude.{Bool, not, ◌&&◌, ◌||◌, List, [], Option, IsTrue}
use Rattle.csp_model.specs.declared.check.Check.TheVariants as check
use Rattle.csp_model.specs.declared.check.CheckPart.{CheckPart}
use Rattle.csp_model.specs.declared.url.Scheme.{Scheme}
use Rattle.csp_model.specs.declared.url.Url.{Url}
use Rattle.csp_facts.specs.Shapes.{is_url_part, is_path}
use Rattle.csp_facts.specs.Holding.{holds}
use Rattle.csp_facts.specs.declared.atom.Atom.{Atom}
use Rattle.csp_facts.specs.declared.atom.Literal.{Literal}
use Rattle.csp_pick.specs.Parts.{MeetPart}

-- the atom holds for a check that has this URL and no other part
abbrev pub url_holds : Url → Atom → Bool
url_holds there atom = holds [] (check.Base there) atom

-- a shape of this scheme looks at the part of the URL
abbrev pub looks_at_url : Option Scheme → Bool → CheckPart → Bool
looks_at_url scheme compares_paths part = is_url_part scheme part && (not (is_path part) || compares_paths)

-- each literal on a part that is looked at is true
abbrev pub MeetUrl : Option Scheme → Bool → Url → List Literal → Type 0
MeetUrl scheme compares_paths there literals =
    (part : CheckPart) → IsTrue (looks_at_url scheme compares_paths part)
    → MeetPart part (url_holds there) literals
