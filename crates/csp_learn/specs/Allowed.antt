-- What a learnt policy allows: a fetch exactly where a source that the log needs of its effective directive
-- matches its URL.
use Rattle.std.specs.Prelude.{◌≡◌, ℕ, Bool, List, ◌↔◌, IsTrue, Any, All}
use Rattle.csp_model.specs.DecideVerdict.{allows}
use Rattle.csp_model.specs.Fetch.{is_redirected}
use Rattle.csp_model.specs.Matching.{Matches}
use Rattle.csp_model.specs.Names.{group_directive}
use Rattle.csp_model.specs.declared.check.Check.{Check}
use Rattle.csp_model.specs.declared.check.Check.TheVariants as check
use Rattle.csp_model.specs.declared.check.Group.{Group}
use Rattle.csp_model.specs.declared.policy.Policy.{Policy}
use Rattle.csp_model.specs.declared.source.Hash.{Hash}
use Rattle.csp_model.specs.declared.url.Origin.{Origin}
use Rattle.csp_model.specs.declared.url.Url.{Url}
use Rattle.csp_learn.specs.Needs.{can_be_named, needed_source}

-- the logged check is a fetch that can be named, and asks for the effective directive of this group
-- of which the source that it needs matches this URL
abbrev pub Needs : Origin → Group → Url → Bool → Check → Type 0
Needs origin kind there redirected (check.Fetch group logged redirects nonce integrity parser_inserted) =
    IsTrue (can_be_named logged) × (group_directive group ≡ group_directive kind)
    × Matches (needed_source logged) origin there redirected
Needs origin kind there redirected asked = ⊥

-- of all fetches the policy allows exactly those whose URL is matched by a source that a logged fetch of the
-- same effective directive needs
abbrev pub AllowsWhatIsNeeded : List Check → Policy → Type 0
AllowsWhatIsNeeded logged policy =
    (kind : Group) (there : Url) (redirects : ℕ) (nonce : List ℕ) (integrity : List Hash)
    (parser_inserted : Bool)
    → (IsTrue (allows policy (check.Fetch kind there redirects nonce integrity parser_inserted))
    ↔ Any (Needs policy.origin kind there (is_redirected redirects)) logged)

-- a fetch that a source can name
abbrev pub IsNameable : Check → Type 0
IsNameable (check.Fetch group there redirects nonce integrity parser_inserted) = IsTrue (can_be_named there)
IsNameable asked = ⊥

-- the policy allows each fetch of the log that a source can name
abbrev pub AllowsTheLog : List Check → Policy → Type 0
AllowsTheLog logged policy = All (λ asked. IsNameable asked → IsTrue (allows policy asked)) logged
