-- Values that the examples speak of: URLs, checks, lists and verdicts.
use Rattle.std.proofs.Common.{ℕ, true, false, List, [], ◌∷◌, ◌++◌, None}
use Rattle.std.specs.Prelude.{codes, ◌+◌, ◌-◌, ◌*◌, nat_lt, if◌then◌else◌}
use Rattle.csp_model.specs.Policies.{policies}
use Rattle.csp_model.specs.declared.name.Name.{Name}
use Rattle.csp_model.specs.declared.check.Check.{Check}
use Rattle.csp_model.specs.declared.check.Check.TheVariants as check
use Rattle.csp_model.specs.declared.check.Digests.{Digests}
use Rattle.csp_model.specs.declared.check.Group.TheVariants as group
use Rattle.csp_model.specs.declared.policy.Disposition.TheVariants.{Enforce, Report}
use Rattle.csp_model.specs.declared.policy.Directive.{Directive}
use Rattle.csp_model.specs.declared.policy.Policy.{Policy}
use Rattle.csp_model.specs.declared.policy.PolicyList.{PolicyList}
use Rattle.csp_model.specs.declared.url.Scheme.{Scheme}
use Rattle.csp_model.specs.declared.url.Scheme.TheVariants.{Https}
use Rattle.csp_model.specs.declared.url.Host.TheVariants as host
use Rattle.csp_model.specs.declared.url.Origin.{Origin}
use Rattle.csp_model.specs.declared.url.Origin.TheVariants as origin
use Rattle.csp_model.specs.declared.url.Url.{Url}
use Rattle.csp_model.specs.declared.url.Url.TheVariants as url
use Rattle.csp_model.specs.declared.verdict.Item.{Item}
use Rattle.csp_model.specs.declared.verdict.Verdict.{Verdict}

-- URLs

-- https://a.example
abbrev pub own : Origin
own = origin.Tuple Https (host.Domain (codes "a.example")) None

-- the URL of a scheme, a domain and the pieces of a path, at the default port
abbrev pub at : Scheme → List ℕ → List (List ℕ) → Url
at scheme name path = url.Hosted scheme (host.Domain name) None path

-- https://a.example and these pieces
abbrev pub here : List (List ℕ) → Url
here path = at Https (codes "a.example") path

-- https://b.example/s.js
abbrev pub elsewhere : Url
elsewhere = at Https (codes "b.example") (codes "s.js" ∷ [])

-- Checks

-- a fetch of an image or of a script, with no redirect, nonce or integrity
abbrev pub image : Url → Check
image there = check.Fetch group.Img there 0 [] [] false

abbrev pub script : Url → Check
script there = check.Fetch group.ScriptElem there 0 [] [] false

-- the bytes that lower-case hexadecimal digits spell
abbrev hex_digit : ℕ → ℕ
hex_digit c = if nat_lt c 58 then c - 48 else c - 87

abbrev pub from_hex : List ℕ → List ℕ
from_hex (a ∷ b ∷ rest) = (16 * hex_digit a + hex_digit b) ∷ from_hex rest
from_hex rest = []

-- the digests of the empty text
abbrev pub of_nothing : Digests
of_nothing = record {
  sha256 = from_hex (codes "e3b0c44298fc1c149afbf4c8996fb92427ae41e4649b934ca495991b7852b855");
  sha384 = from_hex (codes "38b060a751ac96384cd9327eb1b1e36a21fdb71114be0743"
      ++ codes "4c0cc7bf63f6e1da274edebfe76f65fbd51ad2f14898b95b");
  sha512 = from_hex (codes "cf83e1357eefb8bdf1542850d66d8007d620e4050b5715dc83f4a921d36ce9ce"
      ++ codes "47d0d13c5d85f2b0ff8318d2877eec2f63b931bd47417a81a538327af927da3e");
}

-- Lists of policies

-- the policies of a header block on a page of an origin, and on one of https://a.example
abbrev pub block_at : Origin → List ℕ → PolicyList
block_at origin bytes = record { policies = policies bytes origin }

abbrev pub block : List ℕ → PolicyList
block bytes = block_at own bytes

-- those of a header Content-Security-Policy with this value
abbrev pub headed : List ℕ → PolicyList
headed value = block (codes "Content-Security-Policy: " ++ (value ++ codes "\n"))

-- that of a meta element
abbrev pub meta : PolicyList
meta =
    block (codes "Meta-Content-Security-Policy: frame-ancestors 'none'; img-src 'none', https://b.example\n")

-- an enforced policy of these directives
abbrev pub policy_with : List Directive → Policy
policy_with ds = record { disposition = Enforce; meta = false; origin = own; directives = ds }

-- Verdicts

abbrev pub enforced : ℕ → Name → Name → Item
enforced policy effective governing =
    record { policy = policy; disposition = Enforce; effective = effective; governing = governing }

abbrev pub reported : ℕ → Name → Name → Item
reported policy effective governing =
    record { policy = policy; disposition = Report; effective = effective; governing = governing }

abbrev pub allowed_with : List Item → Verdict
allowed_with items = record { blocked = false; items = items }

abbrev pub blocked_with : List Item → Verdict
blocked_with items = record { blocked = true; items = items }

abbrev pub allowed : Verdict
allowed = allowed_with []

-- blocked by the first policy
abbrev pub blocked_by : Name → Name → Verdict
blocked_by effective governing = blocked_with (enforced 0 effective governing ∷ [])
