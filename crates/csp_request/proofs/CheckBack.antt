-- A printed check describes itself.
use Rattle.std.proofs.Common.{arith, ◌≡◌, refl, ℕ, ◌<◌, ◌^◌, ◌-◌, List, [], ◌∷◌, Some, Ok}
use Rattle.std.specs.Prelude.{codes}
use Rattle.std.proofs.lemmas.Bool.{le-leb}
use Rattle.std.proofs.lemmas.Str.{chars-nil}
use Rattle.serde_json.specs.Data.{number, unsigned}
use Rattle.csp_model.specs.Validity.{IsValidUrl, IsOriginUrl, IsValidCheck}
use Rattle.csp_model.specs.declared.check.Check.{Check}
use Rattle.csp_model.specs.declared.check.Check.TheVariants as check
use Rattle.csp_model.specs.declared.url.Url.{Url}
use Rattle.csp_model.specs.declared.url.Url.TheVariants as url
use Rattle.csp_token.proofs.ReadsBack.{reads_back}
use Rattle.csp_request.specs.Json.{whole_number}
use Rattle.csp_request.specs.Described.{described_as, ancestor, described}
use Rattle.csp_request.specs.Urls.{shown_parts}
use Rattle.csp_request.specs.Printed.{url_data, printed}
use Rattle.csp_request.specs.declared.field.Field.{Field}
use Rattle.csp_request.specs.declared.field.Field.TheVariants as field
use Rattle.csp_request.proofs.DigestsBack.{digests_back}
use Rattle.csp_request.proofs.NamesBack.{capability_back, inline_back, destination_back, group_back}
use Rattle.csp_request.proofs.UrlBack.{url_back, located_back, url_present}

count_back : (redirects : ℕ) → redirects < 2 ^ 32
    → whole_number (2 ^ 32 - 1) (number (unsigned redirects)) ≡ Some redirects
count_back redirects small = rw (le-leb redirects (2 ^ 32 - 1) (omega arith)) refl

ancestor_back : (field : Field) (there : Url) → IsValidUrl there → IsOriginUrl there
    → ancestor field (url_data there) ≡ Ok (check.Ancestor there)
ancestor_back field (url.Plain scheme) valid origin = rw (url_back field (url.Plain scheme) valid) refl
ancestor_back field (url.Hosted scheme host port path) valid origin =
    rw (url_back field (url.Hosted scheme host port path) valid) (rw origin refl)

-- what a report shows of the request of one check
abbrev pub shown_of : Check → List ℕ
shown_of (check.Fetch group there redirects nonce integrity parser_inserted) = shown_parts there
shown_of (check.Inline kind nonce digests) = codes "inline"
shown_of check.Eval = codes "eval"
shown_of check.Wasm = codes "wasm-eval"
shown_of (check.Base there) = codes "inline"
shown_of (check.Form there redirects) = shown_parts there
shown_of asked = []

-- the printed form of a check describes it alone
pub check_back : (asked : Check) → IsValidCheck asked
    → described (printed asked) ≡ Ok (described_as (asked ∷ []) (shown_of asked) [])
check_back (check.Fetch group there redirects nonce integrity parser_inserted) valid =
    rw (
      destination_back group,
      group_back group,
      url_present there,
      located_back field.Url there valid.0,
      count_back redirects valid.1,
      reads_back integrity valid.3,
    ) refl
check_back (check.Inline kind nonce digests) valid =
    rw (inline_back kind, digests_back field.Digests digests valid.1) refl
check_back check.Eval valid = rw chars-nil refl
check_back check.Wasm valid = refl
check_back (check.Base there) valid = rw (url_present there, url_back field.Url there valid) refl
check_back (check.Form there redirects) valid =
    rw (url_present there, located_back field.Url there valid.0, count_back redirects valid.1) refl
check_back (check.Ancestor there) valid = rw (ancestor_back field.Ancestors there valid.0 valid.1) refl
check_back check.OpaqueAncestor valid = refl
check_back (check.Capability which) valid = rw (capability_back which) refl
check_back check.WorkerStart valid = refl
