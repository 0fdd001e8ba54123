-- The URL of parts that are given is valid.
use Rattle.std.proofs.Common.{◌≡◌, ap, refl, subst, ℕ, Bool, true, false, List, Option, Some, None, Result, Ok, Err}
use Rattle.std.specs.Prelude.{is_some, if◌then◌else◌, bytes_eq, codes}
use Rattle.csp_model.specs.Schemes.{scheme_named}
use Rattle.csp_model.specs.Validity.{is_lower_scheme, IsValidUrl}
use Rattle.csp_model.specs.declared.url.Scheme.{Scheme}
use Rattle.csp_model.specs.declared.url.Url.{Url}
use Rattle.csp_model.specs.declared.url.Url.TheVariants as url
use Rattle.csp_url.specs.Parts.{plain_of_parts, url_of_parts, url_of_parts_by}
use Rattle.csp_url.specs.declared.error.Part.TheVariants as part
use Rattle.csp_url.specs.declared.error.PartsError.{PartsError}
use Rattle.csp_url.specs.declared.error.PartsError.TheVariants.{Bad}
use Rattle.csp_url.proofs.Valid.{hosted_of_parts_valid}

plain_of_parts_valid : (scheme : List ℕ) (host : Option (List ℕ)) (port : Option ℕ) (path : List ℕ) (there : Url)
    → is_lower_scheme scheme ≡ true → scheme_named scheme ≡ None → plain_of_parts scheme host port path ≡ Ok there
    → IsValidUrl there
plain_of_parts_valid scheme (Some h) port path there lower none is = absurd (cc is)
plain_of_parts_valid scheme None (Some p) path there lower none is = absurd (cc is)
plain_of_parts_valid scheme None None path there lower none is = by (bytes_eq path (codes "/")) is where
  by : (b : Bool) → ◌≡◌ {A = Result Url PartsError} (if b then Ok (url.Plain scheme) else Err (Bad part.Path)) (Ok there) → IsValidUrl there
  by true e = let same : url.Plain scheme ≡ there = cc e in subst IsValidUrl same (lower, ap is_some none)
  by false e = absurd (cc e)

-- the URL of parts that are given is valid
pub parts_url_valid : (scheme : List ℕ) (host : Option (List ℕ)) (port : Option ℕ) (path : List ℕ) (there : Url)
    → url_of_parts scheme host port path ≡ Ok there → IsValidUrl there
parts_url_valid scheme host port path there is = by (is_lower_scheme scheme) (scheme_named scheme) refl refl is where
  by : (lower : Bool) (known : Option Scheme) → is_lower_scheme scheme ≡ lower → scheme_named scheme ≡ known
      → (if lower then url_of_parts_by known scheme host port path else Err (Bad part.Scheme)) ≡ Ok there → IsValidUrl there
  by true (Some s) low named e = hosted_of_parts_valid s host port path there e
  by true None low named e = plain_of_parts_valid scheme host port path there low named e
  by false known low named e = absurd (cc e)
