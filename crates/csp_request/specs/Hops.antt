-- The hops that stand already before those of further URLs, and what is valid of hops.
use Rattle.std.specs.Prelude.{ℕ, ◌<◌, ◌^◌, List, [], ◌∷◌, ◌++◌, All, Result, Ok}
use Rattle.serde_json.specs.Data.{Data}
use Rattle.csp_model.specs.Validity.{IsValidUrl, IsIntegrityValue}
use Rattle.csp_model.specs.declared.source.Hash.{Hash}
use Rattle.csp_model.specs.declared.url.Url.{Url}
use Rattle.csp_request.specs.Members.{◌>>=◌, each}
use Rattle.csp_request.specs.Urls.{hop, hops_from, web_url}
use Rattle.csp_request.specs.declared.error.DescriptionError.{DescriptionError}
use Rattle.csp_request.specs.declared.field.Field.TheVariants as field
use Rattle.csp_request.specs.declared.chain.Hop.{Hop}

-- these hops, and those of URLs that follow
abbrev pub before_hops : List Hop → ℕ → Result (List Url) DescriptionError
    → Result (List Hop) DescriptionError
before_hops hops redirects found = found >>= λ urls. Ok (hops ++ hops_from redirects urls)

-- the hops of a first URL, and of values that follow
abbrev pub hops_of : Url → List Data → Result (List Hop) DescriptionError
hops_of first others = before_hops (hop first 0 ∷ []) 1 (each web_url field.Urls others)

abbrev pub IsValidHop : Hop → Type 0
IsValidHop at = IsValidUrl at.url × (at.redirects < 2 ^ 32)

abbrev pub AreIntegrityValues : List Hash → Type 0
AreIntegrityValues integrity = All (λ (h : Hash). IsIntegrityValue h.value) integrity
