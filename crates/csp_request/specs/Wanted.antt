-- Requests that are described in part.
use Rattle.std.specs.Prelude.{◌≡◌, Ok, true}
use Rattle.serde_json.specs.Data.{Data}
use Rattle.csp_model.specs.declared.verdict.Described.{Described}
use Rattle.csp_token.specs.Digests.{digests_for}
use Rattle.csp_request.specs.Described.{described, described_for}
use Rattle.csp_request.specs.declared.texts.ReportTexts.TheVariants.{Made}
use Rattle.csp_request.specs.declared.wanted.Wanted.{Wanted}

-- what is wanted of a request, and the whole of it: both stand for one description
pub record IsPartOf (wanted : Wanted) (part whole : Described) : Type 0 where
  pub value : Data
  pub of_part : described_for wanted.texts (λ source. digests_for source wanted.digests) value ≡ Ok part
  pub of_whole : described value ≡ Ok whole

-- all that descriptions tell
abbrev pub all_wanted : Wanted
all_wanted = record { digests = record { sha256 = true; sha384 = true; sha512 = true }; texts = Made }
