-- A URL that is read with what a report shows of it is what `read_url` and `strip_url` say.
use Rattle.std.proofs.Common.{◌≡◌, refl, subst, ℕ, List, Option, Some, None}
use Rattle.std.specs.Prelude.{[], option_and_then, option_map, unwrap_or}
use Rattle.url.specs.Parts.{Parts}
use Rattle.csp_model.specs.Validity.{IsValidUrl}
use Rattle.csp_url.specs.Types.{Url, ShownUrl}
use Rattle.csp_url.specs.Reading.{parts_of, url_from, url_of}
use Rattle.csp_url.specs.Texts.{shown_url, shown_text, shown_url_from, shown_url_of, stripped_from, stripped_of}
use Rattle.csp_url.proofs.Valid.{url_valid}

abbrev IsBoth : Option Url → List ℕ → ShownUrl → Type 0
IsBoth found shown made = (found ≡ Some made.url) × (option_map (λ _. shown) found ≡ Some made.shown)

both : (found : Option Url) (shown : List ℕ) (made : ShownUrl)
    → option_map (shown_url shown) found ≡ Some made → IsBoth found shown made
both None shown made h = absurd (cc h)
both (Some there) shown made h =
    let same : shown_url shown there ≡ made = cc h in subst (IsBoth (Some there) shown) same (refl, refl)

pub shown_url_both : (text : List ℕ) (made : ShownUrl) → shown_url_of text ≡ Some made
    → (url_of text ≡ Some made.url) × (stripped_of text ≡ Some made.shown)
shown_url_both text made h = by (parts_of text) refl h where
  by : (parts : Option Parts) → parts_of text ≡ parts → shown_url_of text ≡ Some made
      → (url_of text ≡ Some made.url) × (stripped_of text ≡ Some made.shown)
  by None e h = absurd (cc (e, h))
  by (Some parts) e h = rw e (both (url_from parts) (shown_text parts) made (rw e at h))

pub shown_url_valid : (text : List ℕ) (made : ShownUrl) → shown_url_of text ≡ Some made → IsValidUrl made.url
shown_url_valid text made h = url_valid text made.url (shown_url_both text made h).0

-- Both in one reading are both in two

url_apart : (found : Option Url) (shown : List ℕ)
    → option_map (shown_url (unwrap_or (option_map (λ _. shown) found) [])) found ≡ option_map (shown_url shown) found
url_apart None shown = refl
url_apart (Some there) shown = refl

parts_apart : (found : Option Parts)
    → option_map (shown_url (unwrap_or (option_and_then stripped_from found) [])) (option_and_then url_from found)
    ≡ option_and_then shown_url_from found
parts_apart None = refl
parts_apart (Some parts) = url_apart (url_from parts) (shown_text parts)

pub read_apart : (text : List ℕ)
    → option_map (shown_url (unwrap_or (stripped_of text) [])) (url_of text) ≡ shown_url_of text
read_apart text = parts_apart (parts_of text)
