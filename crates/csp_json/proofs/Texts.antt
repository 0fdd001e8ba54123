-- The JSON value of bytes, as reading gives it.
use Rattle.std.proofs.Common.{◌≡◌, ℕ, List, sym, refl, true, false, IsUtf8, Some, None, cond}
use Rattle.std.specs.Str.{is_utf8}
use Rattle.std.proofs.lemmas.Str.{is_utf8-from_IsUtf8, IsUtf8-from_is_utf8}
use Rattle.serde_json.specs.Data.{Data}
use Rattle.serde_json.specs.Read.{read}
use Rattle.csp_json.specs.Json.{json_of}

-- what is read of UTF-8 is its JSON value
pub json_is : (bytes : List ℕ) → IsUtf8 bytes → json_of bytes ≡ read bytes
json_is bytes text = rw (is_utf8-from_IsUtf8 bytes text) refl

-- other bytes have none
pub no_text : (bytes : List ℕ) → (IsUtf8 bytes → ⊥) → json_of bytes ≡ None
no_text bytes none =
    elim (is_utf8 bytes) as (λ b. is_utf8 bytes ≡ b → cond b (read bytes) None ≡ None) [
      | true ↦ λ e. absurd (none (IsUtf8-from_is_utf8 bytes e))
      | false ↦ λ e. refl
    ] refl
