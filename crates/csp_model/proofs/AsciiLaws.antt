-- Texts whose bytes are below 128 are UTF-8.
use Rattle.std.proofs.Common.{arith, ◌≡◌, ◌<◌, ℕ, true, List, [], ◌∷◌}
use Rattle.std.specs.Str.{IsAscii, IsUtf8}
use Rattle.std.proofs.lemmas.Str.{IsUtf8-from_ascii}
use Rattle.std.proofs.lemmas.Str.Ascii.{IsAscii-nil, IsAscii-cons}
use Rattle.csp_model.specs.Ascii.{is_ascii_text}

ascii_is : (s : List ℕ) → is_ascii_text s ≡ true → IsAscii s
ascii_is [] h = IsAscii-nil
ascii_is (x ∷ s) h = let small : x < 128 = grind arith in IsAscii-cons x s small (ascii_is s (grind arith))

pub IsUtf8-from_ascii_text : (s : List ℕ) → is_ascii_text s ≡ true → IsUtf8 s
IsUtf8-from_ascii_text s h = IsUtf8-from_ascii s (ascii_is s h)
