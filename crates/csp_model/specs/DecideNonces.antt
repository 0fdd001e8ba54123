-- Whether an element is nonceable, and its nonce, as functions that compute. They say what `Inline` says.
use Rattle.std.specs.Prelude.{ℕ, Bool, true, false, not, ◌&&◌, ◌||◌, ◌==◌, List, [], ◌∷◌, is_some, codes, unwrap_or, if◌then◌else◌}
use Rattle.std.specs.List.{list_any}
use Rattle.std.specs.Str.{bytes_eq}
use Rattle.csp_model.specs.Ascii.{lower}
use Rattle.csp_model.specs.Inline.{nonce_attribute}

abbrev pub begins : List ℕ → List ℕ → Bool
begins [] text = true
begins (w ∷ word) [] = false
begins (w ∷ word) (c ∷ text) = (c == w) && begins word text

abbrev pub has_word : List ℕ → List ℕ → Bool
has_word word [] = begins word []
has_word word (c ∷ text) = begins word (c ∷ text) || has_word word text

abbrev pub mentions : List ℕ → List ℕ → Bool
mentions word text = has_word word (lower text)

abbrev pub is_suspect : (List ℕ × List ℕ) → Bool
is_suspect attribute = (mentions (codes "<script") attribute.0 || mentions (codes "<style") attribute.0)
    || (mentions (codes "<script") attribute.1 || mentions (codes "<style") attribute.1)

abbrev pub is_nonceable : List ℕ → List (List ℕ × List ℕ) → Bool → Bool
is_nonceable tag attributes duplicate =
    is_some (nonce_attribute attributes) && (not duplicate
    && (not (bytes_eq tag (codes "script")) || not (list_any is_suspect attributes)))

abbrev pub element_nonce : List ℕ → List (List ℕ × List ℕ) → Bool → List ℕ
element_nonce tag attributes duplicate =
    if is_nonceable tag attributes duplicate then unwrap_or (nonce_attribute attributes) [] else []
