-- Words on bytes and ASCII texts (Infra Standard, section 4.6).
use Rattle.std.specs.Prelude.{ℕ, ◌-◌, ◌==◌, Bool, List, [], ◌∷◌, length, map, filter, take, drop, nat_lt, nat_eq, if◌then◌else◌}
use Rattle.std.specs.List.{slice_split, list_all, ends_with, prefix_len}
use Rattle.std.specs.Char.{is_ascii_whitespace, to_ascii_lowercase}
-- the byte of one character, as `code "."`
pub use Prim.Native.Char.{code}

-- the text in ASCII lower case
abbrev pub lower : List ℕ → List ℕ
lower text = map to_ascii_lowercase text

-- each byte is below 128
abbrev pub is_ascii_text : List ℕ → Bool
is_ascii_text text = list_all (λ b. nat_lt b 128) text

abbrev pub is_nonempty : {A : Type 0} → List A → Bool
is_nonempty xs = nat_lt 0 (length xs)

-- the list without its last item
abbrev pub without_last : {A : Type 0} → List A → List A
without_last xs = take (length xs - 1) xs

-- the text ends in this byte
abbrev pub ends_in : ℕ → List ℕ → Bool
ends_in c text = ends_with nat_eq text (c ∷ [])

-- the text without one such byte at its end
abbrev pub without_final : ℕ → List ℕ → List ℕ
without_final c text = if ends_in c text then without_last text else text

-- what is left behind the longest front whose bytes pass
abbrev pub skip_while : (ℕ → Bool) → List ℕ → List ℕ
skip_while p text = drop (prefix_len p text) text

-- the parts of a text between these bytes
abbrev pub split_at : ℕ → List ℕ → List (List ℕ)
split_at c text = slice_split (λ b. b == c) text

-- the longest runs of bytes that are no ASCII whitespace, in order
abbrev pub words : List ℕ → List (List ℕ)
words text = filter is_nonempty (slice_split is_ascii_whitespace text)
