-- Texts that stand for themselves in JSON (RFC 8259, section 7).
use Rattle.std.specs.Prelude.{ℕ, List, Bool, ◌&&◌, ◌==◌, not, nat_lt}
use Rattle.std.specs.List.{list_all}
use Rattle.csp_model.specs.Ascii.{code}

-- a byte that needs no escape
abbrev pub is_plain : ℕ → Bool
is_plain byte = not (nat_lt byte (code " ")) && (not (byte == code "\"") && not (byte == code "\\"))

abbrev pub are_plain : List ℕ → Bool
are_plain text = list_all is_plain text
