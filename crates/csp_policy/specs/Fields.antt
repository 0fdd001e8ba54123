-- The values of the fields of a name in a header block (RFC 9110, sections 5.1 and 5.5).
use Rattle.std.specs.Prelude.{ℕ, ◌-◌, if◌then◌else◌, List, length, take, Option, Some, None}
use Rattle.std.specs.Char.{is_ascii_whitespace}
use Rattle.std.specs.List.{filter_map, suffix_len}
use Rattle.std.specs.Str.{bytes_eq}
use Rattle.csp_model.specs.Ascii.{lower, skip_while}
use Rattle.csp_model.specs.Policies.{Line, Skipped, Bad, Header, block_lines}

-- the text without ASCII whitespace at its end
abbrev pub trimmed_end : List ℕ → List ℕ
trimmed_end text = take (length text - suffix_len is_ascii_whitespace text) text

-- the text without ASCII whitespace at both ends
abbrev pub trimmed : List ℕ → List ℕ
trimmed text = trimmed_end (skip_while is_ascii_whitespace text)

-- the value of a line that has this name, in whatever case
abbrev pub value_named : List ℕ → Line → Option (List ℕ)
value_named name Skipped = None
value_named name Bad = None
value_named name (Header field value) =
    if bytes_eq (lower field) (lower name) then Some (trimmed value) else None

-- the values of the lines that have this name, in order
abbrev pub values_named : List ℕ → List ℕ → List (List ℕ)
values_named name bytes = filter_map (value_named name) (block_lines bytes)
