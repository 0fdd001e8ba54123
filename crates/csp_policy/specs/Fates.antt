-- What becomes of each piece of a header block (Content Security Policy Level 3, sections 2.2.1 and 3.1 to 3.3).
use Rattle.std.specs.Prelude.{ℕ, Bool, true, false, not, ◌||◌, ◌+◌, if◌then◌else◌, List, [], ◌∷◌, ◌++◌, map, Option, Some, None, codes}
use Rattle.std.specs.List.{filter_map, list_any}
use Rattle.std.specs.Str.{bytes_eq}
use Rattle.csp_model.specs.Ascii.{code, lower, is_ascii_text, is_nonempty, words, split_at}
use Rattle.csp_model.specs.Policies.{Line, Skipped, Bad, Header, block_lines, directive_of, directive_of_words, firsts, is_for_meta}
use Rattle.csp_policy.specs.Types.{Directive, Disposition, Fate, Delivery}
use Rattle.csp_model.specs.declared.policy.Disposition.TheVariants.{Enforce, Report}
use Rattle.csp_policy.specs.declared.fate.Fate.TheVariants.{Empty, Dropped, Kept}
use Rattle.csp_policy.specs.declared.serialized.Delivery.TheVariants.{InHeader, InMeta, Not}
use Rattle.csp_policy.specs.declared.fate.Reason.TheVariants.{Duplicate, NotAscii, NotInMeta}

-- Pieces between semicolons

-- a directive has this name
abbrev pub has_name : List ℕ → List Directive → Bool
has_name name ds = list_any (λ (d : Directive). bytes_eq name d.name) ds

-- a directive, where the policy has these already
abbrev pub fate_among : Bool → List Directive → Directive → Fate
fate_among meta before d =
    if has_name d.name before then Dropped Duplicate
    else if not meta || is_for_meta d then Kept d
    else Dropped NotInMeta

-- the directive that the words of a piece are, where they are one
abbrev pub fate_with : Bool → List Directive → Option Directive → Fate
fate_with meta before None = Empty
fate_with meta before (Some d) = fate_among meta before d

-- a piece, behind these pieces of its serialized policy
abbrev pub fate_of : Bool → List (List ℕ) → List ℕ → Fate
fate_of meta before piece =
    if is_ascii_text piece
    then fate_with meta (firsts (filter_map directive_of before)) (directive_of_words (words piece))
    else Dropped NotAscii

-- pieces, each with what becomes of it, behind these pieces
abbrev pub fates_behind : Bool → List (List ℕ) → List (List ℕ) → List (List ℕ × Fate)
fates_behind meta before [] = []
fates_behind meta before (piece ∷ rest) =
    (piece, fate_of meta before piece) ∷ fates_behind meta (before ++ piece ∷ []) rest

-- the pieces of a serialized policy, each with what becomes of it
abbrev pub fates : Bool → List ℕ → List (List ℕ × Fate)
fates meta text = fates_behind meta [] (split_at (code ";") text)

abbrev pub kept : (List ℕ × Fate) → Option Directive
kept (piece, Kept d) = Some d
kept (piece, fate) = None

-- the piece itself
abbrev pub piece_text : (List ℕ × Fate) → List ℕ
piece_text (piece, fate) = piece

-- it is kept or dropped
abbrev pub is_told : (List ℕ × Fate) → Bool
is_told (piece, Empty) = false
is_told (piece, Dropped reason) = true
is_told (piece, Kept d) = true

-- the piece has a word, or a byte outside ASCII
abbrev pub has_text : List ℕ → Bool
has_text piece = not (is_ascii_text piece) || is_nonempty (words piece)

-- Serialized policies

-- a serialized policy, and the line of the file that delivers it, counted from 1
pub record Serialized : Type 0 where
  pub line : ℕ
  pub disposition : Disposition
  pub meta : Bool
  pub text : List ℕ

-- those between the commas of a header's value
abbrev pub between_commas : ℕ → Disposition → List ℕ → List Serialized
between_commas line disposition value =
    map (λ piece. record { line = line; disposition = disposition; meta = false; text = piece })
    (split_at (code ",") value)

-- how a header delivers policies, by its name in whatever case
abbrev pub delivery_of : List ℕ → Delivery
delivery_of name =
    if bytes_eq (lower name) (codes "content-security-policy") then InHeader Enforce
    else if bytes_eq (lower name) (codes "content-security-policy-report-only") then InHeader Report
    else if bytes_eq (lower name) (codes "meta-content-security-policy") then InMeta
    else Not

-- those that a value delivers so
abbrev pub delivered_as : ℕ → Delivery → List ℕ → List Serialized
delivered_as line (InHeader disposition) value = between_commas line disposition value
delivered_as line InMeta value =
    record { line = line; disposition = Enforce; meta = true; text = value } ∷ []
delivered_as line Not value = []

-- those that a line delivers
abbrev pub delivered_by : ℕ → Line → List Serialized
delivered_by line Skipped = []
delivered_by line Bad = []
delivered_by line (Header name value) = delivered_as line (delivery_of name) value

-- those of lines of which the first has this number
abbrev pub delivered_from : ℕ → List Line → List Serialized
delivered_from number [] = []
delivered_from number (line ∷ lines) = delivered_by number line ++ delivered_from (number + 1) lines

-- the serialized policies of a header block, in order
abbrev pub delivered : List ℕ → List Serialized
delivered bytes = delivered_from 1 (block_lines bytes)
