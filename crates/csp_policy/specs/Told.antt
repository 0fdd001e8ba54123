-- What is told of how a policy file is read: each policy that is kept, and each piece that is dropped.
use Rattle.std.specs.Prelude.{ℕ, ◌+◌, Bool, if◌then◌else◌, List, [], ◌∷◌, ◌++◌, Option, Some, None, codes}
use Rattle.std.specs.List.{filter_map, list_any}
use Rattle.std.specs.Str.{bytes_eq}
use Rattle.csp_model.specs.Ascii.{lower}
use Rattle.csp_model.specs.Names.{name_text, names}
use Rattle.csp_model.specs.Verdict.{is_enforce}
use Rattle.csp_policy.specs.Types.{Name, Directive, Disposition, Source, Fate, Reason}
use Rattle.csp_model.specs.declared.name.Name.TheVariants.{Sandbox}
use Rattle.csp_policy.specs.Fates.{Serialized, delivered, fates, kept}
use Rattle.csp_policy.specs.Fields.{trimmed}
use Rattle.csp_policy.specs.declared.fate.Reason.TheVariants.{Duplicate, NotAscii, NotInMeta}

pub data Told : Type 0 where
  -- the policy's number, its line, disposition and directives, and whether a meta element delivers it
  Policy : ℕ → ℕ → Disposition → Bool → List Directive → Told
  -- the text of a piece, its line, and why it is dropped
  Dropped : List ℕ → ℕ → List ℕ → Told

abbrev pub reason_text : Reason → List ℕ
reason_text Duplicate = codes "duplicate"
reason_text NotAscii = codes "not-ascii"
reason_text NotInMeta = codes "not-in-meta"

-- the directives of a serialized policy that are kept
abbrev pub directives_in : List (List ℕ × Fate) → List Directive
directives_in pieces = filter_map kept pieces

-- what is told of a piece that is dropped
abbrev pub told_dropped : ℕ → (List ℕ × Fate) → Option Told
told_dropped line (piece, Fate.Empty) = None
told_dropped line (piece, Fate.Dropped reason) = Some (Dropped (trimmed piece) line (reason_text reason))
told_dropped line (piece, Fate.Kept directive) = None

-- what is told of a serialized policy with these directives, and of one in which none is left
abbrev pub told_policy : ℕ → Serialized → List Directive → Told
told_policy number s [] = Dropped (trimmed s.text) s.line (codes "empty-policy")
told_policy number s (d ∷ ds) = Policy number s.line s.disposition s.meta (d ∷ ds)

-- the number of the policy behind one with these directives
abbrev pub number_behind : ℕ → List Directive → ℕ
number_behind number [] = number
number_behind number (d ∷ ds) = number + 1

-- what is told of a serialized policy and its pieces
abbrev pub told_with : ℕ → Serialized → List (List ℕ × Fate) → List Told
told_with number s pieces =
    told_policy number s (directives_in pieces) ∷ filter_map (told_dropped s.line) pieces

-- of serialized policies, the first of which has this number if it is kept
abbrev pub told_from : ℕ → List Serialized → List Told
told_from number [] = []
told_from number (s ∷ rest) =
    told_with number s (fates s.meta s.text)
    ++ told_from (number_behind number (directives_in (fates s.meta s.text))) rest

-- of a header block, in order
abbrev pub told : List ℕ → List Told
told bytes = told_from 0 (delivered bytes)

-- The directives that decide

abbrev pub is_name : Name → List ℕ → Bool
is_name known name = bytes_eq name (name_text known)

-- it is the name of a directive that may govern a check
unfoldable pub may_govern : List ℕ → Bool
may_govern name = list_any (λ known. is_name known name) names

-- A check may be governed by a directive of this name. A sandbox governs where the policy is enforced.
unfoldable pub decides : Disposition → List ℕ → Bool
decides disposition name =
    if is_name Sandbox name then is_enforce disposition else may_govern name

-- Tokens

-- what kind of a source expression a token is
unfoldable pub kind_text : Source → List ℕ
kind_text Source.Star = codes "star"
kind_text (Source.SchemeOnly scheme) = codes "scheme"
kind_text (Source.Hosted scheme host port path) = codes "host"
kind_text (Source.Word word) = codes "keyword"
kind_text (Source.Nonce value) = codes "nonce"
kind_text (Source.Digest hash) = codes "hash"
kind_text (Source.Other token) =
    if bytes_eq (lower token) (codes "'none'") then codes "none" else codes "other"
