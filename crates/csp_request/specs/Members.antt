-- The members of a description: each has a form, and one of another form is misused.
use Rattle.std.specs.Prelude.{⊤, ℕ, Bool, List, [], ◌∷◌, codes, Option, Some, None, is_none, ok_or, unwrap_or, Result, Ok, Err, if◌then◌else◌}
use Rattle.serde_json.specs.Data.{Data}
use Rattle.serde_json.specs.Find.{as_str, as_bool}
use Rattle.csp_json.specs.Json.{array_of}
use Rattle.csp_request.specs.Json.{present, whole_number}
use Rattle.csp_request.specs.declared.error.DescriptionError.{DescriptionError}
use Rattle.csp_request.specs.declared.error.DescriptionError.TheVariants.{Misused}
use Rattle.csp_request.specs.declared.field.Field.{Field}
use Rattle.csp_request.specs.declared.field.Field.TheVariants as field

-- a member as it is written
abbrev pub field_text : Field → List ℕ
field_text field.Object = codes "object"
field_text field.Kind = codes "kind"
field_text field.Destination = codes "destination"
field_text field.Url = codes "url"
field_text field.Urls = codes "urls"
field_text field.Redirects = codes "redirects"
field_text field.Response = codes "response"
field_text field.Nonce = codes "nonce"
field_text field.Integrity = codes "integrity"
field_text field.ParserInserted = codes "parser-inserted"
field_text field.InlineType = codes "type"
field_text field.Source = codes "source"
field_text field.Digests = codes "digests"
field_text field.Element = codes "element"
field_text field.Ancestors = codes "ancestors"
field_text field.Page = codes "page"
field_text field.Name = codes "name"

-- what a value is, or the first misuse
abbrev pub Found : Type 0 → Type 0
Found T = Result T DescriptionError

-- the next step, where the first one found something
infixl 10 ◌>>=◌
abbrev pub ◌>>=◌ : {A B : Type 0} → Result A DescriptionError → (A → Result B DescriptionError)
    → Result B DescriptionError
Ok x >>= next = next x
Err e >>= next = Err e

-- what was found, seen by `f`
abbrev pub found_map : {A B : Type 0} → (A → B) → Result A DescriptionError → Result B DescriptionError
found_map f (Ok x) = Ok (f x)
found_map f (Err e) = Err e

abbrev pub misused : {T : Type 0} → Field → Result T DescriptionError
misused field = Err (Misused field)

-- what has to be there
abbrev pub needed : {T : Type 0} → Field → Option T → Result T DescriptionError
needed field found = ok_or found (Misused field)

-- what has to hold
abbrev pub demand : Field → Bool → Result ⊤ DescriptionError
demand field holds = if holds then Ok tt else misused field

-- The forms: what a value stands for, which the member of this name holds, or the member's misuse.

abbrev pub Form : Type 0 → Type 0
Form T = Field → Data → Result T DescriptionError

abbrev pub text : Form (List ℕ)
text field value = needed field (as_str value)

-- a text that is one of some names
abbrev pub named : {T : Type 0} → (List ℕ → Option T) → Form T
named by_name field value = text field value >>= λ word. needed field (by_name word)

abbrev pub flag : Form Bool
flag field value = needed field (as_bool value)

abbrev pub number : ℕ → Form ℕ
number greatest field value = needed field (whole_number greatest value)

abbrev pub array : Form (List Data)
array field value = needed field (array_of value)

-- the items of an array, all of one form
abbrev pub each : {T : Type 0} → Form T → Field → List Data → Result (List T) DescriptionError
each form field [] = Ok []
each form field (value ∷ values) = do
  first ← form field value
  rest ← each form field values
  Ok (first ∷ rest)

-- The members

abbrev pub by_form : {T : Type 0} → Form T → Field → Option Data → Result (Option T) DescriptionError
by_form form field None = Ok None
by_form form field (Some value) = form field value >>= λ found. Ok (Some found)

-- a part of what a member holds, by its name; none where it is absent
abbrev pub part : {T : Type 0} → List ℕ → Form T → Field → Data → Result (Option T) DescriptionError
part name form field value = by_form form field (present name value)

-- a part that has to be there
abbrev pub needed_part : {T : Type 0} → List ℕ → Form T → Field → Data → Result T DescriptionError
needed_part name form field value = part name form field value >>= needed field

-- a part, or what its absence gives
abbrev pub part_or_else : {T : Type 0} → T → List ℕ → Form T → Field → Data → Result T DescriptionError
part_or_else absent name form field value =
    part name form field value >>= λ found. Ok (unwrap_or found absent)

-- a member that may be absent
abbrev pub optional : {T : Type 0} → Form T → Field → Data → Result (Option T) DescriptionError
optional form field value = part (field_text field) form field value

-- a member that has to be there
abbrev pub required : {T : Type 0} → Form T → Field → Data → Result T DescriptionError
required form field value = optional form field value >>= needed field

-- a member, or what its absence gives
abbrev pub or_else : {T : Type 0} → T → Form T → Field → Data → Result T DescriptionError
or_else absent form field value = part_or_else absent (field_text field) form field value

abbrev pub is_absent : Field → Data → Bool
is_absent field value = is_none (present (field_text field) value)
