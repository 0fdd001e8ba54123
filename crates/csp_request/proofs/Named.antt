-- A member that has to be one of some names is a text that has to be there, and that is one of them.
use Rattle.std.proofs.Common.{◌≡◌, ◌∙◌, ℕ, List, Option, Some, None, Ok, Err, refl, sym, ap}
use Rattle.serde_json.specs.Data.{Data}
use Rattle.csp_request.specs.Json.{present}
use Rattle.csp_request.specs.Members.{◌>>=◌, Found, field_text, by_form, needed, named, text, required, needed_part}
use Rattle.csp_request.specs.declared.field.Field.{Field}

there : {T : Type 0} (field : Field) (found : Found T) → ((found >>= λ x. Ok (Some x)) >>= needed field) ≡ found
there field (Ok x) = refl
there field (Err e) = refl

by_name_form : {T : Type 0} (by_name : List ℕ → Option T) (field : Field) (value : Option Data)
    → (by_form (named by_name) field value >>= needed field)
    ≡ ((by_form text field value >>= needed field) >>= λ word. needed field (by_name word))
by_name_form by_name field None = refl
by_name_form by_name field (Some value) =
    there field (named by_name field value)
    ∙ sym (ap (λ (found : Found (List ℕ)). found >>= λ word. needed field (by_name word)) (there field (text field value)))

pub needed_named : {T : Type 0} (name : List ℕ) (by_name : List ℕ → Option T) (field : Field) (value : Data)
    → needed_part name (named by_name) field value
    ≡ (needed_part name text field value >>= λ word. needed field (by_name word))
needed_named name by_name field value = by_name_form by_name field (present name value)

pub required_named : {T : Type 0} (by_name : List ℕ → Option T) (field : Field) (value : Data)
    → required (named by_name) field value
    ≡ (required text field value >>= λ word. needed field (by_name word))
required_named by_name field value = needed_named (field_text field) by_name field value
