-- A turn of a loop over values, each of one form: what the value stands for stands before the rest.
use Rattle.std.proofs.Common.{◌≡◌, ℕ, ◌+◌, ◌<◌, List, [], ◌∷◌, ◌++◌, length, map, drop, get_or, Result, Ok, Err, refl, ap, sym, ◌∙◌, add-one, append_assoc, drop-cons, All}
use Rattle.std.proofs.lemmas.List.Elements.{All-append, All-cons, All-nil}
use Rattle.csp_json.specs.View.{view}
use Rattle.csp_json.specs.declared.value.Value.{Value}
use Rattle.csp_model.specs.declared.url.Url.{Url}
use Rattle.csp_request.specs.Hops.{before_hops}
use Rattle.csp_request.specs.Members.{◌>>=◌, Form, each, found_map}
use Rattle.csp_request.specs.Urls.{hop}
use Rattle.csp_request.specs.declared.chain.Hop.{Hop}
use Rattle.csp_request.specs.declared.error.DescriptionError.{DescriptionError}
use Rattle.csp_request.specs.declared.field.Field.{Field}

pub each_drop : {T : Type 0} (form : Form T) (field : Field) (items : List Value) (i : ℕ) (value : Value) (found : T)
    → i < length items → value ≡ get_or items i value → form field (view value) ≡ Ok found
    → each form field (map view (drop i items))
    ≡ (each form field (map view (drop (i + 1) items)) >>= λ rest. Ok (found ∷ rest))
each_drop form field items i value found below at gives =
    rw (add-one, drop-cons items i value, ← at, gives) refl

pub before_more : (hops : List Hop) (redirects : ℕ) (there : Url) (rest : Result (List Url) DescriptionError)
    → before_hops hops redirects (rest >>= λ more. Ok (there ∷ more))
    ≡ before_hops (hops ++ hop there redirects ∷ []) (redirects + 1) rest
before_more hops redirects there (Ok more) = ap Ok (sym (append_assoc hops (hop there redirects ∷ []) _))
before_more hops redirects there (Err e) = refl

-- what holds of some items and of one more
pub All-one_more : {T : Type 0} (P : T → Type 0) (items : List T) (item : T) → All P items → P item
    → All P (items ++ item ∷ [])
All-one_more P items item all one = All-append P items (item ∷ []) all (All-cons P item [] one (All-nil P))

found_more : {T : Type 0} (items : List T) (item : T) (rest : Result (List T) DescriptionError)
    → found_map (λ more. items ++ more) (rest >>= λ more. Ok (item ∷ more))
    ≡ found_map (λ more. (items ++ item ∷ []) ++ more) rest
found_more items item (Ok more) = ap Ok (sym (append_assoc items (item ∷ []) more))
found_more items item (Err e) = refl

-- a turn of a loop that keeps what the values stand for
pub each_turn : {T : Type 0} (form : Form T) (field : Field) (values : List Value) (i : ℕ) (value : Value) (items : List T) (item : T)
    → i < length values → value ≡ get_or values i value → form field (view value) ≡ Ok item
    → each form field (map view values) ≡ found_map (λ more. items ++ more) (each form field (map view (drop i values)))
    → each form field (map view values)
    ≡ found_map (λ more. (items ++ item ∷ []) ++ more) (each form field (map view (drop (i + 1) values)))
each_turn form field values i value items item below at gives before =
    before
    ∙ (ap (found_map (λ more. items ++ more)) (each_drop form field values i value item below at gives)
    ∙ found_more items item (each form field (map view (drop (i + 1) values))))
