-- A turn of the loop over descriptions, which keeps the request that one stands for.
use Rattle.std.proofs.Common.{◌≡◌, ◌≢◌, ◌∙◌, ℕ, ◌+◌, List, [], ◌∷◌, ◌++◌, Result, Ok, Err, refl, ap, sym, append_assoc, append-nil}
use Rattle.std.specs.Result.{result_map_both}
use Rattle.serde_json.specs.Data.{Data}
use Rattle.csp_model.specs.declared.check.Digests.{Digests}
use Rattle.csp_model.specs.declared.verdict.Described.{Described}
use Rattle.csp_request.specs.Described.{described_with}
use Rattle.csp_request.specs.Requests.{before_others, first_before, described_from, each_from, refused_at, refused_after}
use Rattle.csp_request.specs.declared.error.DescriptionError.{DescriptionError}
use Rattle.csp_request.specs.declared.error.DescriptionError.TheVariants as description
use Rattle.csp_request.specs.declared.error.RequestError.{RequestError}
use Rattle.csp_request.specs.declared.error.RequestError.TheVariants as request

-- these requests before others
abbrev pub before_rest : List Described → Result (List Described) RequestError
    → Result (List Described) RequestError
before_rest requests rest = result_map_both (λ more. requests ++ more) (λ e. e) rest

-- a description before those that come after it
abbrev pub more_before : Data → Result (List Data) RequestError → Result (List Data) RequestError
more_before value rest = result_map_both (λ values. value ∷ values) (λ e. e) rest

-- before the first there is nothing
pub nothing_before : (rest : Result (List Described) RequestError) → before_rest [] rest ≡ rest
nothing_before (Ok more) = refl
nothing_before (Err e) = refl

one_more : (requests : List Described) (first : Described) (rest : Result (List Described) RequestError)
    → before_rest requests (before_others first rest) ≡ before_rest (requests ++ first ∷ []) rest
one_more requests first (Ok more) = ap Ok (sym (append_assoc requests (first ∷ []) more))
one_more requests first (Err e) = refl

-- what a file's descriptions stand for, of which the next is described
next_from : (hashed : List ℕ → Digests) (index : ℕ) (value : Data) (found : Described)
    (rest : Result (List Data) RequestError) → described_with hashed value ≡ Ok found
    → each_from hashed index (more_before value rest) ≡ before_others found (each_from hashed (index + 1) rest)
next_from hashed index value found (Ok values) gives =
    ap (λ (r : Result Described DescriptionError). first_before index r (described_from hashed (index + 1) values)) gives
next_from hashed index value found (Err e) gives = refl

pub request_turn : (hashed : List ℕ → Digests) (all : Result (List Described) RequestError) (index : ℕ) (value : Data)
    (before rest : Result (List Data) RequestError) (requests : List Described) (found : Described)
    → described_with hashed value ≡ Ok found → before ≡ more_before value rest
    → all ≡ before_rest requests (each_from hashed index before)
    → all ≡ before_rest (requests ++ found ∷ []) (each_from hashed (index + 1) rest)
request_turn hashed all index value before rest requests found gives comes so_far =
    so_far
    ∙ ap (λ (r : Result (List Data) RequestError). before_rest requests (each_from hashed index r)) comes
    ∙ ap (before_rest requests) (next_from hashed index value found rest gives)
    ∙ one_more requests found (each_from hashed (index + 1) rest)

refused_from : (hashed : List ℕ → Digests) (index : ℕ) (value : Data) (e : DescriptionError)
    (rest : Result (List Data) RequestError) → described_with hashed value ≡ Err e
    → each_from hashed index (more_before value rest) ≡ Err (refused_after (refused_at index e) rest)
refused_from hashed index value e (Ok values) gives =
    ap (λ (r : Result Described DescriptionError). first_before index r (described_from hashed (index + 1) values)) gives
refused_from hashed index value e (Err f) gives = refl

-- where the next description is refused, the file is: for that, or for what the rest shows
pub refused_turn : (hashed : List ℕ → Digests) (all : Result (List Described) RequestError) (index : ℕ) (value : Data)
    (before rest : Result (List Data) RequestError) (requests : List Described) (e : DescriptionError)
    (refused : RequestError) → (e ≢ description.Memory → described_with hashed value ≡ Err e)
    → before ≡ more_before value rest → all ≡ before_rest requests (each_from hashed index before)
    → refused ≡ refused_after (refused_at index e) rest → refused ≢ request.Memory → all ≡ Err refused
refused_turn hashed all index value before (Ok values) requests e refused given comes so_far is real =
    so_far
    ∙ ap (λ (r : Result (List Data) RequestError). before_rest requests (each_from hashed index r)) comes
    ∙ ap (before_rest requests) (refused_from hashed index value e (Ok values)
    (given (λ memory. real (is ∙ ap (refused_at index) memory))))
    ∙ ap Err (sym is)
refused_turn hashed all index value before (Err f) requests e refused given comes so_far is real =
    so_far
    ∙ ap (λ (r : Result (List Data) RequestError). before_rest requests (each_from hashed index r)) comes
    ∙ ap Err (sym is)

-- after the last one there is nothing to add
pub no_more : (hashed : List ℕ → Digests) (all : Result (List Described) RequestError) (index : ℕ)
    (before : Result (List Data) RequestError) (requests : List Described)
    → before ≡ Ok [] → all ≡ before_rest requests (each_from hashed index before) → all ≡ Ok requests
no_more hashed all index before requests over so_far =
    so_far
    ∙ ap (λ (r : Result (List Data) RequestError). before_rest requests (each_from hashed index r)) over
    ∙ ap Ok (append-nil requests)

-- where the file itself is refused, no request is told
pub file_refused : (hashed : List ℕ → Digests) (all : Result (List Described) RequestError) (index : ℕ)
    (before : Result (List Data) RequestError) (requests : List Described) (e : RequestError)
    → before ≡ Err e → all ≡ before_rest requests (each_from hashed index before) → all ≡ Err e
file_refused hashed all index before requests e refused so_far =
    so_far ∙ ap (λ (r : Result (List Data) RequestError). before_rest requests (each_from hashed index r)) refused
