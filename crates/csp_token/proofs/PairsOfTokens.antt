-- The pairs of the tokens that were read so far, and how a text of pairs begins.
use Rattle.std.proofs.Common.{◌≡◌, ◌∙◌, sym, ap, ℕ, List, [], ◌∷◌, ◌++◌, Option, Some, None, Bor, map, append-nil}
use Rattle.std.specs.List.{flat_map, filter_map, cons_option}
use Rattle.std.proofs.lemmas.List.{map-append}
use Rattle.std.proofs.lemmas.List.Elements.{filter_map-append}
use Rattle.csp_model.specs.Ascii.{code}
use Rattle.csp_token.specs.Types.{Hash}
use Rattle.csp_token.specs.Integrity.{hash_of_token, hash_text, integrity_text}
use Rattle.csp_token.proofs.ReadsBack.{joined}

abbrev pub pairs_of : List (Bor (List ℕ)) → List Hash
pairs_of tokens = filter_map hash_of_token (map (λ token. token.now) tokens)

one_more : (tokens : List (Bor (List ℕ))) (token : Bor (List ℕ))
    → pairs_of (tokens ++ token ∷ []) ≡ pairs_of tokens ++ cons_option (hash_of_token token.now) []
one_more tokens token =
    ap (filter_map hash_of_token) (map-append (λ (t : Bor (List ℕ)). t.now) tokens (token ∷ []))
    ∙ filter_map-append hash_of_token (map (λ t. t.now) tokens) (token.now ∷ [])

pub dropped : (tokens : List (Bor (List ℕ))) (token : Bor (List ℕ)) (made : Option Hash)
    → made ≡ hash_of_token token.now → made ≡ None
    → pairs_of tokens ≡ pairs_of (tokens ++ token ∷ [])
dropped tokens token made h none =
    sym (one_more tokens token ∙ ap (λ o. pairs_of tokens ++ cons_option o []) (sym h ∙ none)
    ∙ append-nil (pairs_of tokens))

pub kept : (tokens : List (Bor (List ℕ))) (token : Bor (List ℕ)) (made : Option Hash) (pair : Hash)
    → made ≡ hash_of_token token.now → made ≡ Some pair
    → pairs_of tokens ++ pair ∷ [] ≡ pairs_of (tokens ++ token ∷ [])
kept tokens token made pair h some =
    sym (one_more tokens token ∙ ap (λ o. pairs_of tokens ++ cons_option o []) (sym h ∙ some))

pub begun : (integrity others : List Hash) (first : Hash) (text : List ℕ) → text ≡ hash_text first
    → integrity ≡ first ∷ others
    → text ++ flat_map (λ pair. code " " ∷ hash_text pair) others ≡ integrity_text integrity
begun integrity others first text h is =
    ap (λ t. t ++ flat_map (λ (pair : Hash). code " " ∷ hash_text pair) others) h ∙ sym (joined first others) ∙ ap integrity_text (sym is)
