use Rattle.std.proofs.Common.{arith, ◌≡◌, ◌∙◌, ap, refl, ℕ, Bool, true, false, cond, not, ◌||◌, List, [], ◌∷◌, ◌++◌, map}
use Rattle.std.specs.List.{filter}
use Rattle.csp_model.specs.Ascii.{is_ascii_text, is_nonempty, split_at, words}
use Rattle.csp_model.specs.Policies.{directive_of_words, firsts, is_for_meta}
use Rattle.csp_policy.specs.Types.{Directive, Fate}
use Rattle.csp_policy.specs.Fates.{fate_of, fate_with, fates_behind, has_name, has_text, is_told, piece_text}
use Rattle.csp_policy.specs.Room.{directive_with}
use Rattle.csp_policy.specs.declared.fate.Fate.TheVariants.{Dropped}
use Rattle.csp_policy.specs.declared.fate.Reason.TheVariants.{NotAscii}
use Rattle.csp_policy.proofs.Fated.{chosen, of_pieces}
use Rattle.csp_policy.proofs.laws.each_piece_is_kept_or_dropped.Goals as goal

texts : (meta : Bool) (before xs : List (List ℕ)) → map piece_text (fates_behind meta before xs) ≡ xs
texts meta before [] = refl
texts meta before (x ∷ xs) = ap (λ (l : List (List ℕ)). x ∷ l) (texts meta (before ++ x ∷ []) xs)

chosen_told : (x : List ℕ) (later stays : Bool) (d : Directive) → true ≡ is_told (x, chosen later stays d)
chosen_told x true stays d = refl
chosen_told x false true d = refl
chosen_told x false false d = refl

by_words : (x : List ℕ) (meta : Bool) (ds : List Directive) (ws : List (List ℕ))
    → is_nonempty ws ≡ is_told (x, fate_with meta ds (directive_of_words ws))
by_words x meta ds [] = refl
by_words x meta ds (w ∷ ws) =
    let d : Directive = directive_with w ws in
    let some : is_nonempty (w ∷ ws) ≡ true = grind (arith) in
    some ∙ chosen_told x (has_name d.name ds) (not meta || is_for_meta d) d

by_ascii : (x : List ℕ) (meta : Bool) (ds : List Directive) (ws : List (List ℕ)) (ascii : Bool)
    → (not ascii || is_nonempty ws) ≡ is_told (x, cond ascii (fate_with meta ds (directive_of_words ws)) (Dropped NotAscii))
by_ascii x meta ds ws true = by_words x meta ds ws
by_ascii x meta ds ws false = refl

one_more : (x : List ℕ) (fate : Fate) (here : Bool) (xs : List (List ℕ)) (rest : List (List ℕ × Fate)) → xs ≡ map piece_text rest
    → cond here (x ∷ xs) xs ≡ map piece_text (cond here ((x, fate) ∷ rest) rest)
one_more x fate true xs rest h = ap (λ (l : List (List ℕ)). x ∷ l) h
one_more x fate false xs rest h = h

told : (meta : Bool) (before xs : List (List ℕ)) → filter has_text xs ≡ map piece_text (filter is_told (fates_behind meta before xs))
told meta before [] = refl
told meta before (x ∷ xs) =
    ap (λ (b : Bool). cond b (x ∷ filter has_text xs) (filter has_text xs)) (by_ascii x meta (firsts (of_pieces before)) (words x) (is_ascii_text x))
    ∙ one_more x (fate_of meta before x) (is_told (x, fate_of meta before x)) (filter has_text xs)
    (filter is_told (fates_behind meta (before ++ x ∷ []) xs)) (told meta (before ++ x ∷ []) xs)

pub returns-clause-pieces : goal.returns-clause-pieces
returns-clause-pieces c meta text = texts meta [] (split_at 59 text)

pub returns-clause-kept_or_dropped : goal.returns-clause-kept_or_dropped
returns-clause-kept_or_dropped c meta text = told meta [] (split_at 59 text)
