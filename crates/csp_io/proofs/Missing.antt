-- What starts and reads leave of names that aren't there.
use Rattle.std.proofs.Common.{◌≡◌, ℕ, suc, List, [], ◌∷◌, ◌++◌, Bool, false, Option, Some, None, refl, ap, sym, ◌∙◌, arith}
use Rattle.std.proofs.lemmas.List.Elements.{All-append, All-cons, All-nil}
use Rattle.csp_io.specs.Starts.{Start, started, then_gave, last_name, MissingAreUnread, LastIsThere}

abbrev Unread : (List ℕ → Option (List ℕ)) → Start → Type 0
Unread contents s = contents s.name ≡ None → (s.bytes ≡ []) × (s.ended ≡ false)

-- a start gives nothing
pub started_unread : (contents : List ℕ → Option (List ℕ)) (log : List Start) (name : List ℕ)
    → MissingAreUnread contents log → MissingAreUnread contents (log ++ started name ∷ [])
started_unread contents log name all =
    All-append (Unread contents) log (started name ∷ []) all
    (All-cons (Unread contents) (started name) [] (λ _. (refl, refl)) (All-nil (Unread contents)))

last_started : (log : List Start) (name : List ℕ) → last_name (log ++ started name ∷ []) ≡ Some name
last_started [] name = refl
last_started (s ∷ []) name = refl
last_started (s ∷ (t ∷ rest)) name = last_started (t ∷ rest) name

-- the last start is there where its name is
pub started_there : (contents : List ℕ → Option (List ℕ)) (log : List Start) (name : List ℕ)
    → (contents name ≡ None → ⊥) → LastIsThere contents (log ++ started name ∷ [])
started_there contents log name there = λ other same none.
    let is : name ≡ other = cc (sym (last_started log name) ∙ same) in
    there (ap contents is ∙ none)

-- a read of a file that is there
pub gave_unread : (contents : List ℕ → Option (List ℕ)) (log : List Start) (bytes : List ℕ) (ended : Bool)
    → MissingAreUnread contents log → LastIsThere contents log
    → MissingAreUnread contents (then_gave log bytes ended)
gave_unread contents [] bytes ended all there = all
gave_unread contents (s ∷ []) bytes ended all there =
    All-cons (Unread contents) (record s { bytes = s.bytes ++ bytes; ended = ended }) []
    (λ none. absurd (there s.name refl none)) (All-nil (Unread contents))
gave_unread contents (s ∷ (t ∷ rest)) bytes ended all there =
    All-cons (Unread contents) s (then_gave (t ∷ rest) bytes ended) (all 0 s (omega arith))
    (gave_unread contents (t ∷ rest) bytes ended (λ k d below. all (suc k) d (omega (arith, below))) there)

last_gave_name : (log : List Start) (bytes : List ℕ) (ended : Bool)
    → last_name (then_gave log bytes ended) ≡ last_name log
last_gave_name [] bytes ended = refl
last_gave_name (s ∷ []) bytes ended = refl
last_gave_name (s ∷ (t ∷ [])) bytes ended = refl
last_gave_name (s ∷ (t ∷ (u ∷ rest))) bytes ended = last_gave_name (t ∷ (u ∷ rest)) bytes ended

pub gave_there : (contents : List ℕ → Option (List ℕ)) (log : List Start) (bytes : List ℕ) (ended : Bool)
    → LastIsThere contents log → LastIsThere contents (then_gave log bytes ended)
gave_there contents log bytes ended there = λ name same.
    there name (sym (last_gave_name log bytes ended) ∙ same)
