-- A turn of a loop that takes items off a list's front, and keeps what it makes of them.
use Rattle.std.proofs.Common.{◌≡◌, ◌∙◌, List, [], ◌∷◌, ◌++◌, map, sym, append_assoc}

pub map_turn : {A B : Type 0} (f : A → B) (all made : List B) (left next : List A) (item : A)
    → left ≡ item ∷ next → all ≡ made ++ map f left → all ≡ (made ++ f item ∷ []) ++ map f next
map_turn f all made left next item taken before =
    before ∙ (rw taken (sym (append_assoc made (f item ∷ []) (map f next))))
