-- Why tokens stay, one after the other, and the whole of what `tidy` prints.
use Rattle.std.proofs.Common.{◌≡◌, ◌∙◌, ◌<◌, ◌+◌, ◌++◌, ℕ, List, [], ◌∷◌, All, length, take, get_or, ap, sym, subst, append_assoc}
use Rattle.std.specs.List.{flat_map}
use Rattle.std.proofs.lemmas.List.{flat_map_more, take_more}
use Rattle.std.proofs.lemmas.List.Elements.{All-append, All-cons, All-nil}
use Rattle.csp_model.specs.declared.policy.PolicyList.{PolicyList}
use Rattle.csp_tidy.specs.declared.tidying.Needed.{Needed}
use Rattle.csp_output.specs.Tidyings.{IsReadBack, reason_text}

-- one more reason
pub one_more : (list : PolicyList) (items : List Needed) (i : ℕ) (r : Needed) (base old new : List ℕ) → i < length items
    → r ≡ get_or items i r → old ≡ base ++ flat_map (reason_text list) (take i items)
    → new ≡ old ++ reason_text list r → new ≡ base ++ flat_map (reason_text list) (take (i + 1) items)
one_more list items i r base old new below is was more =
    more ∙ ap (λ (l : List ℕ). l ++ reason_text list r) was
    ∙ ap (λ (q : Needed). (base ++ flat_map (reason_text list) (take i items)) ++ reason_text list q) is
    ∙ flat_map_more (reason_text list) base (take i items) (get_or items i r)
    ∙ ap (λ (l : List Needed). base ++ flat_map (reason_text list) l) (sym (take_more items i r below))

pub told_more : (items : List Needed) (i : ℕ) (r : Needed) → i < length items → r ≡ get_or items i r
    → All IsReadBack (take i items) → IsReadBack r → All IsReadBack (take (i + 1) items)
told_more items i r below is before back =
    subst (All IsReadBack) (sym (take_more items i r below))
    (All-append IsReadBack (take i items) (get_or items i r ∷ []) before
    (All-cons IsReadBack (get_or items i r) [] (subst IsReadBack is back) (All-nil IsReadBack)))

-- the parts of a text, written one after the other
pub written : (a heads heads' reasons reasons' there back t0 t1 t2 t3 t4 text : List ℕ) → t0 ≡ a
    → heads' ≡ heads → t1 ≡ t0 ++ heads' → reasons' ≡ reasons → t2 ≡ t1 ++ reasons' → t3 ≡ t2 ++ there
    → t4 ≡ t3 ++ back → text ≡ t4 → text ≡ a ++ (heads ++ (reasons ++ (there ++ back)))
written a heads heads' reasons reasons' there back t0 t1 t2 t3 t4 text e0 eh e1 er e2 e3 e4 is =
    let first : t1 ≡ a ++ heads = e1 ∙ ap (λ (t : List ℕ). t ++ heads') e0 ∙ ap (λ (h : List ℕ). a ++ h) eh in
    let second : t2 ≡ (a ++ heads) ++ reasons =
    e2 ∙ ap (λ (t : List ℕ). t ++ reasons') first ∙ ap (λ (r : List ℕ). (a ++ heads) ++ r) er in
    let third : t3 ≡ ((a ++ heads) ++ reasons) ++ there = e3 ∙ ap (λ (t : List ℕ). t ++ there) second in
    is ∙ e4 ∙ ap (λ (t : List ℕ). t ++ back) third
    ∙ append_assoc ((a ++ heads) ++ reasons) there back
    ∙ append_assoc (a ++ heads) reasons (there ++ back)
    ∙ append_assoc a heads (reasons ++ (there ++ back))
