-- The lines of differences, one after the other.
use Rattle.std.proofs.Common.{◌≡◌, ◌∙◌, sym, ap, subst, ℕ, ◌+◌, ◌<◌, List, [], ◌++◌, length, take, get_or, All}
use Rattle.std.specs.List.{flat_map}
use Rattle.std.proofs.lemmas.List.{flat_map_more, take_more}
use Rattle.std.proofs.lemmas.List.Elements.{All-more, All-weaker}
use Rattle.csp_compare.specs.Differences.{ShowsDifference}
use Rattle.csp_compare.specs.declared.differences.Difference.{Difference}
use Rattle.csp_model.specs.declared.policy.PolicyList.{PolicyList}
use Rattle.csp_output.specs.Differing.{HasValidCheck, IsReadBack, entry_text}

pub each_valid : (first second : PolicyList) (entries : List Difference) → All (ShowsDifference first second) entries → All HasValidCheck entries
each_valid first second entries shown = All-weaker (ShowsDifference first second) HasValidCheck (λ entry is. is.differs.valid) entries shown

-- one more entry
pub one_more : (second : PolicyList) (items : List Difference) (i : ℕ) (entry : Difference) (old new : List ℕ) → i < length items
    → entry ≡ get_or items i entry → old ≡ flat_map (entry_text second) (take i items) → new ≡ old ++ entry_text second entry
    → new ≡ flat_map (entry_text second) (take (i + 1) items)
one_more second items i entry old new below is was more =
    more ∙ ap (λ (l : List ℕ). l ++ entry_text second entry) was
    ∙ ap (λ (e : Difference). flat_map (entry_text second) (take i items) ++ entry_text second e) is
    ∙ flat_map_more (entry_text second) [] (take i items) (get_or items i entry)
    ∙ ap (flat_map (entry_text second)) (sym (take_more items i entry below))

pub told_more : (items : List Difference) (i : ℕ) (entry : Difference) → i < length items → entry ≡ get_or items i entry
    → All IsReadBack (take i items) → IsReadBack entry → All IsReadBack (take (i + 1) items)
told_more items i entry below is before back = All-more IsReadBack items i entry below before (subst IsReadBack is back)
