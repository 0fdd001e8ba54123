-- Paths are in order by their texts alone, since no two have one text.
use Rattle.std.proofs.Common.{◌≡◌, ◌∙◌, sym, ap, refl, ℕ, List, Ordering, Less, Equal, Greater, is_eq}
use Rattle.std.specs.Cmp.Lexicographic.{slice_cmp, lists_total, nat_list_cmp_total, texts_ties}
use Rattle.std.specs.Ordering.{ordering_then}
use Rattle.std.proofs.lemmas.Cmp.{tied_itself}
use Rattle.std.proofs.lemmas.Slice.Eq.{bytes_eq-Decides}
use Rattle.csp_model.specs.Paths.{front_pieces, front_text}
use Rattle.csp_facts.specs.Kinds.{text_cmp, path_cmp}

-- the pieces of two such paths are level where their texts are
level : (one other : List (List ℕ)) → front_pieces (front_text one) ≡ one → front_pieces (front_text other) ≡ other
    → text_cmp (front_text one) (front_text other) ≡ Equal → slice_cmp text_cmp one other ≡ Equal
level one other is also tied =
    let texts = (bytes_eq-Decides (front_text one) (front_text other)).0 (texts_ties (front_text one) (front_text other) ∙ ap is_eq tied) in
    let same : one ≡ other = sym is ∙ ap front_pieces texts ∙ also in
    rw same (tied_itself (lists_total nat_list_cmp_total) other)

then_same : (r s : Ordering) → (r ≡ Equal → s ≡ Equal) → r ≡ ordering_then r s
then_same Less s h = refl
then_same Equal s h = sym (h refl)
then_same Greater s h = refl

pub paths_by_text : (one other : List (List ℕ)) → front_pieces (front_text one) ≡ one → front_pieces (front_text other) ≡ other
    → text_cmp (front_text one) (front_text other) ≡ path_cmp one other
paths_by_text one other is also =
    then_same (text_cmp (front_text one) (front_text other)) (slice_cmp text_cmp one other) (level one other is also)
