use Rattle.std.proofs.Common.{[], ◌∷◌, ◌++◌, ◌≡◌, sym, ap, ap₂, ◌∙◌, refl, reverse}
use Rattle.std.specs.Cmp.Lexicographic.{slice_cmp}
use Rattle.std.specs.Ordering.{nat_cmp}
use Rattle.std.specs.Slice.Iter.{iter_rest}
use Rattle.std.proofs.lemmas.Iterator.{YieldsList-from_slice}
use Rattle.std.proofs.lemmas.Iterator.Adapters.{YieldsList-from_rev_slice}
use Rattle.std.proofs.lemmas.Iterator.Consumers.{YieldsList-at, YieldsList-from_chain}
use Rattle.std.proofs.lemmas.Iterator.Search.{cmp_from_yields_List}
use Rattle.std.proofs.lemmas.List.{reverse-append}
use Rattle.csp_branch.proofs.order.compare_ends.Goals as goal

pub returns : goal.returns
returns c =
    let one = c.args.one.now in
    let other = c.args.other.now in
    let mark = c.args.mark in
    let other_mark = c.args.other_mark in
    let whole : c.cmp.result ≡ slice_cmp nat_cmp (reverse one ++ mark ∷ []) (reverse other ++ other_mark ∷ []) =
    cmp_from_yields_List (λ x y. y ≡ x) c.chain-theirs.result nat_cmp c.cmp.result c.cmp.ensures.ran
    (YieldsList-from_chain
    (YieldsList-at c.chain-ours.ensures.first (YieldsList-from_rev_slice one (ap iter_rest c.rev.ensures.source ∙ c.iter.ensures.rest)))
    (YieldsList-at c.chain-ours.ensures.second (YieldsList-from_slice (mark ∷ []) c.iter-2.ensures.rest))
    c.chain-ours.ensures.first_done c.chain-ours.ensures.second_done)
    (λ it e. YieldsList-at e (YieldsList-from_chain
    (YieldsList-at c.chain-theirs.ensures.first (YieldsList-from_rev_slice other (ap iter_rest c.rev-2.ensures.source ∙ c.iter-3.ensures.rest)))
    (YieldsList-at c.chain-theirs.ensures.second (YieldsList-from_slice (other_mark ∷ []) c.iter-4.ensures.rest))
    c.chain-theirs.ensures.first_done c.chain-theirs.ensures.second_done))
    (λ x y. refl) in
    whole ∙ ap₂ (slice_cmp nat_cmp) (sym (reverse-append (mark ∷ []) one)) (sym (reverse-append (other_mark ∷ []) other))
