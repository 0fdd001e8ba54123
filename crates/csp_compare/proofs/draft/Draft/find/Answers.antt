use Rattle.std.proofs.Common.{◌≡◌, ◌∙◌, sym, ap, subst, List, ℕ, Contains}
use Rattle.std.specs.Prelude.{MatchOption, Some}
use Rattle.std.specs.BTreeMap.{get}
use Rattle.std.specs.Ordering.{nat_cmp}
use Rattle.csp_proof.specs.WellFormed.{body_at}
use Rattle.csp_proof.specs.declared.proof.Body.TheVariants.{Nodes}
use Rattle.csp_proof.specs.declared.proof.Tree.{Tree}
use Rattle.csp_compare.specs.Drafts.{HasNone, listed}
use Rattle.csp_compare.proofs.Sharing.{found_among}
use Rattle.csp_compare.proofs.draft.Draft.find.Goals as goal

pub returns-in-Some : goal.returns-in-Some
returns-in-Some c =
    let at = ap (λ (k : ℕ). listed (get nat_cmp c.self.inside.by_count k)) (sym c.len.ensures) ∙ ap listed (sym c.in-Some.ensures.value) ∙ sym c.as_slice.ensures.value in
    subst (λ (ts : List Tree). MatchOption c.first_with.result (HasNone ts c.args.nodes.now) (λ n. body_at ts n ≡ Some (Nodes c.args.nodes.now))) c.self.view_is
    (found_among c.first_with.result c.self.inside.trees c.args.nodes.now c.as_slice.result.now
    (λ n here. subst (λ (ns : List ℕ). Contains ns n) at (c.self.invariant.listed n c.args.nodes.now here)) c.first_with.ensures)
