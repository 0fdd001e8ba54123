use Rattle.std.proofs.Common.{arith, rules, refl, ◌≡◌, ◌≤◌, ◌<◌, ◌+◌, ◌∙◌, sym, ap, subst, List, length, get_or, drop}
use Rattle.std.proofs.lemmas.List.{drop_all}
use Rattle.csp_model.specs.declared.name.Name.{Name}
use Rattle.csp_model.specs.declared.name.Name.TheVariants.{BaseUri}
use Rattle.csp_compare.specs.Differences.{effective_names}
use Rattle.csp_compare.specs.declared.differences.Difference.{Difference}
use Rattle.csp_compare.proofs.Entries.{IsSoFar, so_far_end, so_far_start, so_far_step, with_found}
use Rattle.csp_compare.proofs.comparison.Comparison.differences.Goals.{in-Some+in_ok-push, in_default}
use Rattle.csp_compare.proofs.comparison.Comparison.differences.Goals as goal

pub loop-directive-init : goal.loop-directive-init
loop-directive-init c =
    let first = c.args.self.now.lists.first.now in
    let second = c.args.self.now.lists.second.now in (
      refl,
      λ kind shape has at. search rules,
      subst (λ (ds : List Difference). IsSoFar first second ds effective_names) (sym c.new-differences.ensures) (so_far_start first second),
    )

pub loop-directive-preserved : goal.loop-directive-preserved
loop-directive-preserved c =
    let first = c.args.self.now.lists.first.now in
    let second = c.args.self.now.lists.second.now in
    let items = c.effective_directives-directive-items.result.now in
    let same : items ≡ effective_names = c.effective_directives-directive-items.ensures in
    let long = ap (λ (ns : List Name). length ns) same in
    let i = c.loop-directive.directive-index in
    let ds = c.loop-directive.differences in
    let name = get_or items i BaseUri in
    let rest = drop (i + 1) effective_names in
    let within : i < length effective_names = omega (arith, long, c.loop-directive-test.true) in
    let is : name ≡ get_or effective_names i BaseUri = ap (λ (ns : List Name). get_or ns i BaseUri) same in
    let step = so_far_step first second ds i name BaseUri c.in_ok-found.found within is c.in_ok-found.ensures.found c.loop-directive.invariant.2 in (
      c.in_ok-found.ensures.walker ∙ c.loop-directive.invariant.0,
      c.in_ok-found.ensures.known,
      elim c.match-found.branch [
        | in-Some+in_ok-push w ↦
            let all : c.match-found.differences ≡ with_found ds name c.in_ok-found.found =
            w.differences-is ∙ w.in_ok-push.ensures.ok ∙ sym (ap (with_found ds name) w.in-Some.is) in
            subst (λ (es : List Difference). IsSoFar first second es rest) (sym all) step
        | in_default w ↦
            let all : c.match-found.differences ≡ with_found ds name c.in_ok-found.found =
            w.differences-is ∙ sym (ap (with_found ds name) w.in_default.is) in
            subst (λ (es : List Difference). IsSoFar first second es rest) (sym all) step
      ],
    )

pub returns : goal.returns
returns c =
    let first = c.args.self.now.lists.first.now in
    let second = c.args.self.now.lists.second.now in
    let ds = c.loop-directive.differences in
    let i = c.loop-directive.directive-index in
    let past : length effective_names ≤ i = grind (arith) in
    so_far_end first second ds
    (subst (λ (ns : List Name). IsSoFar first second ds ns) (drop_all i effective_names past) c.loop-directive.invariant.2)
