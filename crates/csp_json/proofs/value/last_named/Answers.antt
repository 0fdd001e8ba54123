use Rattle.std.proofs.Common.{◌≡◌, ◌+◌, ◌-◌, [], ◌∷◌, ◌++◌, take, true, false, Some, sym, ap, ◌∙◌, arith}
use Rattle.std.proofs.lemmas.List.{take_more}
use Rattle.std.specs.Str.{bytes_eq}
use Rattle.serde_json.specs.Data.{no_members}
use Rattle.serde_json.specs.Find.{get_member}
use Rattle.csp_json.specs.View.{view, members_view}
use Rattle.csp_json.proofs.Named.{named_last, other_last}
use Rattle.csp_json.proofs.value.last_named.Goals as goal

pub returns-then-eq : goal.returns-then-eq
returns-then-eq c =
    let xs = c.args.members.now.items in
    let i = c.loop-left.left - 1 in
    let m = c.index-member.result.now in
    let name = c.args.name.now in
    let next : c.loop-left.left ≡ i + 1 = omega arith in
    let front : take c.loop-left.left xs ≡ take i xs ++ m ∷ [] =
    ap (λ k. take k xs) next ∙ take_more xs i m (omega arith) ∙ ap (λ y. take i xs ++ y ∷ []) (sym c.index-member.ensures) in
    let same : bytes_eq m.0.now name ≡ true = grind arith in
    sym (c.loop-left.invariant.0 ∙ ap (λ ys. get_member name (members_view ys no_members)) front
    ∙ named_last name (take i xs) m same)

pub loop-left-preserved : goal.loop-left-preserved
loop-left-preserved c =
    let xs = c.args.members.now.items in
    let i = c.loop-left.left - 1 in
    let m = c.index-member.result.now in
    let name = c.args.name.now in
    let next : c.loop-left.left ≡ i + 1 = omega arith in
    let front : take c.loop-left.left xs ≡ take i xs ++ m ∷ [] =
    ap (λ k. take k xs) next ∙ take_more xs i m (omega arith) ∙ ap (λ y. take i xs ++ y ∷ []) (sym c.index-member.ensures) in
    let other : bytes_eq m.0.now name ≡ false = grind arith in (
      c.loop-left.invariant.0 ∙ ap (λ ys. get_member name (members_view ys no_members)) front
          ∙ other_last name (take i xs) m other,
      omega arith,
    )
