use Rattle.std.proofs.Common.{◌≡◌, ◌∙◌, sym}
use Rattle.std.specs.Cmp.Lexicographic.{pointwise_decides}
use Rattle.csp_order.specs.Relations.{list_at}
use Rattle.csp_order.proofs.Carried.{printed_too}
use Rattle.csp_order.proofs.HashesSame.{hash_decides}
use Rattle.csp_order.proofs.carrying.serves.Goals as goal

pub returns : goal.returns
returns c is proof printed =
    let lists = c.args.lists.now in
    let ours = c.in_ok-ours.ours in
    let theirs = c.in_ok-theirs.theirs in
    let same : ours ≡ theirs = (pointwise_decides hash_decides ours theirs).0 (sym c.eq.ensures ∙ is) in
    let within = c.if-not-are_within.false in
    printed_too (list_at lists c.args.one.first) (list_at lists c.args.one.second)
    (list_at lists c.args.other.first) (list_at lists c.args.other.second) proof
    (sym c.in_ok-ours.ensures ∙ same ∙ c.in_ok-theirs.ensures)
    (c.are_within.ensures.first within) (c.are_within.ensures.second within) printed
