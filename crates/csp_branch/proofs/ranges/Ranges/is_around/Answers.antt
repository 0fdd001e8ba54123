use Rattle.std.proofs.Common.{◌≡◌, ◌∙◌, ◌≤◌, ◌<◌, sym, ap, subst, false, nat_le, List, length, arith}
use Rattle.std.proofs.lemmas.Bool.Decides.{nat_tests}
use Rattle.csp_facts.specs.declared.atom.Atom.{Atom}
use Rattle.csp_branch.specs.Numbers.{AreInOrder}
use Rattle.csp_branch.proofs.Forest.{around_before, nothing_outside}
use Rattle.csp_branch.proofs.ranges.Ranges.is_around.Goals as goal

pub returns-else-outer-inner : goal.returns-else-outer-inner
returns-else-outer-inner c =
    let atoms = c.args.self.now in
    let order : AreInOrder atoms = subst (λ (l : List Atom). AreInOrder l) c.self.view_is c.self.invariant.0 in
    let below : c.args.inner < c.args.outer = c.if-outer-inner.false in
    let here : c.args.outer < length atoms = omega (arith, c.if-outer-len.true, c.len.ensures, ap length c.self.view_is) in
    let no : nat_le c.args.outer c.args.inner ≡ false = grind (arith, nat_tests, below) in
    no ∙ sym (around_before atoms order c.args.outer c.args.inner below here)

pub returns-else-outer-len : goal.returns-else-outer-len
returns-else-outer-len c =
    let atoms = c.args.self.now in
    let over : length atoms ≤ c.args.outer = omega (arith, c.if-outer-len.false, c.len.ensures, ap length c.self.view_is) in
    sym (nothing_outside atoms c.args.outer c.args.inner over)
