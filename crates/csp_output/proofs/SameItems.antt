-- The test of two items decides whether they are equal.
use Rattle.std.proofs.Common.{◌≡◌}
use Rattle.std.specs.Bool.{Decides}
use Rattle.std.proofs.lemmas.Bool.Decides.{Decides-and, Decides-eqb}
use denote.Enum.Bare.{sameb, same_true, true_same}
use Rattle.csp_model.specs.contracts.name.Name.{the_type as names}
use Rattle.csp_model.specs.contracts.policy.Disposition.{the_type as dispositions}
use Rattle.csp_model.specs.contracts.verdict.ItemPartialEq.TheImpl as items
use Rattle.csp_model.specs.declared.name.Name.{Name}
use Rattle.csp_model.specs.declared.policy.Disposition.{Disposition}
use Rattle.csp_model.specs.declared.verdict.Item.{Item}

name_decides : (a b : Name) → Decides (sameb names a b) (a ≡ b)
name_decides a b = (same_true names tt a b, true_same names a b)

disposition_decides : (a b : Disposition) → Decides (sameb dispositions a b) (a ≡ b)
disposition_decides a b = (same_true dispositions tt a b, true_same dispositions a b)

pub same_decides : (a b : Item) → Decides ((items.ghosts).eq a b) (a ≡ b)
same_decides a b =
    let directives = Decides-and _ _ (name_decides a.effective b.effective) (name_decides a.governing b.governing) in
    let rest = Decides-and _ _ (disposition_decides a.disposition b.disposition) directives in
    let all = Decides-and _ _ (Decides-eqb a.policy b.policy) rest in
    (λ e. let h = all.0 e in rw (h.0, h.1.0, h.1.1.0, h.1.1.1), λ is. all.1 (cc is, (cc is, (cc is, cc is))))
