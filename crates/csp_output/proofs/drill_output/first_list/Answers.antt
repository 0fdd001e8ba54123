use Rattle.std.proofs.Common.{sym, subst, arith}
use Rattle.std.specs.List.{All}
use Rattle.csp_output.proofs.DrillLists.{IsAscii, first_ascii}
use Rattle.csp_output.proofs.drill_output.first_list.Goals as goal

pub image_policy-requires : goal.image_policy-requires
image_policy-requires c =
    subst (All IsAscii) (sym c.in_ok-tokens.ensures) (first_ascii _ (omega arith))
