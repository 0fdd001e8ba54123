use Rattle.std.proofs.Common.{length, ◌-◌}
use Rattle.csp_answer.proofs.deciding.+led_from.Given as goal

abbrev pub decreases-led_from : goal.decreases-led_from
decreases-led_from l = length l.branch.now.atoms - l.from
