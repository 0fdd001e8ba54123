use Rattle.std.specs.Prelude.{◌-◌, length, take}
use Rattle.csp_model.proofs.trace.Trace.before.Given as goal

abbrev pub ghost-picked : goal.ghost-picked
ghost-picked g a = take (length a._first.now.items - 1) a._first.now.items
