use Rattle.std.specs.Prelude.{[]}
use Rattle.csp_model.proofs.trace.Trace.new.Given as goal

abbrev pub ghost-picked : goal.ghost-picked
ghost-picked g a = []
