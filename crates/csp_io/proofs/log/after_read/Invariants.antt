use Rattle.csp_io.specs.Starts.{then_read}
use Rattle.csp_io.proofs.log.after_read.Given as goal

abbrev pub ghost-picked : goal.ghost-picked
ghost-picked a = then_read a._first.now.items a._second.now.0.now a._second.now.1.now
