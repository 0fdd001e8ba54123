use Rattle.std.specs.Prelude.{[], ◌∷◌, ◌++◌}
use Rattle.csp_io.specs.Starts.{started}
use Rattle.csp_io.proofs.log.after_start.Given as goal

abbrev pub ghost-picked : goal.ghost-picked
ghost-picked a = a._first.now.items ++ started a._second.now.now ∷ []
