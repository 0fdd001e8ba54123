use Rattle.std.specs.Prelude.{[], ◌∷◌, ◌++◌}
use Rattle.csp_model.proofs.trace.Trace.then.Given as goal

abbrev pub ghost-picked : goal.ghost-picked
ghost-picked g a = a._first.now.items ++ a._second.now ∷ []
