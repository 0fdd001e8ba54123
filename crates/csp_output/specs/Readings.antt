-- What `read` prints.
use Rattle.std.specs.Prelude.{ℕ, List}
use Rattle.csp_output.specs.declared.built.Built.{Built}
use Rattle.csp_output.specs.declared.status.Status.TheVariants.{Clean}
use Rattle.csp_policy.specs.ReadingLines.{reading_text}

-- how a header block is read
abbrev pub told_output : List ℕ → Built
told_output block = record { status = Clean; text = reading_text block }
