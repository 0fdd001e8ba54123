-- A word of private contracts, which stands here since contracts cite only specs/: what a read line says.
use Rattle.csp_model.specs.Policies as policies
use Rattle.csp_policy.specs.Types.{HeaderLine}
use Rattle.csp_policy.specs.declared.lines.HeaderLine.TheVariants.{Skipped, Bad, Header}

abbrev pub line_said : HeaderLine → policies.Line
line_said Skipped = policies.Skipped
line_said Bad = policies.Bad
line_said (Header name value) = policies.Header name.now value.now
