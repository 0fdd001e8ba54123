-- The exit codes.
use Rattle.std.specs.Prelude.{ℕ}
use Rattle.csp_output.specs.declared.status.Status.{Status}
use Rattle.csp_output.specs.declared.status.Status.TheVariants as status

-- the exit code of a status; none is 12
abbrev pub exit_code : Status → ℕ
exit_code status.Clean = 0
exit_code status.Found = 1
exit_code status.Usage = 2
exit_code status.BadOrigin = 3
exit_code status.BadPolicy = 4
exit_code status.TooLarge = 5
exit_code status.BadRequests = 6
exit_code status.BadProof = 7
exit_code status.ReadFault = 8
exit_code status.WriteFault = 9
exit_code status.NoMemory = 10
exit_code status.ReporterFault = 11
exit_code status.BadRequired = 13
