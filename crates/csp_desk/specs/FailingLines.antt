-- What a reporter that is told when to refuse has, and when it refuses.
use Rattle.std.specs.Prelude.{◌≡◌, ◌+◌, ◌-◌, ◌^◌, ℕ, min, List}
use Rattle.csp_model.specs.declared.verdict.Violation.{Violation}
use Rattle.csp_desk.specs.declared.failing_lines.FailingLines.{FailingLines}

abbrev pub failing_held : FailingLines → List Violation
failing_held f = f.lines

abbrev pub failing_faults : FailingLines → ℕ
failing_faults f = f.faults

-- the numbers of the calls of accept that it refuses
abbrev pub failing_calls : FailingLines → List ℕ
failing_calls f = f.failing

-- the number of the next call
abbrev pub next_call : FailingLines → ℕ
next_call f = f.calls

-- a call is counted, and no more is changed of when calls are refused
pub record IsCounted (old new : FailingLines) : Type 0 where
  pub calls : next_call new ≡ min (next_call old + 1) (2 ^ 64 - 1)
  pub failing : failing_calls new ≡ failing_calls old
