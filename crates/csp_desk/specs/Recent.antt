-- What a reporter of the last violations has.
use Rattle.std.specs.Prelude.{◌≡◌, ℕ, ◌-◌, List, length, drop}
use Rattle.csp_model.specs.declared.verdict.Violation.{Violation}

-- how many violations it prints at most, and those that it took
pub record LimitedHistory : Type 0 where
  pub limit : ℕ
  pub held : List Violation

-- the last of the violations that it took, and how many came before them
pub record IsLatest (limit : ℕ) (held : List Violation) (earlier : ℕ) (latest : List Violation) : Type 0 where
  pub number : earlier ≡ length held - limit
  pub last : latest ≡ drop earlier held
