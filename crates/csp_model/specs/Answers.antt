-- Answers of calls that can want memory.
use Rattle.std.specs.Prelude.{◌≡◌, ◌≢◌, Result, Ok, Err, MatchResult}

-- the result is the expected one, unless memory was wanting, for which this error stands
abbrev pub Gives : {T E : Type 0} → E → Result T E → Result T E → Type 0
Gives memory result expected =
    MatchResult result (λ value. expected ≡ Ok value) (λ e. e ≢ memory → expected ≡ Err e)
