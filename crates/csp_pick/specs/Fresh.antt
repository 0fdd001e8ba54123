-- Texts with numbers, of which one is found that nobody says.
use Rattle.std.specs.Prelude.{◌≡◌, ℕ, ◌<◌, ◌^◌, ◌==◌, List, [], ◌++◌, decimal, if◌then◌else◌}

-- nothing for the first
abbrev pub suffix : ℕ → List ℕ
suffix number = if number == 1 then [] else decimal number

abbrev pub numbered : List ℕ → ℕ → List ℕ → List ℕ
numbered front number back = front ++ (suffix number ++ back)

-- the text is the front and the back, with some number between them or with none
abbrev pub IsNumbered : List ℕ → List ℕ → List ℕ → Type 0
IsNumbered front back text = (number : ℕ) × (number < 2 ^ 64) × (text ≡ numbered front number back)
