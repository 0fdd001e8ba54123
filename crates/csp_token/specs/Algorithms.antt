-- The algorithms that a source list's hash-sources name.
use Rattle.std.specs.Prelude.{Bool, false, List, IsTrue}
use Rattle.std.specs.List.{list_any}
use Rattle.csp_model.specs.DecideEquality.{same_algorithm}
use Rattle.csp_token.specs.Types.{Algorithm, Source, Algorithms}
use Rattle.csp_model.specs.declared.source.Algorithm.TheVariants.{Sha256, Sha384, Sha512}

-- a hash-source of this algorithm
abbrev pub is_of_algorithm : Algorithm → Source → Bool
is_of_algorithm algorithm (Source.Digest hash) = same_algorithm hash.algorithm algorithm
is_of_algorithm algorithm s = false

-- a source list has a hash-source of this algorithm
abbrev pub names : Algorithm → List Source → Bool
names algorithm sources = list_any (is_of_algorithm algorithm) sources

-- the algorithm is among them
abbrev pub has : Algorithm → Algorithms → Bool
has Sha256 algorithms = algorithms.sha256
has Sha384 algorithms = algorithms.sha384
has Sha512 algorithms = algorithms.sha512

-- each algorithm that the list names is among them
abbrev pub Covers : Algorithms → List Source → Type 0
Covers algorithms sources =
    (algorithm : Algorithm) → IsTrue (names algorithm sources) → IsTrue (has algorithm algorithms)
