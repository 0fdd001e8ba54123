-- Whether two hosts, ports, algorithms, hashes or keywords are one, as tests.
use Rattle.std.specs.Prelude.{ℕ, ◌==◌, ◌&&◌, Bool, true, false, Option, Some, None}
use Rattle.std.specs.Str.{bytes_eq}
use Rattle.csp_model.specs.Grammar.{keyword_text}
use Rattle.csp_model.specs.Types.{Algorithm, Hash, Keyword, Host}
use Rattle.csp_model.specs.declared.source.Algorithm.TheVariants.{Sha256, Sha384, Sha512}
use Rattle.csp_model.specs.declared.url.Host.TheVariants.{Domain, Address}

abbrev pub same_host : Host → Host → Bool
same_host (Domain a) (Domain b) = bytes_eq a b
same_host (Address a) (Address b) = bytes_eq a b
same_host a b = false

abbrev pub same_port : Option ℕ → Option ℕ → Bool
same_port None None = true
same_port (Some m) (Some n) = m == n
same_port m n = false

abbrev pub same_algorithm : Algorithm → Algorithm → Bool
same_algorithm Sha256 Sha256 = true
same_algorithm Sha384 Sha384 = true
same_algorithm Sha512 Sha512 = true
same_algorithm a b = false

abbrev pub same_hash : Hash → Hash → Bool
same_hash g h = same_algorithm g.algorithm h.algorithm && bytes_eq g.value h.value

-- keywords are one where they are written alike
abbrev pub same_keyword : Keyword → Keyword → Bool
same_keyword a b = bytes_eq (keyword_text a) (keyword_text b)
