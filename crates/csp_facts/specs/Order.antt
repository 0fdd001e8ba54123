-- An order of atoms: by kind, so that those on one part of a check stand together, and then by what they say.
use Rattle.std.specs.Prelude.{ℕ, List, [], ◌∷◌}
use Rattle.std.specs.Cmp.Lexicographic.{slice_cmp}
use Rattle.std.specs.Ordering.{nat_cmp}
use Rattle.std.specs.declared.cmp.Ordering.{Ordering}
use Rattle.csp_model.specs.Paths.{front_text}
use Rattle.csp_model.specs.Tokens.{algorithm_of, bytes_of}
use Rattle.csp_model.specs.declared.source.Algorithm.{Algorithm}
use Rattle.csp_model.specs.declared.source.Algorithm.TheVariants.{Sha256, Sha384, Sha512}
use Rattle.csp_model.specs.declared.url.Host.{Host}
use Rattle.csp_model.specs.declared.url.Host.TheVariants.{Domain, Address}
use Rattle.csp_facts.specs.declared.atom.Atom.{Atom}
use Rattle.csp_facts.specs.declared.atom.Atom.TheVariants.{HostIs, HostUnder, HostDomain, PortIs, PathIs, PathUnder, SchemeIs, NonceIs, IntegrityHas, IntegrityOutside, DigestIs}

-- the kind of an atom, as a number
abbrev pub rank : Atom → ℕ
rank (HostIs host) = 0
rank (HostUnder suffix) = 1
rank HostDomain = 2
rank (PortIs n) = 3
rank (PathIs pieces) = 4
rank (PathUnder pieces) = 5
rank (SchemeIs scheme) = 6
rank (NonceIs value) = 7
rank (IntegrityHas hash) = 8
rank IntegrityOutside = 9
rank (DigestIs digest) = 10

abbrev pub algorithm_rank : Algorithm → ℕ
algorithm_rank Sha256 = 0
algorithm_rank Sha384 = 1
algorithm_rank Sha512 = 2

abbrev pub host_key : Host → List (List ℕ)
host_key (Domain domain) = (0 ∷ []) ∷ domain ∷ []
host_key (Address address) = (1 ∷ []) ∷ address ∷ []

-- paths are in order by their texts, each with a "/" at its end, so all that begin with the same pieces stand
-- together; no two have one text
abbrev pub path_key : List (List ℕ) → List (List ℕ)
path_key pieces = front_text pieces ∷ pieces

-- what an atom says, as strings of numbers
abbrev pub content : Atom → List (List ℕ)
content (HostIs host) = host_key host
content (HostUnder suffix) = suffix ∷ []
content HostDomain = []
content (PortIs n) = (n ∷ []) ∷ []
content (PathIs pieces) = path_key pieces
content (PathUnder pieces) = path_key pieces
content (SchemeIs scheme) = scheme ∷ []
content (NonceIs value) = value ∷ []
content (IntegrityHas hash) = (algorithm_rank hash.algorithm ∷ []) ∷ hash.value ∷ []
content IntegrityOutside = []
content (DigestIs digest) = (algorithm_rank (algorithm_of digest) ∷ []) ∷ bytes_of digest ∷ []

abbrev pub key : Atom → List (List ℕ)
key atom = (rank atom ∷ []) ∷ content atom

-- the keys decide, number by number
abbrev pub atom_cmp : Atom → Atom → Ordering
atom_cmp one other = slice_cmp (slice_cmp nat_cmp) (key one) (key other)
