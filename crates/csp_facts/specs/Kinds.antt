-- The order of atoms by cases: atoms of one kind by what they say, others by their kinds.
use Rattle.std.specs.Prelude.{ℕ, List}
use Rattle.std.specs.Cmp.Lexicographic.{slice_cmp}
use Rattle.std.specs.Ordering.{nat_cmp, ordering_then}
use Rattle.std.specs.declared.cmp.Ordering.{Ordering}
use Rattle.std.specs.declared.cmp.Ordering.TheVariants.{Less, Greater}
use Rattle.csp_model.specs.Tokens.{algorithm_of, bytes_of}
use Rattle.csp_model.specs.declared.url.Host.{Host}
use Rattle.csp_model.specs.declared.url.Host.TheVariants.{Domain, Address}
use Rattle.csp_model.specs.declared.source.Algorithm.{Algorithm}
use Rattle.csp_facts.specs.declared.atom.Atom.{Atom}
use Rattle.csp_facts.specs.declared.atom.Atom.TheVariants.{HostIs, HostUnder, PortIs, PathIs, PathUnder, SchemeIs, NonceIs, IntegrityHas, DigestIs}
use Rattle.csp_facts.specs.Order.{rank, algorithm_rank, path_key}

abbrev pub text_cmp : List ℕ → List ℕ → Ordering
text_cmp = slice_cmp nat_cmp

abbrev pub host_cmp : Host → Host → Ordering
host_cmp (Domain one) (Domain other) = text_cmp one other
host_cmp (Address one) (Address other) = text_cmp one other
host_cmp (Domain one) (Address other) = Less
host_cmp (Address one) (Domain other) = Greater

-- values under algorithms
abbrev pub tagged_cmp : Algorithm → List ℕ → Algorithm → List ℕ → Ordering
tagged_cmp algorithm one by other =
    ordering_then (nat_cmp (algorithm_rank algorithm) (algorithm_rank by)) (text_cmp one other)

abbrev pub path_cmp : List (List ℕ) → List (List ℕ) → Ordering
path_cmp one other = slice_cmp text_cmp (path_key one) (path_key other)

abbrev pub by_kind : Atom → Atom → Ordering
by_kind (HostIs one) (HostIs other) = host_cmp one other
by_kind (HostUnder one) (HostUnder other) = text_cmp one other
by_kind (PortIs one) (PortIs other) = nat_cmp one other
by_kind (PathIs one) (PathIs other) = path_cmp one other
by_kind (PathUnder one) (PathUnder other) = path_cmp one other
by_kind (SchemeIs one) (SchemeIs other) = text_cmp one other
by_kind (NonceIs one) (NonceIs other) = text_cmp one other
by_kind (IntegrityHas one) (IntegrityHas other) =
    tagged_cmp one.algorithm one.value other.algorithm other.value
by_kind (DigestIs one) (DigestIs other) =
    tagged_cmp (algorithm_of one) (bytes_of one) (algorithm_of other) (bytes_of other)
by_kind one other = nat_cmp (rank one) (rank other)
