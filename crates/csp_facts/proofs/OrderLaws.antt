-- The two forms of the order of atoms are one, and it is a total order, in which equal atoms alone are level.
use Rattle.std.proofs.Common.{◌≡◌, ◌∙◌, refl, ap, ℕ, List, [], ◌∷◌}
use Rattle.std.specs.Cmp.{IsTotalOrder, on_total}
use Rattle.std.specs.Cmp.Lexicographic.{slice_cmp, lists_total, nat_list_cmp_total}
use Rattle.std.specs.Ordering.{nat_cmp, ordering_then}
use Rattle.std.specs.declared.cmp.Ordering.{Ordering}
use Rattle.std.specs.declared.cmp.Ordering.TheVariants.{Less, Equal, Greater}
use Rattle.csp_model.specs.Tokens.{algorithm_of, bytes_of}
use Rattle.csp_model.specs.declared.source.Algorithm.{Algorithm}
use Rattle.csp_model.specs.declared.url.Host.TheVariants.{Domain, Address}
use Rattle.csp_facts.specs.declared.atom.Atom.{Atom}
use Rattle.csp_facts.specs.declared.atom.Atom.TheVariants.{HostIs, HostUnder, HostDomain, PortIs, PathIs, PathUnder, SchemeIs, NonceIs, IntegrityHas, IntegrityOutside, DigestIs}
use Rattle.csp_facts.specs.Order.{algorithm_rank, key, atom_cmp}
use Rattle.csp_facts.specs.Kinds.{text_cmp, tagged_cmp, by_kind}

-- nothing comes after
then_level : (r : Ordering) → ordering_then r Equal ≡ r
then_level Less = refl
then_level Equal = refl
then_level Greater = refl

one_text : (s t : List ℕ) → slice_cmp text_cmp (s ∷ []) (t ∷ []) ≡ text_cmp s t
one_text s t = then_level (text_cmp s t)

one_number : (m n : ℕ) → slice_cmp text_cmp ((m ∷ []) ∷ []) ((n ∷ []) ∷ []) ≡ nat_cmp m n
one_number m n = then_level (text_cmp (m ∷ []) (n ∷ [])) ∙ then_level (nat_cmp m n)

tagged : (a b : Algorithm) (s t : List ℕ) → slice_cmp text_cmp ((algorithm_rank a ∷ []) ∷ s ∷ []) ((algorithm_rank b ∷ []) ∷ t ∷ []) ≡ tagged_cmp a s b t
tagged a b s t =
    ap (λ r. ordering_then r (slice_cmp text_cmp (s ∷ []) (t ∷ []))) (then_level (nat_cmp (algorithm_rank a) (algorithm_rank b)))
    ∙ ap (ordering_then (nat_cmp (algorithm_rank a) (algorithm_rank b))) (one_text s t)

pub by_kind_is : (one other : Atom) → atom_cmp one other ≡ by_kind one other
by_kind_is (HostIs (Domain s)) (HostIs (Domain t)) = one_text s t
by_kind_is (HostIs (Address s)) (HostIs (Address t)) = one_text s t
by_kind_is (HostIs (Domain s)) (HostIs (Address t)) = refl
by_kind_is (HostIs (Address s)) (HostIs (Domain t)) = refl
by_kind_is (HostUnder s) (HostUnder t) = one_text s t
by_kind_is (PortIs m) (PortIs n) = one_number m n
by_kind_is (PathIs p) (PathIs q) = refl
by_kind_is (PathUnder p) (PathUnder q) = refl
by_kind_is (SchemeIs s) (SchemeIs t) = one_text s t
by_kind_is (NonceIs v) (NonceIs w) = one_text v w
by_kind_is (IntegrityHas g) (IntegrityHas h) = tagged g.algorithm h.algorithm g.value h.value
by_kind_is (DigestIs d) (DigestIs e) = tagged (algorithm_of d) (algorithm_of e) (bytes_of d) (bytes_of e)
by_kind_is HostDomain (PortIs n) = refl
by_kind_is IntegrityOutside (PortIs n) = refl
by_kind_is one other = refl

pub atom_total : IsTotalOrder atom_cmp
atom_total = on_total key (lists_total nat_list_cmp_total)
