-- In the order of facts on hosts, what a fact is around stands right behind it.
use Rattle.std.proofs.Common.{◌≡◌, ◌∙◌, sym, ap, subst, ℕ, ◌<◌, true, false, List, ◌++◌, append_assoc}
use Rattle.std.specs.Cmp.{IsTotalOrder, ranks, nat_cmp_total}
use Rattle.std.specs.Cmp.Lexicographic.{slice_cmp, on_texts}
use Rattle.std.specs.Ordering.{nat_cmp, is_gt}
use Rattle.std.specs.declared.cmp.Ordering.{Ordering}
use Rattle.std.specs.declared.cmp.Ordering.TheVariants.{Equal}
use Rattle.std.specs.Ordering.{MatchOrdering}
use Rattle.csp_facts.specs.declared.atom.Atom.{Atom}
use Rattle.csp_branch.specs.Around.{is_around}
use Rattle.csp_branch.specs.Hosts.{host_key, host_cmp, IsHostAtom}
use Rattle.csp_branch.proofs.HostKeys.{around_is_front, front_is_around}
use Rattle.csp_branch.proofs.Prefixes.{front_is_low, between}

exact : (m n : ℕ) → nat_cmp m n ≡ Equal → m ≡ n
exact m n e = subst (λ (o : Ordering). MatchOrdering o (m < n) (m ≡ n) (n < m)) e (ranks m n)

pub host_total : IsTotalOrder host_cmp
host_total = on_texts host_key

pub through : (a b c : Atom) → IsHostAtom a → IsHostAtom b → IsHostAtom c → is_around a b ≡ true → is_around b c ≡ true → is_around a c ≡ true
through a b c one two three h k =
    let first = around_is_front a b one two h in
    let second = around_is_front b c two three k in
    front_is_around a c one three (
      first.0 ++ second.0,
      second.1 ∙ ap (λ (l : List ℕ). l ++ second.0) first.1 ∙ append_assoc (host_key a) first.0 second.0,
    )

pub around_is_low : (a b : Atom) → IsHostAtom a → IsHostAtom b → is_around a b ≡ true → is_gt (host_cmp a b) ≡ false
around_is_low a b one two h =
    let front = around_is_front a b one two h in
    subst (λ (l : List ℕ). is_gt (slice_cmp nat_cmp (host_key a) l) ≡ false) (sym front.1)
    (front_is_low nat_cmp nat_cmp_total exact (host_key a) front.0)

pub around_between : (a b c : Atom) → IsHostAtom a → IsHostAtom b → IsHostAtom c → is_around a c ≡ true
    → is_gt (host_cmp a b) ≡ false → is_gt (host_cmp b c) ≡ false → is_around a b ≡ true
around_between a b c one two three h low high =
    let front = around_is_front a c one three h in
    front_is_around a b one two (between nat_cmp nat_cmp_total exact (host_key a) (host_key b) front.0 low
    (subst (λ (l : List ℕ). is_gt (slice_cmp nat_cmp (host_key b) l) ≡ false) front.1 high))
