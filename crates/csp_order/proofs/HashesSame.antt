-- The test that hashes are equal decides it.
use Rattle.std.proofs.Common.{◌≡◌, ap, refl}
use Rattle.std.specs.Bool.{Decides}
use Rattle.std.proofs.lemmas.Bool.Decides.{Decides-and}
use Rattle.std.proofs.lemmas.Slice.Eq.{bytes_eq-Decides}
use denote.Enum.Bare.{sameb, same_true, true_same}
use Rattle.csp_model.specs.contracts.source.Algorithm.{the_type as algorithms}
use Rattle.csp_model.specs.contracts.source.HashPartialEq.TheImpl as hashes
use Rattle.csp_model.specs.declared.source.Algorithm.{Algorithm}
use Rattle.csp_model.specs.declared.source.Hash.{Hash}

algorithm_decides : (a b : Algorithm) → Decides (sameb algorithms a b) (a ≡ b)
algorithm_decides a b = (same_true algorithms tt a b, true_same algorithms a b)

from_parts : (g h : Hash) → g.algorithm ≡ h.algorithm → g.value ≡ h.value → g ≡ h
from_parts g h e f = rw (e, f) refl

pub hash_decides : (g h : Hash) → Decides ((hashes.ghosts).eq g h) (g ≡ h)
hash_decides g h =
    let both = Decides-and _ _ (algorithm_decides g.algorithm h.algorithm) (bytes_eq-Decides g.value h.value) in
    (λ e. let parts = both.0 e in from_parts g h parts.0 parts.1, λ is. both.1 (ap (λ (x : Hash). x.algorithm) is, ap (λ (x : Hash). x.value) is))
