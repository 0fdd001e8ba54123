-- The hashes that were seen, in a set of references.
use Rattle.std.proofs.Common.{◌≡◌, ◌∙◌, ap, refl, ℕ, Bool, true, cond, List, [], ◌∷◌, ◌++◌, Bor}
use Rattle.std.specs.declared.cmp.Ordering.{Ordering}
use Rattle.std.specs.Ordering.{is_eq}
use Rattle.std.specs.BTreeSet.{BTreeSet, contains_by}
use Rattle.std.proofs.lemmas.Map.Text.{is_eq-slice_cmp}
use Rattle.csp_model.specs.contracts.source.HashOrd.TheImpl as order
use Rattle.csp_model.specs.DecideEquality.{same_hash}
use Rattle.csp_model.specs.declared.source.Algorithm.{Algorithm}
use Rattle.csp_model.specs.declared.source.Algorithm.TheVariants.{Sha256, Sha384, Sha512}
use Rattle.csp_model.specs.declared.source.Hash.{Hash}
use Rattle.csp_model.proofs.FirstOfEach as first
use Rattle.csp_facts.specs.Holding.{has_hash}

abbrev hash_cmp : Hash → Hash → Ordering
hash_cmp = (order.ghosts).cmp

-- a hash of these parts
abbrev of_parts : Algorithm → List ℕ → Hash
of_parts algorithm value = record { algorithm = algorithm; value = value }

equal_parts : (a b : Algorithm) (v w : List ℕ) → is_eq (hash_cmp (of_parts a v) (of_parts b w)) ≡ same_hash (of_parts a v) (of_parts b w)
equal_parts Sha256 Sha256 v w = is_eq-slice_cmp v w
equal_parts Sha384 Sha384 v w = is_eq-slice_cmp v w
equal_parts Sha512 Sha512 v w = is_eq-slice_cmp v w
equal_parts a b v w = refl

equal_hashes : (g h : Hash) → is_eq (hash_cmp g h) ≡ same_hash g h
equal_hashes g h = equal_parts g.algorithm h.algorithm g.value h.value

-- the set has the hash
abbrev pub is_seen : BTreeSet (Bor Hash) → Hash → Bool
is_seen seen h = contains_by (λ key. hash_cmp h key.now) seen

-- the set has the hashes of the list
abbrev pub Knows : BTreeSet (Bor Hash) → List Hash → Type 0
Knows seen hs = (h : Hash) → is_seen seen h ≡ has_hash hs h

-- a hash was put into a set
abbrev pub Gains : BTreeSet (Bor Hash) → BTreeSet (Bor Hash) → Hash → Type 0
Gains seen now h = (g : Hash) → is_seen now g ≡ cond (is_eq (hash_cmp h g)) true (is_seen seen g)

pub knows_more : (seen now : BTreeSet (Bor Hash)) (hs : List Hash) (h : Hash) → Gains seen now h → Knows seen hs → Knows now (hs ++ h ∷ [])
knows_more seen now hs h gains =
    first.knows_more (λ (k : Hash). k) same_hash (λ (k : Hash). k) (is_seen seen) (is_seen now) hs h
    (λ g. gains g ∙ ap (λ b. cond b true (is_seen seen g)) (equal_hashes h g))
