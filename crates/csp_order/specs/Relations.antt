-- What is said of each pair of lists: whether the second allows all that the first allows, and why.
use Rattle.std.specs.Prelude.{◌≡◌, ◌≤◌, ⊤, ℕ, ◌-◌, All, Bool, true, false, List, [], ◌∷◌, ◌++◌, length, map, slice_index_or}
use Rattle.std.specs.List.{flat_map}
use Rattle.csp_compare.specs.Answers.{IsPrinted, IsCounterexample}
use Rattle.csp_model.specs.Inclusion.{Subsumes}
use Rattle.csp_model.specs.Policies.{IsReadable}
use Rattle.csp_model.specs.declared.check.Check.{Check}
use Rattle.csp_model.specs.declared.policy.PolicyList.{PolicyList}
use Rattle.csp_proof.specs.declared.proof.Proof.{Proof as ProofValue}
use Rattle.csp_order.specs.Chains.{IsApart, LeadsThrough}
use Rattle.csp_order.specs.Pairs.{IsPair, list_limit, pair, pairs}
use Rattle.csp_order.specs.declared.pair.Pair.{Pair}
use Rattle.csp_order.specs.declared.relation.Because.{Because}
use Rattle.csp_order.specs.declared.relation.Because.TheVariants as because
use Rattle.csp_order.specs.declared.relation.Relation.{Relation}

-- the list of a number, where the first has the number 1
abbrev pub list_at : List PolicyList → ℕ → PolicyList
list_at lists number = slice_index_or lists (number - 1) (record { policies = [] })

-- the second list of the pair allows all that the first allows
abbrev pub Includes : List PolicyList → Pair → Type 0
Includes lists p = Subsumes (list_at lists p.first) (list_at lists p.second)

-- Reasons, where these pairs have proofs

-- the second list allows all that the first allows, no chain of these pairs says so, and a proof does
pub record IsProof (lists : List PolicyList) (proofs : List Pair) (p : Pair) (proof : ProofValue) : Type 0 where
  pub includes : Includes lists p
  pub apart : IsApart proofs p
  pub printed : IsPrinted (list_at lists p.first) (list_at lists p.second) proof

-- it does, and a chain of these pairs through these lists says so
pub record IsThrough (lists : List PolicyList) (proofs : List Pair) (p : Pair) (between : List ℕ) : Type 0 where
  pub includes : Includes lists p
  pub leads : LeadsThrough proofs p between

-- it doesn't, and a check shows it
pub record IsCheck (lists : List PolicyList) (p : Pair) (asked : Check) : Type 0 where
  pub differs : ¬ Includes lists p
  pub shown : IsCounterexample (list_at lists p.first) (list_at lists p.second) asked

abbrev pub IsReason : List PolicyList → List Pair → Pair → Because → Type 0
IsReason lists proofs p (because.Proof proof) = IsProof lists proofs p proof
IsReason lists proofs p (because.Through between) = IsThrough lists proofs p between
IsReason lists proofs p (because.Check asked) = IsCheck lists p asked

-- Relations, one after the other

abbrev pub pair_of : Relation → Pair
pair_of r = pair r.first r.second

-- the pair, where it has a proof
abbrev pub proved_by : Pair → Because → List Pair
proved_by p (because.Proof proof) = p ∷ []
proved_by p (because.Through between) = []
proved_by p (because.Check asked) = []

-- each has a reason, where these pairs have proofs, and those before it that have one
abbrev pub AreReasons : List PolicyList → List Pair → List Relation → Type 0
AreReasons lists proofs [] = ⊤
AreReasons lists proofs (r ∷ rs) =
    IsReason lists proofs (pair_of r) r.because
    × AreReasons lists (proofs ++ proved_by (pair_of r) r.because) rs

-- a relation for each pair of two different lists, each with its reason
pub record IsOrder (lists : List PolicyList) (relations : List Relation) : Type 0 where
  pub pairs : map pair_of relations ≡ pairs (length lists)
  pub reasons : AreReasons lists [] relations

-- whether a reason says that the second list allows all that the first allows
abbrev pub is_yes : Because → Bool
is_yes (because.Proof proof) = true
is_yes (because.Through between) = true
is_yes (because.Check asked) = false

-- Words of private contracts

-- the pairs that have a proof, among these relations
abbrev pub proved : List Relation → List Pair
proved relations = flat_map (λ (r : Relation). proved_by (pair_of r) r.because) relations

-- the lists, and the pairs that have a proof so far
pub record Known : Type 0 where
  pub lists : List PolicyList
  pub proved : List Pair

-- at most so many lists, as reading makes them, and pairs of them of which the second allows what the first does
pub record IsKnown (lists : List PolicyList) (proved : List Pair) : Type 0 where
  pub few : length lists ≤ list_limit
  pub readable : All IsReadable lists
  pub pairs : All (IsPair (length lists)) proved
  pub included : All (Includes lists) proved

-- where the reason is a proof, it is one of the pair
abbrev pub HasProofOf : List PolicyList → Pair → Because → Type 0
HasProofOf lists p (because.Proof proof) =
    IsPair (length lists) p × IsPrinted (list_at lists p.first) (list_at lists p.second) proof
HasProofOf lists p (because.Through between) = ⊤
HasProofOf lists p (because.Check asked) = ⊤

abbrev pub HasProof : List PolicyList → Relation → Type 0
HasProof lists r = HasProofOf lists (pair_of r) r.because

-- each proof of the one pair is one of the other
abbrev pub Serves : List PolicyList → Pair → Pair → Type 0
Serves lists one other = (proof : ProofValue)
    → IsPrinted (list_at lists one.first) (list_at lists one.second) proof
    → IsPrinted (list_at lists other.first) (list_at lists other.second) proof
