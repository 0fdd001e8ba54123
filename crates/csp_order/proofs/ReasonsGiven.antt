-- Chains show inclusion, and relations with their reasons grow at their end.
use Rattle.std.proofs.Common.{◌≡◌, ◌∙◌, ◌↔◌, sym, ap, subst, refl, ℕ, List, [], ◌∷◌, ◌++◌, map, All, append-nil, append_assoc, length, IsTrue}
use Rattle.std.proofs.lemmas.Bool.{false≢true}
use Rattle.std.proofs.lemmas.List.Concat.{flat_map-append}
use Rattle.std.proofs.lemmas.List.Elements.{All-nil, All-cons, All-head, All-tail, All-append, All-contains}
use Rattle.csp_model.specs.Inclusion.{Subsumes}
use Rattle.csp_model.specs.declared.policy.PolicyList.{PolicyList}
use Rattle.csp_order.specs.Chains.{IsChain, LeadsThrough}
use Rattle.csp_order.specs.Pairs.{IsPair, pair}
use Rattle.csp_order.specs.Relations.{list_at, Includes, IsReason, pair_of, proved_by, AreReasons, is_yes, proved, HasProof, HasProofOf}
use Rattle.csp_order.specs.Ways.{end_of}
use Rattle.csp_order.specs.declared.pair.Pair.{Pair}
use Rattle.csp_order.specs.declared.relation.Because.{Because}
use Rattle.csp_order.specs.declared.relation.Because.TheVariants as because
use Rattle.csp_order.specs.declared.relation.Relation.{Relation}
use Rattle.csp_order.proofs.WaysFound.{end_push}

-- Chains

chain_subsumes : (lists : List PolicyList) (proofs : List Pair) → All (Includes lists) proofs → (first : ℕ)
    (steps : List ℕ) → IsChain proofs first steps → Subsumes (list_at lists first) (list_at lists (end_of first steps))
chain_subsumes lists proofs each first [] chain asked valid allowed = allowed
chain_subsumes lists proofs each first (next ∷ steps) chain asked valid allowed =
    chain_subsumes lists proofs each next steps chain.1 asked valid
    (All-contains (Includes lists) proofs (pair first next) each chain.0 asked valid allowed)

pub chain_includes : (lists : List PolicyList) (proofs : List Pair) (ends : Pair) (between : List ℕ)
    → All (Includes lists) proofs → LeadsThrough proofs ends between → Includes lists ends
chain_includes lists proofs ends between each leads =
    subst (λ (n : ℕ). Subsumes (list_at lists ends.first) (list_at lists n))
    (end_push ends.first between ends.second)
    (chain_subsumes lists proofs each ends.first (between ++ ends.second ∷ []) leads.chain)

-- Relations

proof_of_each : (P : Pair → Type 0) (p : Pair) (b : Because) → P p → All P (proved_by p b)
proof_of_each P p (because.Proof proof) h = All-cons P p [] h (All-nil P)
proof_of_each P p (because.Through between) h = All-nil P
proof_of_each P p (because.Check asked) h = All-nil P

-- what holds of all pairs holds of those that have a proof
pub each_proved : (P : Pair → Type 0) (rs : List Relation) → All P (map pair_of rs) → All P (proved rs)
each_proved P [] each = All-nil P
each_proved P (r ∷ rs) each =
    All-append P (proved_by (pair_of r) r.because) (proved rs)
    (proof_of_each P (pair_of r) r.because (All-head P (pair_of r) (map pair_of rs) each))
    (each_proved P rs (All-tail P (pair_of r) (map pair_of rs) each))

pub proved_push : (rs : List Relation) (r : Relation)
    → proved (rs ++ r ∷ []) ≡ proved rs ++ proved_by (pair_of r) r.because
proved_push rs r =
    flat_map-append (λ (q : Relation). proved_by (pair_of q) q.because) rs (r ∷ [])
    ∙ ap (λ (ps : List Pair). proved rs ++ ps) (append-nil (proved_by (pair_of r) r.because))

pub reasons_push : (lists : List PolicyList) (ps : List Pair) (rs : List Relation) (r : Relation)
    → AreReasons lists ps rs → IsReason lists (ps ++ proved rs) (pair_of r) r.because
    → AreReasons lists ps (rs ++ r ∷ [])
reasons_push lists ps [] r are is =
    (subst (λ (qs : List Pair). IsReason lists qs (pair_of r) r.because) (append-nil ps) is, tt)
reasons_push lists ps (q ∷ rs) r are is = (
  are.0,
  reasons_push lists (ps ++ proved_by (pair_of q) q.because) rs r are.1
      (subst (λ (qs : List Pair). IsReason lists qs (pair_of r) r.because)
      (sym (append_assoc ps (proved_by (pair_of q) q.because) (proved rs))) is),
)

yes_where_included : (lists : List PolicyList) (ps : List Pair) (p : Pair) (b : Because) → IsReason lists ps p b
    → IsTrue (is_yes b) ↔ Includes lists p
yes_where_included lists ps p (because.Proof proof) is = (λ _. is.includes, λ _. refl)
yes_where_included lists ps p (because.Through between) is = (λ _. is.includes, λ _. refl)
yes_where_included lists ps p (because.Check asked) is =
    (λ yes. absurd (false≢true yes), λ includes. absurd (is.differs includes))

pub reasons_decide : (lists : List PolicyList) (ps : List Pair) (rs : List Relation) → AreReasons lists ps rs
    → All (λ (r : Relation). IsTrue (is_yes r.because) ↔ Includes lists (pair_of r)) rs
reasons_decide lists ps [] are = All-nil (λ (r : Relation). IsTrue (is_yes r.because) ↔ Includes lists (pair_of r))
reasons_decide lists ps (r ∷ rs) are =
    All-cons (λ (q : Relation). IsTrue (is_yes q.because) ↔ Includes lists (pair_of q)) r rs
    (yes_where_included lists ps (pair_of r) r.because are.0)
    (reasons_decide lists (ps ++ proved_by (pair_of r) r.because) rs are.1)

proof_has : (lists : List PolicyList) (ps : List Pair) (p : Pair) (b : Because) → IsPair (length lists) p → IsReason lists ps p b
    → HasProofOf lists p b
proof_has lists ps p (because.Proof proof) of is = (of, is.printed)
proof_has lists ps p (because.Through between) of is = tt
proof_has lists ps p (because.Check asked) of is = tt

-- each reason that is a proof is one for its pair
pub reasons_have : (lists : List PolicyList) (ps : List Pair) (rs : List Relation) → All (IsPair (length lists)) (map pair_of rs)
    → AreReasons lists ps rs → All (HasProof lists) rs
reasons_have lists ps [] each are = All-nil (HasProof lists)
reasons_have lists ps (r ∷ rs) each are =
    All-cons (HasProof lists) r rs
    (proof_has lists ps (pair_of r) r.because (All-head (IsPair (length lists)) (pair_of r) (map pair_of rs) each) are.0)
    (reasons_have lists (ps ++ proved_by (pair_of r) r.because) rs
    (All-tail (IsPair (length lists)) (pair_of r) (map pair_of rs) each) are.1)
