-- A check that an enforced policy refuses shows that the list doesn't allow it.
use Rattle.std.proofs.Common.{◌≡◌, ◌∙◌, ap, refl, ℕ, zero, suc, Bool, true, false, not, ◌&&◌, ◌||◌, List, [], ◌∷◌}
use Rattle.std.specs.Prelude.{IsTrue, MatchOption, slice_get}
use Rattle.std.specs.List.{list_all}
use Rattle.csp_model.specs.DecideVerdict.{allows}
use Rattle.csp_model.specs.Verdict.{is_enforce}
use Rattle.csp_model.specs.declared.check.Check.{Check}
use Rattle.csp_model.specs.declared.policy.Policy.{Policy}
use Rattle.csp_proof.specs.Accepts.{Lists}
use Rattle.csp_proof.specs.Pairs.{Pair}
use Rattle.csp_search.specs.Answers.{ShowsNone}
use Rattle.csp_compare.specs.Answers.{IsCounterexample}

and_false : (b c : Bool) → c ≡ false → (b && c) ≡ false
and_false true c is = is
and_false false c is = refl

refused_at : (asked : Check) (ps : List Policy) (i : ℕ) → MatchOption (slice_get ps i) ⊥ (λ (p : Policy). IsTrue (is_enforce p.disposition))
    → MatchOption (slice_get ps i) ⊥ (λ (p : Policy). allows p asked ≡ false) → list_all (λ (p : Policy). not (is_enforce p.disposition) || allows p asked) ps ≡ false
refused_at asked [] i enforces refuses = absurd refuses
refused_at asked (p ∷ ps) zero enforces refuses =
    let rest = list_all (λ (q : Policy). not (is_enforce q.disposition) || allows q asked) ps in
    ap (λ (b : Bool). (not b || allows p asked) && rest) enforces ∙ ap (λ (b : Bool). b && rest) refuses
refused_at asked (p ∷ ps) (suc i) enforces refuses = and_false _ _ (refused_at asked ps i enforces refuses)

pub refutes : (lists : Lists) (pair : Pair) (asked : Check) → MatchOption (slice_get lists.second.policies pair.policy) ⊥ (λ (p : Policy). IsTrue (is_enforce p.disposition))
    → ShowsNone lists pair asked → IsCounterexample lists.first lists.second asked
refutes lists pair asked enforces shows = record {
  valid = shows.valid;
  allowed = shows.allowed;
  refused = refused_at asked lists.second.policies pair.policy enforces shows.refused;
}
