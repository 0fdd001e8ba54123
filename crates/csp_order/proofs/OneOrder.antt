-- Two orderings of the same lists say the same of each pair.
use Rattle.std.proofs.Common.{◌≡◌, ◌∙◌, sym, ap, ap₂, subst, refl, List, [], ◌∷◌, ◌++◌, map, ◌↔◌, All, IsTrue}
use Rattle.csp_model.specs.declared.policy.PolicyList.{PolicyList}
use Rattle.csp_order.specs.Relations.{AreReasons, Includes, IsOrder, IsReason, is_yes, pair_of, proved_by}
use Rattle.csp_order.specs.declared.pair.Pair.{Pair}
use Rattle.csp_order.specs.declared.relation.Because.{Because}
use Rattle.csp_order.specs.declared.relation.Because.TheVariants as because
use Rattle.csp_order.specs.declared.relation.Relation.{Relation}
use Rattle.csp_order.proofs.ReasonsGiven.{reasons_decide}
use Rattle.csp_order.specs.Answers.{Answer, answer_of, answers}

-- two reasons of a pair say the same of it, and both or neither is a proof
record AreAlike (p : Pair) (one other : Because) : Type 0 where
  answer : answer_of one ≡ answer_of other
  proofs : proved_by p one ≡ proved_by p other

alike : (lists : List PolicyList) (proofs : List Pair) (p : Pair) (one other : Because)
    → IsReason lists proofs p one → IsReason lists proofs p other → AreAlike p one other
alike lists proofs p (because.Proof a) (because.Proof b) is also = record { answer = refl; proofs = refl }
alike lists proofs p (because.Proof a) (because.Through b) is also = absurd (is.apart b also.leads.chain)
alike lists proofs p (because.Proof a) (because.Check b) is also = absurd (also.differs is.includes)
alike lists proofs p (because.Through a) (because.Proof b) is also = absurd (also.apart a is.leads.chain)
alike lists proofs p (because.Through a) (because.Through b) is also = record { answer = refl; proofs = refl }
alike lists proofs p (because.Through a) (because.Check b) is also = absurd (also.differs is.includes)
alike lists proofs p (because.Check a) (because.Proof b) is also = absurd (is.differs also.includes)
alike lists proofs p (because.Check a) (because.Through b) is also = absurd (is.differs also.includes)
alike lists proofs p (because.Check a) (because.Check b) is also = record { answer = refl; proofs = refl }

all_alike : (lists : List PolicyList) (proofs : List Pair) (rs qs : List Relation) → map pair_of rs ≡ map pair_of qs
    → AreReasons lists proofs rs → AreReasons lists proofs qs → answers rs ≡ answers qs
all_alike lists proofs [] [] same are also = refl
all_alike lists proofs [] (q ∷ qs) same are also =
    absurd (let h : [] ≡ pair_of q ∷ map pair_of qs = same in let no : ⊥ = cc in no)
all_alike lists proofs (r ∷ rs) [] same are also =
    absurd (let h : pair_of r ∷ map pair_of rs ≡ [] = same in let no : ⊥ = cc in no)
all_alike lists proofs (r ∷ rs) (q ∷ qs) same are also =
    let h : pair_of r ∷ map pair_of rs ≡ pair_of q ∷ map pair_of qs = same in
    let here : pair_of r ≡ pair_of q = cc in
    let rest : map pair_of rs ≡ map pair_of qs = cc in
    let both = alike lists proofs (pair_of r) r.because q.because are.0
    (subst (λ (p : Pair). IsReason lists proofs p q.because) (sym here) also.0) in
    let proved : proved_by (pair_of q) q.because ≡ proved_by (pair_of r) r.because =
    ap (λ (p : Pair). proved_by p q.because) (sym here) ∙ sym both.proofs in
    ap₂ (λ (first : Pair × Answer) (others : List (Pair × Answer)). first ∷ others)
    (ap₂ (λ (p : Pair) (said : Answer). (p, said)) here both.answer)
    (all_alike lists (proofs ++ proved_by (pair_of r) r.because) rs qs rest are.1
    (subst (λ (ps : List Pair). AreReasons lists (proofs ++ ps) qs) proved also.1))

pub one_answer : (lists : List PolicyList) (one other : List Relation) → IsOrder lists one → IsOrder lists other
    → answers one ≡ answers other
one_answer lists one other a b = all_alike lists [] one other (a.pairs ∙ sym b.pairs) a.reasons b.reasons

pub yes_is_inclusion : (lists : List PolicyList) (relations : List Relation) → IsOrder lists relations
    → All (λ (r : Relation). IsTrue (is_yes r.because) ↔ Includes lists (pair_of r)) relations
yes_is_inclusion lists relations ordered = reasons_decide lists [] relations ordered.reasons
