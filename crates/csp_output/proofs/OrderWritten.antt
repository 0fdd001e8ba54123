-- Relations with their reasons can be written: each proof has a text, and each check is valid.
use Rattle.std.proofs.Common.{◌≡◌, ◌∙◌, ◌≤◌, ◌<◌, ◌+◌, ◌++◌, ℕ, List, [], ◌∷◌, All, length, take, get_or, ap, sym, subst}
use Rattle.std.specs.List.{flat_map}
use Rattle.std.proofs.lemmas.List.{flat_map_more, take_all, take_more}
use Rattle.std.proofs.lemmas.List.Elements.{All-append, All-cons, All-nil}
use Rattle.csp_model.specs.declared.policy.PolicyList.{PolicyList}
use Rattle.csp_order.specs.Relations.{AreReasons, IsOrder, IsReason, pair_of, proved_by}
use Rattle.csp_order.specs.declared.pair.Pair.{Pair}
use Rattle.csp_order.specs.declared.relation.Because.{Because}
use Rattle.csp_order.specs.declared.relation.Because.TheVariants as because
use Rattle.csp_order.specs.declared.relation.Relation.{Relation}
use Rattle.csp_output.specs.Orders.{IsOrdering, IsReadBack, IsWritable, relation_text}
use Rattle.csp_output.specs.declared.built.Built.{Built}
use Rattle.csp_output.specs.declared.status.Status.TheVariants.{Clean}

one_writable : (lists : List PolicyList) (proofs : List Pair) (p : Pair) (b : Because) → IsReason lists proofs p b
    → IsWritable b
one_writable lists proofs p (because.Proof proof) is = is.printed.formed
one_writable lists proofs p (because.Through between) is = tt
one_writable lists proofs p (because.Check asked) is = is.shown.valid

pub each_writable : (lists : List PolicyList) (proofs : List Pair) (rs : List Relation) → AreReasons lists proofs rs
    → All (λ (r : Relation). IsWritable r.because) rs
each_writable lists proofs [] are = All-nil (λ (r : Relation). IsWritable r.because)
each_writable lists proofs (r ∷ rs) are =
    All-cons (λ (q : Relation). IsWritable q.because) r rs
    (one_writable lists proofs (pair_of r) r.because are.0)
    (each_writable lists (proofs ++ proved_by (pair_of r) r.because) rs are.1)

-- the one at a place can be written
pub writable_at : (lists : List PolicyList) (relations items : List Relation) (i : ℕ) (r : Relation)
    → items ≡ relations → AreReasons lists [] relations → i < length items → r ≡ get_or items i r
    → IsWritable r.because
writable_at lists relations items i r same are below is =
    let each : All (λ (q : Relation). IsWritable q.because) items =
    subst (All (λ (q : Relation). IsWritable q.because)) (sym same) (each_writable lists [] relations are) in
    subst (λ (q : Relation). IsWritable q.because) (sym is) (each i r below)

-- one more relation
pub one_more : (items : List Relation) (i : ℕ) (r : Relation) (old new : List ℕ) → i < length items
    → r ≡ get_or items i r → old ≡ flat_map relation_text (take i items) → new ≡ old ++ relation_text r
    → new ≡ flat_map relation_text (take (i + 1) items)
one_more items i r old new below is was more =
    more ∙ ap (λ (l : List ℕ). l ++ relation_text r) was
    ∙ ap (λ (q : Relation). flat_map relation_text (take i items) ++ relation_text q) is
    ∙ flat_map_more relation_text [] (take i items) (get_or items i r)
    ∙ ap (flat_map relation_text) (sym (take_more items i r below))

pub told_more : (items : List Relation) (i : ℕ) (r : Relation) → i < length items → r ≡ get_or items i r
    → All (λ (q : Relation). IsReadBack q.because) (take i items) → IsReadBack r.because
    → All (λ (q : Relation). IsReadBack q.because) (take (i + 1) items)
told_more items i r below is before back =
    let P : Relation → Type 0 = λ q. IsReadBack q.because in
    subst (All P) (sym (take_more items i r below))
    (All-append P (take i items) (get_or items i r ∷ []) before
    (All-cons P (get_or items i r) [] (subst P is back) (All-nil P)))

-- all are written
pub all_written : (lists : List PolicyList) (relations items : List Relation) (i : ℕ) (text : List ℕ) (built : Built)
    → items ≡ relations → IsOrder lists relations → length items ≤ i
    → text ≡ flat_map relation_text (take i items) → All (λ (q : Relation). IsReadBack q.because) (take i items)
    → built ≡ record { status = Clean; text = text } → IsOrdering lists built
all_written lists relations items i text built same order past written back is =
    let all : take i items ≡ relations = take_all i items past ∙ same in
    record {
      relations = relations;
      order = order;
      read_back = subst (All (λ (q : Relation). IsReadBack q.because)) all back;
      status = ap (λ (b : Built). b.status) is;
      text = ap (λ (b : Built). b.text) is ∙ written ∙ ap (flat_map relation_text) all;
    }
