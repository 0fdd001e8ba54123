-- A proof for two lists is one for two others, where the first of these is within the first and the second within
-- the second of these.
use Rattle.std.proofs.Common.{◌≡◌, ◌∙◌, sym, ap, subst, refl, ℕ, ◌+◌, zero, suc, Bool, true, false, List, [], ◌∷◌, ◌++◌, length, map, All}
use Rattle.std.specs.Prelude.{Option, Some, None, slice_get, IsTrue, if◌then◌else◌}
use Rattle.std.specs.List.{flat_map}
use Rattle.std.proofs.lemmas.Bool.{and_parts, and_from}
use Rattle.std.proofs.lemmas.List.Elements.{All-head, All-tail, All-map, All-weaker}
use Rattle.std.proofs.lemmas.List.Sums.{AllPass-from_list_all}
use Rattle.csp_model.specs.Verdict.{is_enforce}
use Rattle.csp_model.specs.declared.policy.Disposition.{Disposition}
use Rattle.csp_model.specs.declared.policy.Policy.{Policy}
use Rattle.csp_model.specs.declared.policy.PolicyList.{PolicyList}
use Rattle.csp_model.specs.declared.source.Hash.{Hash}
use Rattle.csp_facts.specs.Vocabulary.{vocabulary_hashes}
use Rattle.csp_facts.specs.declared.atom.Literal.{Literal}
use Rattle.csp_facts.specs.Shapes.{is_shape}
use Rattle.csp_facts.specs.declared.shape.Shape.{Shape}
use Rattle.csp_formula.specs.Compiled.{policy_sentence}
use Rattle.csp_formula.specs.Surely.{surely}
use Rattle.csp_proof.specs.Accepts.{cases_in, is_surely, policy_is, Lists, hashes_in, blocks, is_met, unless, first_of, literal, bad_case, bad_tree, at_line, bad_shared, bad_body, is_for, for_pair, bad_from, IsAccepted}
use Rattle.csp_proof.specs.Pairs.{Pair, shapes, enforced_from, enforced, pairs}
use Rattle.csp_proof.specs.WellFormed.{Cases, Splits, IsBlocked, IsMet, preorder, body_at}
use Rattle.csp_proof.specs.declared.proof.Body.{Body}
use Rattle.csp_proof.specs.declared.proof.Body.TheVariants as body
use Rattle.csp_proof.specs.declared.proof.Proof.{Proof}
use Rattle.csp_proof.specs.declared.proof.Tree.{Tree}
use Rattle.csp_compare.specs.Answers.{IsPrinted}
use Rattle.csp_order.specs.Within.{IsPolicyWithin, AreBoth, IsWithin}
use Rattle.csp_order.proofs.PairsApart.{each_flat}

-- Failures

passed : (b : Bool) (line : ℕ) → unless b line ≡ None → b ≡ true
passed true line none = refl
passed false line none = cc none

neither : (x y : Option ℕ) → first_of x y ≡ None → (x ≡ None) × (y ≡ None)
neither None y none = (refl, none)
neither (Some line) y none = cc none

none_of : (x y : Option ℕ) → x ≡ None → y ≡ None → first_of x y ≡ None
none_of None y h k = k
none_of (Some line) y h k = cc h

moved : (line : ℕ) (o : Option ℕ) → at_line line o ≡ None → o ≡ None
moved line None none = refl
moved line (Some other) none = cc none

for_same : (b : Bool) (tree : Tree) (x y : Option ℕ) → (x ≡ None → y ≡ None) → for_pair b tree x ≡ None → for_pair b tree y ≡ None
for_same true tree x y carries none = carries none
for_same false tree x y carries none = cc none

-- Policies

surely_false : (o : Option Bool) → is_surely false o ≡ true → o ≡ Some false
surely_false (Some true) is = cc is
surely_false (Some false) is = refl
surely_false None is = cc is

surely_true : (o : Option Bool) → is_surely true o ≡ true → o ≡ Some true
surely_true (Some true) is = refl
surely_true (Some false) is = cc is
surely_true None is = cc is

refuses_too : (hashes : List Hash) (kind : Shape) (literals : List Literal) (x y : Option Policy) → IsTrue (is_shape kind) → AreBoth IsPolicyWithin x y
    → policy_is false hashes kind literals y ≡ true → policy_is false hashes kind literals x ≡ true
refuses_too hashes kind literals None None listed both is = is
refuses_too hashes kind literals None (Some q) listed both is = absurd both
refuses_too hashes kind literals (Some p) None listed both is = absurd both
refuses_too hashes kind literals (Some p) (Some q) listed both is =
    let parts = and_parts (is_enforce q.disposition) (is_surely false (surely literals (policy_sentence q kind hashes))) is in
    let n = both.narrows kind listed hashes in
    and_from (is_enforce p.disposition) (is_surely false (surely literals (policy_sentence p kind hashes)))
    (ap is_enforce both.disposition ∙ parts.0)
    (ap (is_surely false) (n.refuses literals (surely_false (surely literals (policy_sentence q kind hashes)) parts.1)))

allows_too : (hashes : List Hash) (kind : Shape) (literals : List Literal) (x y : Option Policy) → IsTrue (is_shape kind) → AreBoth IsPolicyWithin x y
    → policy_is true hashes kind literals x ≡ true → policy_is true hashes kind literals y ≡ true
allows_too hashes kind literals None None listed both is = is
allows_too hashes kind literals None (Some q) listed both is = absurd both
allows_too hashes kind literals (Some p) None listed both is = absurd both
allows_too hashes kind literals (Some p) (Some q) listed both is =
    let parts = and_parts (is_enforce p.disposition) (is_surely true (surely literals (policy_sentence p kind hashes))) is in
    let n = both.narrows kind listed hashes in
    and_from (is_enforce q.disposition) (is_surely true (surely literals (policy_sentence q kind hashes)))
    (ap is_enforce (sym both.disposition) ∙ parts.0)
    (ap (is_surely true) (n.allows literals (surely_true (surely literals (policy_sentence p kind hashes)) parts.1)))

-- Proofs

abbrev IsListed : Pair → Type 0
IsListed pair = IsTrue (is_shape pair.shape)

module _ (old new : Lists) (same : hashes_in old ≡ hashes_in new) (first : IsWithin new.first old.first) (second : IsWithin old.second new.second) where
  case_carried : (cases : Cases) (pair : Pair) (literals : List Literal) (line : ℕ) → IsTrue (is_shape pair.shape)
      → bad_case old pair literals line cases ≡ None → bad_case new pair literals line cases ≡ None
  case_carried (IsBlocked policy) pair literals line listed none =
      let here = subst (λ (hs : List Hash). policy_is false hs pair.shape literals (slice_get old.first.policies policy) ≡ true) same (passed (blocks old pair literals policy) line none) in
      ap (λ (b : Bool). unless b line) (refuses_too (hashes_in new) pair.shape literals (slice_get new.first.policies policy) (slice_get old.first.policies policy) listed (first policy) here)
  case_carried IsMet pair literals line listed none =
      let here = subst (λ (hs : List Hash). policy_is true hs pair.shape literals (slice_get old.second.policies pair.policy) ≡ true) same (passed (is_met old pair literals) line none) in
      ap (λ (b : Bool). unless b line) (allows_too (hashes_in new) pair.shape literals (slice_get old.second.policies pair.policy) (slice_get new.second.policies pair.policy) listed (second pair.policy) here)
  case_carried (Splits atom holds_case fails_case) pair literals line listed none =
      let both = neither _ _ none in
      none_of _ _ (case_carried holds_case pair (literals ++ literal atom true ∷ []) (line + 1) listed both.0)
      (case_carried fails_case pair (literals ++ literal atom false ∷ []) (line + 1 + length (preorder holds_case)) listed both.1)

  tree_carried : (pair : Pair) (line : ℕ) (trees : List Cases) → IsTrue (is_shape pair.shape) → bad_tree old pair line trees ≡ None → bad_tree new pair line trees ≡ None
  tree_carried pair line [] listed none = none
  tree_carried pair line (cases ∷ others) listed none = case_carried cases pair [] line listed none

  shared_carried : (pair : Pair) (line : ℕ) (b : Option Body) → IsTrue (is_shape pair.shape) → bad_shared old pair line b ≡ None → bad_shared new pair line b ≡ None
  shared_carried pair line None listed none = none
  shared_carried pair line (Some (body.Same tree)) listed none = none
  shared_carried pair line (Some (body.Nodes nodes)) listed none =
      ap (at_line line) (tree_carried pair line (cases_in nodes) listed (moved line (bad_tree old pair line (cases_in nodes)) none))

  body_carried : (all : List Tree) (pair : Pair) (line : ℕ) (b : Body) → IsTrue (is_shape pair.shape) → bad_body old all pair line b ≡ None → bad_body new all pair line b ≡ None
  body_carried all pair line (body.Nodes nodes) listed none = tree_carried pair line (cases_in nodes) listed none
  body_carried all pair line (body.Same tree) listed none = shared_carried pair line (body_at all tree) listed none

  from_carried : (all : List Tree) (last : ℕ) (ps : List Pair) (trees : List Tree) → All IsListed ps → bad_from old all last ps trees ≡ None → bad_from new all last ps trees ≡ None
  from_carried all last [] [] listed none = none
  from_carried all last [] (tree ∷ trees) listed none = none
  from_carried all last (pair ∷ ps) [] listed none = none
  from_carried all last (pair ∷ ps) (tree ∷ trees) listed none =
      let both = neither _ _ none in
      none_of _ _ (for_same (is_for pair tree) tree (bad_body old all pair (tree.line + 1) tree.body) (bad_body new all pair (tree.line + 1) tree.body)
      (body_carried all pair (tree.line + 1) tree.body (All-head IsListed pair ps listed)) both.0)
      (from_carried all last ps trees (All-tail IsListed pair ps listed) both.1)

-- Pairs

abbrev at_shape : Shape → ℕ → Pair
at_shape s n = record { shape = s; policy = n }

pairs_listed : (list : PolicyList) → All IsListed (pairs list)
pairs_listed list =
    each_flat IsListed (λ (s : Shape). map (at_shape s) (enforced list)) shapes
    (All-weaker (λ (s : Shape). is_shape s ≡ true) (λ (s : Shape). All IsListed (map (at_shape s) (enforced list)))
    (λ s is. All-map IsListed (at_shape s) (enforced list) (λ k d within. is)) shapes
    (AllPass-from_list_all is_shape shapes refl))

abbrev with_number : ℕ → Bool → List ℕ → List ℕ
with_number n enforces ns = if enforces then n ∷ ns else ns

enforced_same : (n : ℕ) (ps qs : List Policy) → ((place : ℕ) → AreBoth IsPolicyWithin (slice_get ps place) (slice_get qs place)) → enforced_from n ps ≡ enforced_from n qs
enforced_same n [] [] both = refl
enforced_same n [] (q ∷ qs) both = absurd (both zero)
enforced_same n (p ∷ ps) [] both = absurd (both zero)
enforced_same n (p ∷ ps) (q ∷ qs) both =
    ap (λ (d : Disposition). with_number n (is_enforce d) (enforced_from (n + 1) ps)) (both zero).disposition
    ∙ ap (with_number n (is_enforce q.disposition)) (enforced_same (n + 1) ps qs (λ place. both (suc place)))

pairs_same : (one other : PolicyList) → IsWithin one other → pairs one ≡ pairs other
pairs_same one other within =
    ap (λ (ns : List ℕ). flat_map (λ (s : Shape). map (at_shape s) ns) shapes) (enforced_same 0 one.policies other.policies within)

pub accepted_too : (first second to_first to_second : PolicyList) (proof : Proof) → vocabulary_hashes first second ≡ vocabulary_hashes to_first to_second
    → IsWithin to_first first → IsWithin second to_second → IsAccepted first second proof → IsAccepted to_first to_second proof
accepted_too first second to_first to_second proof same narrower wider accepted =
    let old : Lists = record { first = first; second = second } in
    let new : Lists = record { first = to_first; second = to_second } in
    let carried : bad_from new proof.trees proof.last_line (pairs second) proof.trees ≡ None =
    from_carried old new same narrower wider proof.trees proof.last_line (pairs second) proof.trees (pairs_listed second) accepted in
    subst (λ (ps : List Pair). bad_from new proof.trees proof.last_line ps proof.trees ≡ None) (pairs_same second to_second wider) carried

pub printed_too : (first second to_first to_second : PolicyList) (proof : Proof) → vocabulary_hashes first second ≡ vocabulary_hashes to_first to_second
    → IsWithin to_first first → IsWithin second to_second → IsPrinted first second proof → IsPrinted to_first to_second proof
printed_too first second to_first to_second proof same narrower wider printed = record {
  formed = printed.formed;
  format = printed.format;
  shares = printed.shares;
  accepted = accepted_too first second to_first to_second proof same narrower wider printed.accepted;
}
