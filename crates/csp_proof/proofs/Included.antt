-- Where a proof is accepted, the second list allows what the first allows.
use Rattle.std.proofs.Common.{arith, ◌≡◌, ◌∙◌, sym, ap, subst, refl, ℕ, ◌+◌, ◌<◌, zero, suc, Bool, true, false, not, ◌||◌, List, [], ◌∷◌, ◌++◌, length, map, get_or, append_assoc, All, inl, inr}
use Rattle.std.specs.Prelude.{Option, Some, None, IfSome, IsTrue, slice_get}
use Rattle.std.specs.List.{flat_map, list_all}
use Rattle.std.proofs.lemmas.Bool.{cases_Bool, and_parts, and_from, or_left, or_right, cond-true, cond-false, not_from_false}
use Rattle.std.proofs.lemmas.Option.{get_or_from_slice_get, slice_get_within}
use Rattle.std.proofs.lemmas.List.{length_push}
use Rattle.std.proofs.lemmas.List.Elements.{All-nil, All-push, All-get_or}
use Rattle.csp_model.specs.DecideVerdict.{allows}
use Rattle.csp_model.specs.Inclusion.{Subsumes}
use Rattle.csp_model.specs.Validity.{IsValidCheck}
use Rattle.csp_model.specs.Verdict.{is_enforce, list_allows}
use Rattle.csp_model.specs.declared.check.Check.{Check}
use Rattle.csp_model.specs.declared.policy.Policy.{Policy}
use Rattle.csp_model.specs.declared.policy.PolicyList.{PolicyList}
use Rattle.csp_facts.specs.Holding.{holds, is_true_of}
use Rattle.csp_facts.specs.declared.atom.Literal.{Literal}
use Rattle.csp_facts.specs.Numbers.{number}
use Rattle.csp_facts.specs.Shapes.{HasShape}
use Rattle.csp_facts.specs.declared.shape.Shape.{Shape}
use Rattle.csp_facts.proofs.Checks.{shape_of, shaped, is_listed}
use Rattle.csp_formula.specs.Compiled.{policy_sentence}
use Rattle.csp_formula.specs.Surely.{surely}
use Rattle.csp_formula.specs.Values.{AreTrueOf, is_true_for}
use Rattle.csp_formula.proofs.SurelySound.{surely_sound}
use Rattle.csp_proof.specs.Accepts.{cases_in, is_surely, policy_is, Lists, hashes_in, blocks, is_met, unless, first_of, literal, bad_case, bad_tree, at_line, bad_shared, bad_body, is_for, for_pair, bad_from, IsAccepted, IsSaid, AreSaid}
use Rattle.csp_proof.specs.Pairs.{Pair, shapes, enforced_from, enforced, pairs}
use Rattle.csp_proof.specs.WellFormed.{Cases, Splits, IsBlocked, IsMet, preorder, body_at}
use Rattle.csp_proof.specs.declared.proof.Body.{Body}
use Rattle.csp_proof.specs.declared.proof.Body.TheVariants as body
use Rattle.csp_proof.specs.declared.proof.Proof.{Proof}
use Rattle.csp_proof.specs.declared.proof.Tree.{Tree}
use Rattle.csp_facts.proofs.Listed.{at_number, within_count}

-- Lists

abbrev pub Each : {A : Type 0} → (A → Type 0) → List A → Type 0
Each P [] = Unit {0}
Each P (x ∷ xs) = P x × Each P xs

each_parts : {A : Type 0} (P : A → Type 0) (xs ys : List A) → Each P (xs ++ ys) → Each P xs × Each P ys
each_parts P [] ys each = (tt, each)
each_parts P (x ∷ xs) ys each = let parts = each_parts P xs ys each.1 in ((each.0, parts.0), parts.1)

each_flat : {A B : Type 0} (P : B → Type 0) (f : A → List B) (xs : List A) → Each P (flat_map f xs) → Each (λ x. Each P (f x)) xs
each_flat P f [] each = tt
each_flat P f (x ∷ xs) each = let parts = each_parts P (f x) (flat_map f xs) each in (parts.0, each_flat P f xs parts.1)

each_map : {A B : Type 0} (P : B → Type 0) (f : A → B) (xs : List A) → Each P (map f xs) → Each (λ x. P (f x)) xs
each_map P f [] each = tt
each_map P f (x ∷ xs) each = (each.0, each_map P f xs each.1)

each_at : {A : Type 0} (P : A → Type 0) (xs : List A) (i : ℕ) (d : A) → Each P xs → i < length xs → P (get_or xs i d)
each_at P [] i d each within = absurd (omega arith)
each_at P (x ∷ xs) zero d each within = each.0
each_at P (x ∷ xs) (suc i) d each within = each_at P xs i d each.1 (omega arith)

all_at : {A : Type 0} (P : A → Type 0) (xs : List A) (i : ℕ) (x : A) → All P xs → slice_get xs i ≡ Some x → P x
all_at P xs i x all is = subst P (get_or_from_slice_get xs i x x is) (All-get_or P xs i x (slice_get_within xs i x is) all)

pass_at : {A : Type 0} (p : A → Bool) (xs : List A) (i : ℕ) (x : A) → list_all p xs ≡ true → slice_get xs i ≡ Some x → p x ≡ true
pass_at p [] i x all is = cc is
pass_at p (y ∷ xs) zero x all is = let same : y ≡ x = cc is in ap p (sym same) ∙ (and_parts (p y) (list_all p xs) all).0
pass_at p (y ∷ xs) (suc i) x all is = pass_at p xs i x (and_parts (p y) (list_all p xs) all).1 is

get_at : {A : Type 0} (front : List A) (x : A) (back : List A) → slice_get (front ++ x ∷ back) (length front) ≡ Some x
get_at [] x back = refl
get_at (y ∷ front) x back = get_at front x back

-- Failures

passed : (b : Bool) (line : ℕ) → unless b line ≡ None → b ≡ true
passed true line none = refl
passed false line none = cc none

neither : (x y : Option ℕ) → first_of x y ≡ None → (x ≡ None) × (y ≡ None)
neither None y none = (refl, none)
neither (Some line) y none = cc none

known : (expected : Bool) (o : Option Bool) (value : Bool) → is_surely expected o ≡ true → IfSome o (λ k. value ≡ k) → value ≡ expected
known true (Some k) value sure is = is ∙ sure
known false (Some true) value sure is = cc sure
known false (Some false) value sure is = is
known true None value sure is = cc sure
known false None value sure is = cc sure

refused : (enforces allowed : Bool) → enforces ≡ true → allowed ≡ false → (not enforces || allowed) ≡ true → ⊥
refused true true is not_allowed passes = cc not_allowed
refused true false is not_allowed passes = cc passes
refused false allowed is not_allowed passes = cc is

-- One check

module _ (lists : Lists) (asked : Check) (valid : IsValidCheck asked) (by_first : All (IsSaid (hashes_in lists)) lists.first.policies)
    (by_second : All (IsSaid (hashes_in lists)) lists.second.policies) (allowed : list_allows lists.first asked ≡ true) where
  -- the policy of this number of the second list allows the check
  abbrev pub Allowed : ℕ → Type 0
  Allowed policy = (p : Policy) × (slice_get lists.second.policies policy ≡ Some p) × (allows p asked ≡ true)

  value_of : (expected : Bool) (kind : Shape) (literals : List Literal) (ps : List Policy) (i : ℕ) → All (IsSaid (hashes_in lists)) ps → HasShape asked kind → AreTrueOf (hashes_in lists) asked literals
      → policy_is expected (hashes_in lists) kind literals (slice_get ps i) ≡ true → (p : Policy) × (slice_get ps i ≡ Some p) × (is_enforce p.disposition ≡ true) × (allows p asked ≡ expected)
  value_of expected kind literals ps i said has are is = by (slice_get ps i) refl is where
    by : (o : Option Policy) → slice_get ps i ≡ o → policy_is expected (hashes_in lists) kind literals o ≡ true
        → (p : Policy) × (slice_get ps i ≡ Some p) × (is_enforce p.disposition ≡ true) × (allows p asked ≡ expected)
    by None at test = cc test
    by (Some p) at test =
        let s = policy_sentence p kind (hashes_in lists) in
        let parts = and_parts (is_enforce p.disposition) (is_surely expected (surely literals s)) test in
        let value = known expected (surely literals s) (is_true_for (hashes_in lists) asked s) parts.1 (surely_sound (hashes_in lists) asked literals s are) in
        (p, at, parts.0, sym (all_at (IsSaid (hashes_in lists)) ps i p said at kind asked has valid) ∙ value)

  case_sound : (cases : Cases) (pair : Pair) (literals : List Literal) (line : ℕ) → HasShape asked pair.shape → AreTrueOf (hashes_in lists) asked literals
      → bad_case lists pair literals line cases ≡ None → Allowed pair.policy
  case_sound (IsBlocked policy) pair literals line has are none =
      let found = value_of false pair.shape literals lists.first.policies policy by_first has are (passed (blocks lists pair literals policy) line none) in
      let passes = pass_at (λ (p : Policy). not (is_enforce p.disposition) || allows p asked) lists.first.policies policy found.0 allowed found.1 in
      absurd (refused (is_enforce found.0.disposition) (allows found.0 asked) found.2 found.3 passes)
  case_sound IsMet pair literals line has are none =
      let found = value_of true pair.shape literals lists.second.policies pair.policy by_second has are (passed (is_met lists pair literals) line none) in
      (found.0, found.1, found.3)
  case_sound (Splits atom yes_case other_case) pair literals line has are none =
      let both = neither _ _ none in
      elim (cases_Bool (holds (hashes_in lists) asked atom)) [
        | inl is ↦ case_sound yes_case pair (literals ++ literal atom true ∷ []) (line + 1) has (All-push (λ l. IsTrue (is_true_of (hashes_in lists) asked l)) literals (literal atom true) are is) both.0
        | inr is ↦ case_sound other_case pair (literals ++ literal atom false ∷ []) (line + 1 + length (preorder yes_case)) has
            (All-push (λ l. IsTrue (is_true_of (hashes_in lists) asked l)) literals (literal atom false) are (not_from_false (holds (hashes_in lists) asked atom) is)) both.1
      ]

  tree_sound : (pair : Pair) (line : ℕ) (trees : List Cases) → HasShape asked pair.shape → bad_tree lists pair line trees ≡ None → Allowed pair.policy
  tree_sound pair line [] has none = cc none
  tree_sound pair line (cases ∷ others) has none = case_sound cases pair [] line has (All-nil (λ l. IsTrue (is_true_of (hashes_in lists) asked l))) none

  moved : (line : ℕ) (o : Option ℕ) → at_line line o ≡ None → o ≡ None
  moved line None none = refl
  moved line (Some other) none = cc none

  pub shared_sound : (pair : Pair) (line : ℕ) (b : Option Body) → HasShape asked pair.shape → bad_shared lists pair line b ≡ None → Allowed pair.policy
  shared_sound pair line None has none = cc none
  shared_sound pair line (Some (body.Same tree)) has none = cc none
  shared_sound pair line (Some (body.Nodes nodes)) has none = tree_sound pair line (cases_in nodes) has (moved line (bad_tree lists pair line (cases_in nodes)) none)

  body_sound : (all : List Tree) (pair : Pair) (line : ℕ) (b : Body) → HasShape asked pair.shape → bad_body lists all pair line b ≡ None → Allowed pair.policy
  body_sound all pair line (body.Nodes nodes) has none = tree_sound pair line (cases_in nodes) has none
  body_sound all pair line (body.Same tree) has none = shared_sound pair line (body_at all tree) has none

  below : (b : Bool) (tree : Tree) (o : Option ℕ) → for_pair b tree o ≡ None → o ≡ None
  below true tree o none = none
  below false tree o none = cc none

  from_sound : (all : List Tree) (last : ℕ) (ps : List Pair) (trees : List Tree) → bad_from lists all last ps trees ≡ None → Each (λ (pair : Pair). HasShape asked pair.shape → Allowed pair.policy) ps
  from_sound all last [] [] none = tt
  from_sound all last [] (tree ∷ trees) none = tt
  from_sound all last (pair ∷ ps) [] none = cc none
  from_sound all last (pair ∷ ps) (tree ∷ trees) none =
      let both = neither _ _ none in
      (λ has. body_sound all pair (tree.line + 1) tree.body has (below (is_for pair tree) tree _ both.0), from_sound all last ps trees both.1)

  pub enforced_allow : (front ps : List Policy) → lists.second.policies ≡ front ++ ps → Each Allowed (enforced_from (length front) ps)
      → list_all (λ (p : Policy). not (is_enforce p.disposition) || allows p asked) ps ≡ true
  enforced_allow front [] is each = refl
  enforced_allow front (p ∷ ps) is each = elim (cases_Bool (is_enforce p.disposition)) [
    | inl enforces ↦
        let own = subst (Each Allowed) (cond-true _ _ _ enforces) each in
        let same : p ≡ own.0.0 = cc (sym (get_at front p ps) ∙ ap (λ (qs : List Policy). slice_get qs (length front)) (sym is) ∙ own.0.1) in
        and_from (not (is_enforce p.disposition) || allows p asked) _ (or_right (not (is_enforce p.disposition)) (allows p asked) (ap (λ (q : Policy). allows q asked) same ∙ own.0.2))
        (enforced_allow (front ++ p ∷ []) ps (is ∙ sym (append_assoc front (p ∷ []) ps)) (subst (λ (n : ℕ). Each Allowed (enforced_from n ps)) (sym (length_push front p)) own.1))
    | inr reports ↦
        and_from (not (is_enforce p.disposition) || allows p asked) _ (or_left (not (is_enforce p.disposition)) (allows p asked) (not_from_false (is_enforce p.disposition) reports))
        (enforced_allow (front ++ p ∷ []) ps (is ∙ sym (append_assoc front (p ∷ []) ps)) (subst (λ (n : ℕ). Each Allowed (enforced_from n ps)) (sym (length_push front p)) (subst (Each Allowed) (cond-false _ _ _ reports) each)))
  ]

  each_given : (ns : List ℕ) → Each (λ (n : ℕ). HasShape asked (shape_of asked) → Allowed n) ns → Each Allowed ns
  each_given [] each = tt
  each_given (n ∷ ns) each = (each.0 (shaped asked), each_given ns each.1)

  all_sound : (all : List Tree) (last : ℕ) (trees : List Tree) → bad_from lists all last (pairs lists.second) trees ≡ None → list_allows lists.second asked ≡ true
  all_sound all last trees none =
      let kind = shape_of asked in
      let P = λ (pair : Pair). HasShape asked pair.shape → Allowed pair.policy in
      let of_shape = λ (s : Shape). map (λ (n : ℕ). record { shape = s; policy = n }) (enforced lists.second) in
      let each = each_flat P of_shape shapes (from_sound all last (pairs lists.second) trees none) in
      let here = subst (λ (s : Shape). Each P (of_shape s)) (at_number kind (is_listed asked) (within_count kind)) (each_at (λ (s : Shape). Each P (of_shape s)) shapes (number kind) kind each (within_count kind)) in
      let mine = each_map P (λ (n : ℕ). record { shape = kind; policy = n }) (enforced lists.second) here in
      enforced_allow [] lists.second.policies refl (each_given (enforced lists.second) mine)

pub included : (first second : PolicyList) (proof : Proof) → AreSaid first second → IsAccepted first second proof → Subsumes first second
included first second proof said accepted asked valid allowed =
    all_sound (record { first = first; second = second }) asked valid said.by_first said.by_second allowed proof.trees proof.last_line proof.trees accepted
