-- What is found by looks at some of the conjunctions of a disjunction, one look after another.
use denote.Param.Members.{Mut}
use Rattle.std.proofs.Common.{◌≡◌, ◌∙◌, refl, sym, ap, subst, Bor, ℕ, ◌≤◌, ◌<◌, ◌+◌, ◌-◌, ◌⊎◌, inl, inr, Bool, true, false, nat_le, nat_lt, leb-true, leb-false, List, length, get_or, drop, take, Option, Some, All, Contains, arith}
use Rattle.std.proofs.lemmas.Bool.Decides.{nat_tests}
use Rattle.std.proofs.lemmas.List.{get_or-drop, get_or-take, length-drop, length-take-le, take_all}
use Rattle.std.proofs.lemmas.List.Elements.{All-contains, All-contains_itself, All-drop, All-take}
use Rattle.std.proofs.lemmas.List.Sorted.{IsPartitionedBy-leb, IsPartitionPoint-from_clause}
use Rattle.std.specs.Fn.{Called, ComputesKey}
use Rattle.std.specs.List.Sorted.{IsNonDecreasingBy, IsPartitionedBy, IsPartitionPoint}
use Rattle.csp_facts.specs.Follows.{decided}
use Rattle.csp_branch.specs.Groups.{atom_in}
use Rattle.csp_branch.specs.Paths.{Path}
use Rattle.csp_formula.specs.Surely.{maybe_and, maybe_or, surely}
use Rattle.csp_answer.specs.Answers.{AreThere, Rise, fact_in, key_of, lead_key}
use Rattle.csp_answer.specs.Deciding.{AddsNothing, Finds, said_of, said_of_some}
use Rattle.csp_answer.specs.declared.conjunction.Conjunction.{Conjunction}
use Rattle.csp_answer.proofs.Adding.{adds_both, adds_first, adds_last, adds_to_true}
use Rattle.csp_answer.proofs.Members.{member_adds, some_add}

module _ (path : Path) (cs : List Conjunction) where
  -- nothing is found where nothing is looked at
  pub finds_none : (looked : ℕ → Type 0) → ((name : ℕ) → looked name → ⊥) → Finds path cs looked (Some false)
  finds_none looked none = record { sound = refl; each = λ c name has at is. absurd (none name is) }

  -- what is true needs no other look
  pub finds_true : (looked others : ℕ → Type 0) (found : Option Bool) → found ≡ Some true → Finds path cs looked found → Finds path cs others found
  finds_true looked others found is finds = record {
    sound = finds.sound;
    each = λ c name has at on. subst (AddsNothing (said_of path c)) (sym is) (adds_to_true (said_of path c));
  }

  -- two looks
  pub finds_both : (first last looked : ℕ → Type 0) (one other : Option Bool) → Finds path cs first one → Finds path cs last other
      → ((name : ℕ) → looked name → first name ⊎ last name) → Finds path cs looked (maybe_or one other)
  finds_both first last looked one other was now covers = record {
    sound = adds_both one other (said_of_some path cs) was.sound now.sound;
    each = λ c name has at on. elim (covers name on) [
      | inl before ↦ adds_first (said_of path c) one other (was.each c name has at before)
      | inr behind ↦ adds_last (said_of path c) one other (now.each c name has at behind)
    ];
  }

  -- a conjunction is false where what it is led by is
  led_false : (lead : Option ℕ) (name : ℕ) (rest : Option Bool) → lead ≡ Some name → decided path.literals (atom_in path.atoms name) ≡ Some false
      → maybe_and (surely path.literals (fact_in path.atoms lead)) rest ≡ Some false
  led_false lead name rest at off =
      ap (λ (l : Option ℕ). maybe_and (surely path.literals (fact_in path.atoms l)) rest) at ∙ ap (λ (o : Option Bool). maybe_and o rest) off

  -- names that are false need no look
  pub finds_more : (looked more : ℕ → Type 0) (found : Option Bool) → All (AreThere (length path.atoms)) cs → Finds path cs looked found
      → ((name : ℕ) → name < length path.atoms → more name → looked name ⊎ (decided path.literals (atom_in path.atoms name) ≡ Some false))
      → Finds path cs more found
  finds_more looked more found there finds covers = record {
    sound = finds.sound;
    each = λ c name has at on. elim (covers name (here c name has at) on) [
      | inl looked_at ↦ finds.each c name has at looked_at
      | inr off ↦ subst (λ (o : Option Bool). AddsNothing o found) (sym (led_false c.lead name _ at off)) refl
    ];
  }
    where
      here : (c : Conjunction) (name : ℕ) → Contains cs c → c.lead ≡ Some name → name < length path.atoms
      here c name has at = rw at at (All-contains (AreThere (length path.atoms)) cs c there has).lead

  -- what stands from here on, so many
  pub finds_part : (from to start end : ℕ) → ((k : ℕ) (d : Conjunction) → k < start → lead_key (get_or cs k d) ≤ from)
      → ((k : ℕ) (d : Conjunction) → end ≤ k → k < length (drop start cs) → to < lead_key (get_or (drop start cs) k d)) → end ≤ length (drop start cs)
      → Finds path cs (λ name. (from ≤ name) × (name < to)) (said_of_some path (take end (drop start cs)))
  finds_part from to start end before behind inside = record {
    sound = some_add path (take end (drop start cs)) cs (All-take (Contains cs) end (drop start cs) (All-drop (Contains cs) start cs (All-contains_itself cs)));
    each = λ c name has at on. member_adds path (take end (drop start cs)) c (there c name has at on);
  }
    where
      there : (c : Conjunction) (name : ℕ) → Contains cs c → c.lead ≡ Some name → (from ≤ name) × (name < to) → Contains (take end (drop start cs)) c
      there c name (k, h, same) at (low, high) = by (nat_lt k start) (nat_lt (k - start) end) refl refl
        where
          key_is : (e : Conjunction) → e ≡ c → lead_key e ≡ name + 1
          key_is e is = ap lead_key is ∙ ap key_of at

          key : lead_key (get_or cs k c) ≡ name + 1
          key = key_is (get_or cs k c) same

          long : length (drop start cs) ≡ length cs - start
          long = length-drop start cs

          by : (s t : Bool) → nat_lt k start ≡ s → nat_lt (k - start) end ≡ t → Contains (take end (drop start cs)) c
          by true t e f =
              let most = before k c (grind (arith, nat_tests)) in
              absurd (omega (arith, most, key, low))
          by false true e f =
              let behind_start : start ≤ k = grind (arith, nat_tests) in
              let below_end : k - start < end = grind (arith, nat_tests) in
              let there_is : start + (k - start) ≡ k = omega (arith, behind_start) in (
                k - start,
                omega (arith, below_end, inside, length-take-le end (drop start cs) inside),
                get_or-take end (drop start cs) (k - start) c below_end ∙ get_or-drop start cs (k - start) c ∙ ap (λ (n : ℕ). get_or cs n c) there_is ∙ same,
              )
          by false false e f =
              let behind_start : start ≤ k = grind (arith, nat_tests) in
              let from_end : end ≤ k - start = grind (arith, nat_tests) in
              let there_is : start + (k - start) ≡ k = omega (arith, behind_start) in
              let more = behind (k - start) c from_end (omega (arith, long, h, behind_start)) in
              let is : lead_key (get_or (drop start cs) (k - start) c) ≡ name + 1 =
              key_is (get_or (drop start cs) (k - start) c) (get_or-drop start cs (k - start) c ∙ ap (λ (n : ℕ). get_or cs n c) there_is ∙ same) in
              absurd (omega (arith, more, is, high))

  -- the same of a list that is what stands from there on
  pub finds_behind : (from to start end : ℕ) (rest : List Conjunction) → rest ≡ drop start cs → ((k : ℕ) (d : Conjunction) → k < start → lead_key (get_or cs k d) ≤ from)
      → ((k : ℕ) (d : Conjunction) → end ≤ k → k < length rest → to < lead_key (get_or rest k d)) → end ≤ length rest
      → Finds path cs (λ name. (from ≤ name) × (name < to)) (said_of_some path (take end rest))
  finds_behind from to start end rest is before =
      subst (λ (r : List Conjunction). ((k : ℕ) (d : Conjunction) → end ≤ k → k < length r → to < lead_key (get_or r k d)) → end ≤ length r
      → Finds path cs (λ name. (from ≤ name) × (name < to)) (said_of_some path (take end r))) (sym is) (finds_part from to start end before)

-- what stands from a place on, as a slice has it
pub all_behind : (n : ℕ) (cs : List Conjunction) → take (length cs - n) (drop n cs) ≡ drop n cs
all_behind n cs = take_all (length cs - n) (drop n cs) (omega (arith, length-drop n cs))

pub rise_behind : (n : ℕ) (cs : List Conjunction) → Rise cs → Rise (drop n cs)
rise_behind n cs rise i j d low h =
    let first : lead_key (get_or (drop n cs) i d) ≡ lead_key (get_or cs (n + i) d) = ap lead_key (get_or-drop n cs i d) in
    let last : lead_key (get_or (drop n cs) j d) ≡ lead_key (get_or cs (n + j) d) = ap lead_key (get_or-drop n cs j d) in
    let up = rise (n + i) (n + j) d (omega arith) (omega (arith, h, length-drop n cs)) in
    omega (arith, first, last, up)

-- How many are led below a name

ascend : (cs : List Conjunction) → Rise cs → IsNonDecreasingBy lead_key cs
ascend cs rise i j d low h = by (nat_lt i j) refl
  where
    by : (t : Bool) → nat_lt i j ≡ t → lead_key (get_or cs i d) ≤ lead_key (get_or cs j d)
    by true e = rise i j d (grind (arith, nat_tests)) h
    by false e =
        let same : i ≡ j = grind (arith, nat_tests) in
        let level : lead_key (get_or cs i d) ≡ lead_key (get_or cs j d) = ap (λ (n : ℕ). lead_key (get_or cs n d)) same in
        omega (arith, level)

-- what `partition_point` answers at the test of leads
pub leads_below : {F : Type 0} {g : Mut F (Bor Conjunction × Unit {0}) Bool} {f : F} (cs : List Conjunction) (name point : ℕ) → Rise cs
    → ((p : Conjunction → Bool) → ComputesKey g p f → IsPartitionedBy p cs → IsPartitionPoint (λ c. p c ≡ true) (λ c. p c ≡ false) cs point)
    → ((a : Bor Conjunction × Unit {0}) (r : Bool) (f' : F) → Called g f a r f' → (r ≡ nat_le (lead_key a.0.now) name) × (f' ≡ f))
    → ((k : ℕ) (d : Conjunction) → k < point → lead_key (get_or cs k d) ≤ name) × ((k : ℕ) (d : Conjunction) → point ≤ k → k < length cs → name < lead_key (get_or cs k d))
leads_below cs name point rise parted answers =
    let is = IsPartitionPoint-from_clause (λ c. nat_le (lead_key c) name) cs point parted (IsPartitionedBy-leb lead_key cs name (ascend cs rise)) answers in
    ((λ k d below. leb-true _ _ (is.0 k d (omega arith) below)), (λ k d from here. leb-false _ _ (is.1 k d from here)))
