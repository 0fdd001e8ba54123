-- What is found of the conjunctions led by names from one on, part by part, and at last of all.
use Rattle.std.proofs.Common.{◌≡◌, ◌∙◌, refl, sym, ap, subst, ℕ, ◌≤◌, ◌<◌, ◌+◌, ◌⊎◌, inl, inr, Bool, true, false, ◌&&◌, nat_eq, nat_le, nat_lt, List, length, get_or, take, Option, Some, None, All, Contains, arith}
use Rattle.std.proofs.lemmas.Bool.Decides.{nat_tests}
use Rattle.std.proofs.lemmas.List.{get_or-take, get_or_default, length-take-le}
use Rattle.std.proofs.lemmas.List.Elements.{All-contains_itself, All-take}
use Rattle.csp_model.specs.declared.check.CheckPart.{CheckPart}
use Rattle.csp_facts.specs.Atoms.{part_of}
use Rattle.csp_facts.specs.Follows.{decided}
use Rattle.csp_facts.specs.declared.atom.Atom.{Atom}
use Rattle.csp_facts.specs.declared.atom.Atom.TheVariants.{HostDomain}
use Rattle.csp_branch.specs.Groups.{atom_in}
use Rattle.csp_branch.specs.Paths.{Path}
use Rattle.csp_branch.specs.Places.{IsPlace}
use Rattle.csp_formula.specs.Surely.{maybe_or}
use Rattle.csp_branch.specs.Numbers.{AreInOrder, around_in}
use Rattle.csp_branch.specs.Order.{number_of}
use Rattle.csp_branch.proofs.Finding.{parts_ascend}
use Rattle.csp_branch.proofs.PartOrder.{same_part}
use Rattle.csp_answer.specs.Answers.{AreThere, Rise, key_of, lead_key}
use Rattle.csp_answer.specs.Deciding.{AddsNothing, Finds, said_of, said_of_some}
use Rattle.csp_answer.specs.declared.conjunction.Conjunction.{Conjunction}
use Rattle.csp_answer.proofs.Adding.{adds_both, adds_first, adds_last, adds_neither}
use Rattle.csp_answer.proofs.Finding.{finds_both, finds_more}
use Rattle.csp_answer.proofs.Members.{all_add, member_adds, some_add}

abbrev pub IsFrom : ℕ → ℕ → Type 0
IsFrom from name = from ≤ name

abbrev pub IsWithin : ℕ → ℕ → ℕ → Type 0
IsWithin lead end name = (lead ≤ name) × (name < end)

abbrev pub IsAbout : Path → ℕ → ℕ → Type 0
IsAbout path place name = (around_in path.atoms name place ≡ true) ⊎ (around_in path.atoms place name ≡ true)

turned : {X Y : Type 0} → X ⊎ Y → Y ⊎ X
turned (inl x) = inr x
turned (inr y) = inl y

both_true : (s t : Bool) → (s && t) ≡ true → (s ≡ true) × (t ≡ true)
both_true true true e = (refl, refl)
both_true true false e = cc
both_true false t e = cc

-- what lies about a place is around it, or stands behind it in its range
pub around_or_behind : (path : Path) (place end name : ℕ) → around_in path.atoms place name ≡ (nat_le place name && nat_lt name end) → IsAbout path place name
    → (around_in path.atoms name place ≡ true) ⊎ ((place + 1 ≤ name) × (name < end))
around_or_behind path place end name range (inl around) = inl around
around_or_behind path place end name range (inr under) = by (nat_eq name place) refl
  where
    both : (nat_le place name ≡ true) × (nat_lt name end ≡ true)
    both = both_true (nat_le place name) (nat_lt name end) (sym range ∙ under)

    by : (t : Bool) → nat_eq name place ≡ t → (around_in path.atoms name place ≡ true) ⊎ ((place + 1 ≤ name) × (name < end))
    by true e =
        let same : name ≡ place = grind (arith, nat_tests) in
        inl (ap (around_in path.atoms name) (sym same) ∙ ap (λ (n : ℕ). around_in path.atoms n name) same ∙ under)
    by false e = inr ((grind (arith, nat_tests, both.0)), (grind (arith, nat_tests, both.1)))

-- from a name on, up to where the names of the next part begin, all are on its part
pub on_its_part : (atoms : List Atom) (lead end name : ℕ) → AreInOrder atoms
    → ((k : ℕ) (d : Atom) → k < end → number_of (get_or atoms k d) < number_of (atom_in atoms lead) + 1)
    → name < length atoms → IsWithin lead end name → part_of (atom_in atoms name) ≡ part_of (atom_in atoms lead)
on_its_part atoms lead end name order before here (low, high) =
    let most = before name HostDomain high in
    let least = parts_ascend atoms order.rise lead name HostDomain low here in
    same_part (part_of (atom_in atoms name)) (part_of (atom_in atoms lead)) (omega (arith, most, least))

module _ (path : Path) (cs : List Conjunction) where
  -- a look about the place of a part serves for names on it: what is apart from the place is false
  pub finds_placed : (p : CheckPart) (place lead end : ℕ) (found : Option Bool) → All (AreThere (length path.atoms)) cs → IsPlace path p place
      → ((name : ℕ) → name < length path.atoms → IsWithin lead end name → part_of (atom_in path.atoms name) ≡ p)
      → Finds path cs (IsAbout path place) found → Finds path cs (IsWithin lead end) found
  finds_placed p place lead end found there is on_part finds = finds_more path cs (IsAbout path place) (IsWithin lead end) found there finds about_or_false
    where
      about_or_false : (name : ℕ) → name < length path.atoms → IsWithin lead end name → IsAbout path place name ⊎ (decided path.literals (atom_in path.atoms name) ≡ Some false)
      about_or_false name here within = by (around_in path.atoms name place) (around_in path.atoms place name) refl refl
        where
          by : (s t : Bool) → around_in path.atoms name place ≡ s → around_in path.atoms place name ≡ t → IsAbout path place name ⊎ (decided path.literals (atom_in path.atoms name) ≡ Some false)
          by true t e f = inl (inl e)
          by false true e f = inl (inr f)
          by false false e f = inr (is.apart name here (on_part name here within) e f)

  module _ (from start : ℕ) (before : (k : ℕ) (d : Conjunction) → k < start → lead_key (get_or cs k d) ≤ from) where
    -- what is led by a name from there on stands from the start on
    stands : (c : Conjunction) (name : ℕ) (k : ℕ) → get_or cs k c ≡ c → c.lead ≡ Some name → from ≤ name → start ≤ k
    stands c name k same at on = by (nat_lt k start) refl
      where
        key : lead_key (get_or cs k c) ≡ name + 1
        key = ap lead_key same ∙ ap key_of at

        by : (t : Bool) → nat_lt k start ≡ t → start ≤ k
        by true e = let most = before k c (grind (arith, nat_tests)) in absurd (omega (arith, most, key, on))
        by false e = grind (arith, nat_tests)

    pub none_from : length cs ≤ start → Finds path cs (IsFrom from) (Some false)
    none_from past = record {
      sound = refl;
      each = λ c name (k, h, same) at on. let behind = stands c name k same at on in absurd (omega (arith, behind, h, past));
    }

    module _ (rise : Rise cs) (first : Conjunction) (lead : ℕ) (here : start < length cs) (at_start : get_or cs start first ≡ first) (leads : first.lead ≡ Some lead) where
      -- the first of them is led by the least name
      least : (c : Conjunction) (name : ℕ) → Contains cs c → c.lead ≡ Some name → from ≤ name → lead ≤ name
      least c name (k, h, same) at on = by (nat_lt start k) refl
        where
          behind : start ≤ k
          behind = stands c name k same at on

          last : lead_key (get_or cs k first) ≡ name + 1
          last = ap lead_key (get_or_default cs k first c h ∙ same) ∙ ap key_of at

          low : lead_key (get_or cs start first) ≡ lead + 1
          low = ap lead_key at_start ∙ ap key_of leads

          by : (t : Bool) → nat_lt start k ≡ t → lead ≤ name
          by true e =
              let up = rise start k first (grind (arith, nat_tests)) h in
              omega (arith, up, last, low)
          by false e =
              let is : start ≡ k = grind (arith, nat_tests) in
              let level : lead_key (get_or cs start first) ≡ lead_key (get_or cs k first) = ap (λ (n : ℕ). lead_key (get_or cs n first)) is in
              omega (arith, level, last, low)

      all_from : (found : Option Bool) → Finds path cs (IsFrom lead) found → Finds path cs (IsFrom from) found
      all_from found finds = record {
        sound = finds.sound;
        each = λ c name has at on. finds.each c name has at (least c name has at on);
      }

      within_or_from : (end name : ℕ) → lead ≤ name → IsWithin lead end name ⊎ IsFrom end name
      within_or_from end name low = by (nat_lt name end) refl
        where
          by : (t : Bool) → nat_lt name end ≡ t → IsWithin lead end name ⊎ IsFrom end name
          by true e = inl (low, (grind (arith, nat_tests)))
          by false e = inr (grind (arith, nat_tests))

      -- a look at the names of a part, before one at those behind
      pub part_first : (end : ℕ) (one other : Option Bool) → Finds path cs (IsWithin lead end) one → Finds path cs (IsFrom end) other → Finds path cs (IsFrom from) (maybe_or one other)
      part_first end one other was now =
          all_from (maybe_or one other) (finds_both path cs (IsWithin lead end) (IsFrom end) (IsFrom lead) one other was now (within_or_from end))

      -- and after it
      pub part_last : (end : ℕ) (one other : Option Bool) → Finds path cs (IsFrom end) one → Finds path cs (IsWithin lead end) other → Finds path cs (IsFrom from) (maybe_or one other)
      part_last end one other was now =
          all_from (maybe_or one other) (finds_both path cs (IsFrom end) (IsWithin lead end) (IsFrom lead) one other was now (λ name low. turned (within_or_from end name low)))

-- those that no name leads, and those led by a name on some part, are all
module _ (path : Path) (cs : List Conjunction) (start : ℕ) (inside : start ≤ length cs)
    (behind : (k : ℕ) (d : Conjunction) → start ≤ k → k < length cs → 0 < lead_key (get_or cs k d)) (found : Option Bool) where
  unled : (c : Conjunction) → Contains cs c → c.lead ≡ None → Contains (take start cs) c
  unled c (k, h, same) at = by (nat_lt k start) refl
    where
      key : lead_key (get_or cs k c) ≡ 0
      key = ap lead_key same ∙ ap key_of at

      by : (t : Bool) → nat_lt k start ≡ t → Contains (take start cs) c
      by true e =
          let low : k < start = grind (arith, nat_tests) in
          (k, omega (arith, low, length-take-le start cs inside), get_or-take start cs k c low ∙ same)
      by false e = let led = behind k c (grind (arith, nat_tests)) h in absurd (omega (arith, led, key))

  pub finds_all : Finds path cs (IsFrom 0) found → maybe_or (said_of_some path (take start cs)) found ≡ said_of_some path cs
  finds_all finds =
      adds_neither (maybe_or first found) (said_of_some path cs)
      (adds_both first found (said_of_some path cs) (some_add path (take start cs) cs (All-take (Contains cs) start cs (All-contains_itself cs))) finds.sound)
      (all_add path cs (maybe_or first found) (λ k d h. each (get_or cs k d) (All-contains_itself cs k d h) (get_or cs k d).lead refl))
    where
      first : Option Bool
      first = said_of_some path (take start cs)

      each : (c : Conjunction) → Contains cs c → (lead : Option ℕ) → c.lead ≡ lead → AddsNothing (said_of path c) (maybe_or first found)
      each c has None at = adds_first (said_of path c) first found (member_adds path (take start cs) c (unled c has at))
      each c has (Some name) at =
          adds_last (said_of path c) first found (finds.each c name has at (omega arith))

-- one that is true makes all true
pub true_of_all : (path : Path) (cs : List Conjunction) (start : ℕ) → said_of_some path (take start cs) ≡ Some true → Some true ≡ said_of_some path cs
true_of_all path cs start is =
    subst (λ (o : Option Bool). maybe_or o (said_of_some path cs) ≡ said_of_some path cs) is
    (some_add path (take start cs) cs (All-take (Contains cs) start cs (All-contains_itself cs)))
