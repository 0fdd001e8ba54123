-- The differences under one directive after another.
use Rattle.std.proofs.Common.{arith, ◌≡◌, ◌∙◌, sym, ap, subst, refl, ℕ, zero, suc, ◌+◌, ◌-◌, ◌<◌, Bool, true, ◌&&◌, List, [], ◌∷◌, ◌++◌, length, get_or, drop, length-append, append-nil, append_assoc, All, inl, inr}
use Rattle.std.specs.Prelude.{AllPairs, Contains, Option, Some, None, slice_index_or, ◌⊎◌}
use Rattle.std.specs.Cmp.Lexicographic.{slice_cmp}
use Rattle.std.specs.List.{list_all, remove}
use Rattle.std.specs.Ordering.{is_lt, nat_cmp}
use Rattle.std.specs.declared.cmp.Ordering.{Ordering}
use Rattle.std.specs.declared.cmp.Ordering.TheVariants.{Less, Equal, Greater}
use Rattle.std.proofs.lemmas.Bool.{and_parts, false≢true}
use Rattle.std.proofs.lemmas.List.{drop_more, map_push}
use Rattle.std.proofs.lemmas.List.Edits.{remove-append_right}
use Rattle.std.proofs.lemmas.List.Elements.{All-nil, All-push, Contains-append_left, Contains-append_right, Contains-append_cases}
use Rattle.std.proofs.lemmas.List.Kept.{AllPairs-cons}
use Rattle.std.proofs.lemmas.List.Quantifiers.{all_pairs_remove}
use Rattle.std.proofs.lemmas.List.Sums.{AllPass-from_list_all}
use Rattle.csp_model.specs.Names.{name_text}
use Rattle.csp_model.specs.Verdict.{effective_name}
use Rattle.csp_model.specs.declared.check.Check.{Check}
use Rattle.csp_model.specs.declared.name.Name.{Name}
use Rattle.csp_model.specs.declared.policy.PolicyList.{PolicyList}
use Rattle.csp_compare.specs.Answers.{IsCounterexample}
use Rattle.csp_compare.specs.Differences.{AreDifferences, DiffersAmong, IsBefore, IsDifferenceAmong, ShowsDifference, SubsumesAmong, directives_of, effective_names}
use Rattle.csp_compare.specs.declared.differences.Difference.{Difference}
use Rattle.csp_compare.proofs.Differing.{has_effective}

-- The order of names

abbrev precedes : Name → Name → Bool
precedes one other = is_lt (slice_cmp nat_cmp (name_text one) (name_text other))

less : (o : Ordering) → is_lt o ≡ true → o ≡ Less
less Less is = refl
less Equal is = cc is
less Greater is = cc is

abbrev rise : List Name → Bool
rise [] = true
rise (name ∷ names) = list_all (precedes name) names && rise names

pairs_rise : (names : List Name) → rise names ≡ true → AllPairs IsBefore names
pairs_rise [] is = λ i j d low within. absurd (omega (arith, within))
pairs_rise (name ∷ names) is =
    let after = AllPass-from_list_all (precedes name) names (and_parts _ _ is).0 in
    AllPairs-cons IsBefore name names (λ k d within. less _ (after k d within)) (pairs_rise names (and_parts _ _ is).1)

names_rise : AllPairs IsBefore effective_names
names_rise = pairs_rise effective_names refl

-- Entries so far

pub cons_cases : (names : List Name) (one other : Name) → Contains (one ∷ names) other → (one ≡ other) ⊎ Contains names other
cons_cases names one other has = by has.0 has.1 has.2 where
  by : (k : ℕ) → k < length (one ∷ names) → slice_index_or (one ∷ names) k other ≡ other → (one ≡ other) ⊎ Contains names other
  by zero within is = inl is
  by (suc k) within is = inr (k, omega (arith, within), is)

pub only : (name other : Name) → Contains (name ∷ []) other → name ≡ other
only name other has = elim (cons_cases [] name other has) [
  | inl here ↦ here
  | inr later ↦ absurd (omega (arith, later.1))
]

-- the entries of the directives that were asked, and the directives that were not
pub record IsSoFar (first second : PolicyList) (entries : List Difference) (rest : List Name) : Type 0 where
  pub shown : All (ShowsDifference first second) entries
  pub complete : (asked : Check) → IsCounterexample first second asked → Contains (directives_of entries ++ rest) (effective_name asked)
  pub ordered : AllPairs IsBefore (directives_of entries ++ rest)

pub so_far_start : (first second : PolicyList) → IsSoFar first second [] effective_names
so_far_start first second = record {
  shown = All-nil (ShowsDifference first second);
  complete = λ asked differs. has_effective asked;
  ordered = names_rise;
}

pub so_far_end : (first second : PolicyList) (entries : List Difference) → IsSoFar first second entries [] → AreDifferences first second entries
so_far_end first second entries so =
    let same = append-nil (directives_of entries) in record {
      shown = so.shown;
      complete = λ asked differs. subst (λ (names : List Name). Contains names (effective_name asked)) same (so.complete asked differs);
      ordered = subst (λ (names : List Name). AllPairs IsBefore names) same so.ordered;
    }

passed_over : (names rest : List Name) (one : Name) → AllPairs IsBefore (names ++ one ∷ rest) → AllPairs IsBefore (names ++ rest)
passed_over names rest one pairs =
    let none : length names - length names ≡ 0 = omega arith in
    let gone : remove (names ++ one ∷ rest) (length names) ≡ names ++ rest =
    remove-append_right names (one ∷ rest) (length names) (length names) refl (omega arith)
    ∙ ap (λ k. names ++ remove (one ∷ rest) k) none in
    subst (λ (left : List Name). AllPairs IsBefore left) gone
    (all_pairs_remove IsBefore (names ++ one ∷ rest) (length names) (let long = length-append names (one ∷ rest) in omega (arith, long)) pairs)

pub so_far_none : (first second : PolicyList) (entries : List Difference) (rest : List Name) (name : Name) → SubsumesAmong (name ∷ []) first second
    → IsSoFar first second entries (name ∷ rest) → IsSoFar first second entries rest
so_far_none first second entries rest name none so = record {
  shown = so.shown;
  complete = λ asked differs. elim (Contains-append_cases (directives_of entries) (name ∷ rest) (effective_name asked) (so.complete asked differs)) [
    | inl before ↦ Contains-append_left (directives_of entries) rest (effective_name asked) before
    | inr after ↦ elim (cons_cases rest name (effective_name asked) after) [
      | inl here ↦ absurd (false≢true (sym differs.refused ∙ none asked differs.valid (0, omega arith, here) differs.allowed))
      | inr later ↦ Contains-append_right (directives_of entries) rest (effective_name asked) later
    ]
  ];
  ordered = passed_over (directives_of entries) rest name so.ordered;
}

pub so_far_some : (first second : PolicyList) (entries : List Difference) (rest : List Name) (name : Name) (asked : Check) → DiffersAmong (name ∷ []) first second asked
    → IsSoFar first second entries (name ∷ rest) → IsSoFar first second (entries ++ record { directive = name; check = asked } ∷ []) rest
so_far_some first second entries rest name asked differs so =
    let entry : Difference = record { directive = name; check = asked } in
    let same : directives_of (entries ++ entry ∷ []) ++ rest ≡ directives_of entries ++ name ∷ rest =
    ap (λ (names : List Name). names ++ rest) (map_push (λ (e : Difference). e.directive) entries entry) ∙ append_assoc (directives_of entries) (name ∷ []) rest in
    record {
      shown = All-push (ShowsDifference first second) entries entry so.shown (record { differs = differs.0; directive = sym (only name (effective_name asked) differs.1) });
      complete = λ other shows. subst (λ (names : List Name). Contains names (effective_name other)) (sym same) (so.complete other shows);
      ordered = subst (λ (names : List Name). AllPairs IsBefore names) (sym same) so.ordered;
    }

-- the entries with one for a directive under which a check was found
abbrev pub with_found : List Difference → Name → Option Check → List Difference
with_found entries name None = entries
with_found entries name (Some asked) = entries ++ record { directive = name; check = asked } ∷ []

pub so_far_step : (first second : PolicyList) (entries : List Difference) (i : ℕ) (name d : Name) (found : Option Check) → i < length effective_names
    → name ≡ get_or effective_names i d → IsDifferenceAmong (name ∷ []) first second found → IsSoFar first second entries (drop i effective_names)
    → IsSoFar first second (with_found entries name found) (drop (i + 1) effective_names)
so_far_step first second entries i name d found within is shows so =
    let here : drop i effective_names ≡ name ∷ drop (i + 1) effective_names =
    drop_more effective_names i d within ∙ ap (λ (n : Name). n ∷ drop (i + 1) effective_names) (sym is) in
    by found shows (subst (λ (rest : List Name). IsSoFar first second entries rest) here so) where
      by : (o : Option Check) → IsDifferenceAmong (name ∷ []) first second o → IsSoFar first second entries (name ∷ drop (i + 1) effective_names)
          → IsSoFar first second (with_found entries name o) (drop (i + 1) effective_names)
      by None none also = so_far_none first second entries (drop (i + 1) effective_names) name none also
      by (Some asked) differs also = so_far_some first second entries (drop (i + 1) effective_names) name asked differs also
