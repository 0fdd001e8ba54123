-- Where there are no differences, and which directives they have.
use Rattle.std.proofs.Common.{arith, ◌≡◌, ◌∙◌, ◌↔◌, sym, ap, subst, refl, suc, List, [], ◌∷◌, All, inl, inr}
use Rattle.std.specs.Prelude.{AllPairs, Contains}
use Rattle.std.specs.Cmp.Lexicographic.{nat_list_cmp_total}
use Rattle.std.specs.Ordering.{ordering_reverse}
use Rattle.std.proofs.lemmas.Bool.{cases_Bool, false≢true}
use Rattle.std.proofs.lemmas.List.Elements.{All-contains, All-head, All-map, All-weaker}
use Rattle.csp_model.specs.Inclusion.{Subsumes}
use Rattle.csp_model.specs.Names.{name_text}
use Rattle.csp_model.specs.Verdict.{effective_name, list_allows}
use Rattle.csp_model.specs.declared.check.Check.{Check}
use Rattle.csp_model.specs.declared.name.Name.{Name}
use Rattle.csp_model.specs.declared.policy.PolicyList.{PolicyList}
use Rattle.csp_compare.specs.Answers.{IsCounterexample}
use Rattle.csp_compare.specs.Differences.{AreDifferences, DiffersAmong, IsBefore, ShowsDifference, directives_of}
use Rattle.csp_compare.specs.declared.differences.Difference.{Difference}
use Rattle.csp_compare.proofs.Entries.{cons_cases, only}

-- Inclusion

pub allowed_too : (first second : PolicyList) → ((asked : Check) → IsCounterexample first second asked → ⊥) → Subsumes first second
allowed_too first second none asked valid allowed = elim (cases_Bool (list_allows second asked)) [
  | inl allows ↦ allows
  | inr refused ↦ absurd (none asked (record { valid = valid; allowed = allowed; refused = refused }))
]

pub not_included : (first second : PolicyList) (asked : Check) → IsCounterexample first second asked → Subsumes first second → ⊥
not_included first second asked differs all = false≢true (sym differs.refused ∙ all asked differs.valid differs.allowed)

subsumed : (first second : PolicyList) (entries : List Difference) → AreDifferences first second entries → entries ≡ [] → Subsumes first second
subsumed first second entries are none = allowed_too first second (λ asked differs.
    let has = subst (λ (es : List Difference). Contains (directives_of es) (effective_name asked)) none (are.complete asked differs) in
    omega (arith, has.1))

empty : (first second : PolicyList) (entries : List Difference) → All (ShowsDifference first second) entries → Subsumes first second → entries ≡ []
empty first second [] shown all = refl
empty first second (entry ∷ entries) shown all =
    absurd (not_included first second entry.check (All-head (ShowsDifference first second) entry entries shown).differs all)

pub none_where_subsumed : (first second : PolicyList) (entries : List Difference) → AreDifferences first second entries → (entries ≡ []) ↔ Subsumes first second
none_where_subsumed first second entries are = (subsumed first second entries are, empty first second entries are.shown)

-- Directives

abbrev Differs : PolicyList → PolicyList → Name → Type 0
Differs first second directive = (asked : Check) × DiffersAmong (directive ∷ []) first second asked

shows : (first second : PolicyList) (entry : Difference) → ShowsDifference first second entry → Differs first second entry.directive
shows first second entry is = (entry.check, (is.differs, (0, omega arith, sym is.directive)))

pub named : (first second : PolicyList) (entries : List Difference) (directive : Name) → AreDifferences first second entries
    → Contains (directives_of entries) directive ↔ ((asked : Check) × DiffersAmong (directive ∷ []) first second asked)
named first second entries directive are = (
  λ has. All-contains (Differs first second) (directives_of entries) directive
      (All-map (Differs first second) (λ (e : Difference). e.directive) entries
      (All-weaker (ShowsDifference first second) (λ (e : Difference). Differs first second e.directive) (shows first second) entries are.shown)) has,
  λ differs. subst (Contains (directives_of entries)) (sym (only directive (effective_name differs.0) differs.1.1)) (are.complete differs.0 differs.1.0),
)

-- Names in order are told by which they are

not_both : (one other : Name) → IsBefore one other → IsBefore other one → ⊥
not_both one other before after =
    let turned = nat_list_cmp_total.antisymm (name_text one) (name_text other) in
    cc (sym before ∙ turned ∙ ap ordering_reverse after)

head_before : (name other : Name) (names : List Name) → AllPairs IsBefore (name ∷ names) → Contains names other → IsBefore name other
head_before name other names pairs has =
    let within = has.1 in
    subst (IsBefore name) has.2 (pairs 0 (suc has.0) other (omega arith) (omega (arith, within)))

later_pairs : (name : Name) (names : List Name) → AllPairs IsBefore (name ∷ names) → AllPairs IsBefore names
later_pairs name names pairs i j d low within = pairs (suc i) (suc j) d (omega (arith, low)) (omega (arith, within))

here : (name : Name) (names : List Name) → Contains (name ∷ names) name
here name names = (0, omega arith, refl)

later : (name other : Name) (names : List Name) → Contains names other → Contains (name ∷ names) other
later name other names has = let within = has.1 in (suc has.0, omega (arith, within), has.2)

abbrev AreIn : List Name → List Name → Type 0
AreIn names others = (name : Name) → Contains names name → Contains others name

same_head : (one other : Name) (names others : List Name) → AllPairs IsBefore (one ∷ names) → AllPairs IsBefore (other ∷ others)
    → AreIn (one ∷ names) (other ∷ others) → AreIn (other ∷ others) (one ∷ names) → one ≡ other
same_head one other names others rise also are back = elim (cons_cases others other one (are one (here one names))) [
  | inl same ↦ sym same
  | inr after ↦ elim (cons_cases names one other (back other (here other others))) [
    | inl same ↦ same
    | inr before ↦ absurd (not_both one other (head_before one other names rise before) (head_before other one others also after))
  ]
]

rest_in : (one other : Name) (names others : List Name) → AllPairs IsBefore (one ∷ names) → one ≡ other → AreIn (one ∷ names) (other ∷ others) → AreIn names others
rest_in one other names others rise same are name has = elim (cons_cases others other name (are name (later one name names has))) [
  | inl is ↦
      let itself = head_before one one names rise (subst (Contains names) (sym (same ∙ is)) has) in
      absurd (not_both one one itself itself)
  | inr after ↦ after
]

same_names : (names others : List Name) → AllPairs IsBefore names → AllPairs IsBefore others → AreIn names others → AreIn others names → names ≡ others
same_names [] [] rise also are back = refl
same_names [] (other ∷ others) rise also are back = absurd (let has = back other (here other others) in omega (arith, has.1))
same_names (one ∷ names) [] rise also are back = absurd (let has = are one (here one names) in omega (arith, has.1))
same_names (one ∷ names) (other ∷ others) rise also are back =
    let same = same_head one other names others rise also are back in
    ap (λ (name : Name). name ∷ names) same
    ∙ ap (λ (left : List Name). other ∷ left)
    (same_names names others (later_pairs one names rise) (later_pairs other others also) (rest_in one other names others rise same are) (rest_in other one others names also (sym same) back))

pub same_directives : (first second : PolicyList) (one other : List Difference) → AreDifferences first second one → AreDifferences first second other
    → directives_of one ≡ directives_of other
same_directives first second one other is also =
    same_names (directives_of one) (directives_of other) is.ordered also.ordered
    (λ name has. (named first second other name also).1 ((named first second one name is).0 has))
    (λ name has. (named first second one name is).1 ((named first second other name also).0 has))
