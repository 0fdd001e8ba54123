-- The outer entries of an entry, one after the other, and which of them match a URL.
use Rattle.std.proofs.Common.{◌≡◌, ℕ, ◌+◌, ◌-◌, ◌<◌, ◌≤◌, Bool, true, false, ◌&&◌, nat_le, ◌==◌, List, length, get_or, Option, Some, None, SomeIff, sym, ◌∙◌, ap, subst, All, Equal, is_eq, arith, inl, inr}
use Rattle.std.specs.List.{list_any}
use Rattle.std.specs.List.Sorted.{IsPartitionPoint}
use Rattle.std.proofs.lemmas.Bool.{false≢true, cases_lt}
use Rattle.std.proofs.lemmas.Bool.Decides.{nat_tests}
use Rattle.std.proofs.lemmas.List.{get_or_default}
use Rattle.std.proofs.lemmas.List.Folds.{list_any_none}
use Rattle.csp_model.specs.Paths.{front_text}
use Rattle.csp_model.proofs.PathFronts.{IsRead}
use Rattle.csp_match.specs.contracts.host_key.HostKeyOrd.TheImpl.Laws.{total-law as host_total}
use Rattle.csp_match.specs.Types.{HostedUrl, HostKey}
use Rattle.csp_match.specs.Entries.{Entry, entry_text, front_fits, target_fits, IsEntry}
use Rattle.csp_match.specs.Fronts.{host_cmp, is_up_to, place, within_fits, AreOutersTo, IsLastOuter, IsOuter, IsOuterAt, IsShared, Place, Rises}
use Rattle.csp_match.proofs.AnyLaws.{first, found, not_true, second}
use Rattle.csp_match.proofs.FrontLaws.{outer_at_between, outer_between, outer_itself, outer_le, outer_through, shared_begins, shared_holds, stands_before}
use Rattle.csp_match.proofs.FrontMatches.{begun_fits, fitting_begins}
use Rattle.csp_match.proofs.RunOfKey.{equal_is}

-- ---- how the outer entry of an entry is found

-- of entries that stand there
pub outer_at_is : (entries : List Entry) (k n : ℕ) (x y : Entry) → k < length entries → n < length entries → x ≡ get_or entries k x → y ≡ get_or entries n y
    → (IsOuter (place x) (place y) → IsOuterAt entries k n) × (IsOuterAt entries k n → IsOuter (place x) (place y))
outer_at_is entries k n x y low high p q = (
  λ outer d.
      let one : get_or entries k d ≡ x = get_or_default entries k d x low ∙ sym p in
      let other : get_or entries n d ≡ y = get_or_default entries n d y high ∙ sym q in
      rw (one, other) outer,
  λ outer.
      let other : get_or entries n x ≡ y = get_or_default entries n x y high ∙ sym q in
      subst (λ (e : Entry). IsOuter (place x) (place e)) other (subst (λ (e : Entry). IsOuter (place e) (place (get_or entries n x))) (sym p) (outer x)),
)

-- no outer entry stands between this one and the entry itself
abbrev pub IsAbove : List Entry → ℕ → Option ℕ → Type 0
IsAbove entries n (Some m) = (m < n) × ((k : ℕ) → k < n → IsOuterAt entries k n → k ≤ m)
IsAbove entries n None = (k : ℕ) → k < n → IsOuterAt entries k n → ⊥

-- how many entries may still be gone through
abbrev pub steps_left : Option ℕ → ℕ
steps_left (Some m) = m + 1
steps_left None = 0

module _ (entries : List Entry) (rises : Rises entries) (n : ℕ) (within : n < length entries) where
  pub above_first : (next : Option ℕ) → SomeIff next (1 ≤ n) (n - 1) → IsAbove entries n next
  above_first None none = λ k low outer. absurd (none (omega arith))
  above_first (Some m) (some, is) = (omega arith, λ k low outer. omega arith)

  -- an outer entry that isn't this one is an outer one of this one
  nearer : (m : ℕ) → IsAbove entries n (Some m) → (IsOuterAt entries m n → ⊥) → (k : ℕ) → k < n → IsOuterAt entries k n → (k < m) × IsOuterAt entries k m
  nearer m (below, all) off k low outer =
      let most : k ≤ m = all k low outer in (
        elim (cases_lt k m) [
          | inl less ↦ less
          | inr over ↦
              let same : k ≡ m = omega arith in
              absurd (off (subst (λ (j : ℕ). IsOuterAt entries j n) same outer))
        ],
        outer_at_between entries rises k m n most (omega arith) within outer,
      )

  pub above_next : (m : ℕ) (next : Option ℕ) → IsAbove entries n (Some m) → (IsOuterAt entries m n → ⊥) → IsLastOuter entries m next → IsAbove entries n next
  above_next m (Some o) (below, all) off (before, on, last) = (
    omega arith,
    λ k low outer. let near = nearer m (below, all) off k low outer in last k near.0 near.1,
  )
  above_next m None above off none = λ k low outer. let near = nearer m above off k low outer in none k near.0 near.1

-- the outer entry that is kept
pub outer_here : (entries : List Entry) (outers : List (Option ℕ)) (n : ℕ) (next : Option ℕ) → AreOutersTo entries outers (length entries) → n < length entries
    → next ≡ get_or outers n next → IsLastOuter entries n next
outer_here entries outers n next are within at =
    let long = are.long in
    subst (IsLastOuter entries n) (get_or_default outers n None next (omega arith) ∙ sym at) (are.each n within)

-- ---- which entries match a URL

-- an entry of this host matches
abbrev pub fits_at : HostedUrl → HostKey → Entry → Bool
fits_at asked host e = is_eq (host_cmp e.0 host) && target_fits asked e

abbrev pub Ends : HostKey → List ℕ → List Entry → ℕ → Type 0
Ends host path = IsPartitionPoint (λ (e : Entry). is_up_to (host, path) e ≡ true) (λ (e : Entry). is_up_to (host, path) e ≡ false)

-- of the entries that match each is this outer one of the last or stands before it
abbrev pub IsLeft : HostedUrl → HostKey → List Entry → ℕ → Option ℕ → Type 0
IsLeft asked host entries last (Some m) =
    (m ≤ last) × IsOuterAt entries m last × ((k : ℕ) (d : Entry) → m < k → k < length entries → fits_at asked host (get_or entries k d) ≡ false)
IsLeft asked host entries last None = All (λ e. fits_at asked host e ≡ false) entries

pub none_fit : (asked : HostedUrl) (host : HostKey) (entries : List Entry) → All (λ e. fits_at asked host e ≡ false) entries
    → false ≡ list_any (fits_at asked host) entries
none_fit asked host entries unfit = sym (list_any_none (fits_at asked host) entries unfit)

-- so many of the entries aren't behind the path
pub record IsUpTo (asked : HostedUrl) (host : HostKey) (entries : List Entry) (n : ℕ) : Type 0 where
  pub each : All IsEntry entries
  pub rises : Rises entries
  pub bound : n ≤ length entries
  pub ends : Ends host (front_text asked.path.now) entries n

-- as they are counted
pub counted : (asked : HostedUrl) (host : HostKey) (entries inside slice : List Entry) (path : List ℕ) (n : ℕ) → All IsEntry entries → Rises inside
    → inside ≡ entries → slice ≡ inside → path ≡ front_text asked.path.now → n ≤ length slice → Ends host path slice n → IsUpTo asked host entries n
counted asked host entries inside slice path n each rises is same text bound ends = record {
  each = each;
  rises = subst Rises is rises;
  bound = subst (λ (es : List Entry). n ≤ length es) (same ∙ is) bound;
  ends = subst (λ (t : List ℕ). Ends host t entries n) text (subst (λ (es : List Entry). Ends host path es n) (same ∙ is) ends);
}

module _ (asked : HostedUrl) (host : HostKey) (entries : List Entry) (upto : ℕ) (all : IsUpTo asked host entries upto) where
  abbrev here : Place
  here = (host, front_text asked.path.now)

  -- an entry that matches is an outer one of the path
  fitting_outer : (k : ℕ) (d : Entry) → k < length entries → fits_at asked host (get_or entries k d) ≡ true → IsOuter (place (get_or entries k d)) here
  fitting_outer k d within fits =
      let e = get_or entries k d in (
        equal_is (host_cmp e.0 host) (first (is_eq (host_cmp e.0 host)) (target_fits asked e) fits),
        fitting_begins asked e (all.each k d within) (second (is_eq (host_cmp e.0 host)) (target_fits asked e) fits),
      )

  -- those behind it don't match
  behind_unfit : (k : ℕ) (d : Entry) → upto ≤ k → k < length entries → fits_at asked host (get_or entries k d) ≡ false
  behind_unfit k d low within =
      not_true _ (λ fits. false≢true (sym (all.ends.1 k d low within) ∙ outer_le (place (get_or entries k d)) here (fitting_outer k d within fits)))

  -- nor does any if all are
  pub all_behind : (1 ≤ upto → ⊥) → false ≡ list_any (fits_at asked host) entries
  all_behind none = none_fit asked host entries (λ k d within. behind_unfit k d (elim (cases_lt 0 upto) [
    | inl some ↦ absurd (none (omega arith))
    | inr over ↦ omega arith
  ]) within)

  -- what matches is an outer one of each entry between it and the path
  outer_before : (k m : ℕ) (d : Entry) → k ≤ m → m < upto → fits_at asked host (get_or entries k d) ≡ true → IsOuter (place (get_or entries k d)) (place (get_or entries m d))
  outer_before k m d low high fits =
      outer_between (place (get_or entries k d)) (place (get_or entries m d)) here
      (stands_before entries all.rises k m d low (omega (arith, all.bound))) (all.ends.0 m d (omega arith) high) (fitting_outer k d (omega (arith, all.bound)) fits)

  -- nor does any if the last one that isn't behind it is of another host
  pub other_host : (last : ℕ) (end : Entry) → 1 ≤ upto → last ≡ upto - 1 → end ≡ get_or entries last end → (host_cmp end.0 host ≡ Equal → ⊥)
      → false ≡ list_any (fits_at asked host) entries
  other_host last end some is there apart = none_fit asked host entries (λ k d within. elim (cases_lt k upto) [
    | inl low ↦ not_true _ (λ fits.
        let e = get_or entries k d in
        let outer = outer_before k last d (omega arith) (omega arith) fits in
        let at : get_or entries last d ≡ end = get_or_default entries last d end (omega (arith, all.bound)) ∙ sym there in
        let level : host_cmp e.0 end.0 ≡ Equal = subst (λ (x : Entry). host_cmp e.0 x.0 ≡ Equal) at outer.0 in
        apart (sym (host_total.congr e.0 end.0 host level) ∙ (fitting_outer k d within fits).0))
    | inr over ↦ behind_unfit k d over within
  ])

  -- else the walk begins with it
  pub left_first : (last : ℕ) → 1 ≤ upto → last ≡ upto - 1 → IsLeft asked host entries last (Some last)
  left_first last some is = (omega arith, λ d. outer_itself (place (get_or entries last d)), λ k d low within. behind_unfit k d (omega arith) within)

-- an outer entry of the last one, of the path's host, from which the walk goes on
pub record IsStand (asked : HostedUrl) (host : HostKey) (entries : List Entry) (upto last : ℕ) (end : Entry) (n m : ℕ) (e : Entry) : Type 0 where
  pub all : IsUpTo asked host entries upto
  pub some : 1 ≤ upto
  pub is : last ≡ upto - 1
  pub there : end ≡ get_or entries last end
  pub same : host_cmp end.0 host ≡ Equal
  pub shared : IsShared (entry_text end) (front_text asked.path.now) n
  pub left : IsLeft asked host entries last (Some m)
  pub at : e ≡ get_or entries m e

module _ {asked : HostedUrl} {host : HostKey} {entries : List Entry} {upto last : ℕ} {end : Entry} {n m : ℕ} {e : Entry}
    (stand : IsStand asked host entries upto last end n m e) where
  low : m < upto
  low = omega (arith, stand.left.0, stand.some, stand.is)

  low_there : m < length entries
  low_there = omega (arith, low, stand.all.bound)

  last_there : last < length entries
  last_there = omega (arith, stand.some, stand.is, stand.all.bound)

  e_at : (d : Entry) → get_or entries m d ≡ e
  e_at d = get_or_default entries m d e low_there ∙ sym stand.at

  e_outer : IsOuter (place e) (place end)
  e_outer =
      subst (λ (x : Entry). IsOuter (place e) (place x)) (get_or_default entries last e end last_there ∙ sym stand.there)
      (subst (λ (x : Entry). IsOuter (place x) (place (get_or entries last e))) (e_at e) (stand.left.1 e))

  e_entry : IsEntry e
  e_entry = subst IsEntry (e_at e) (stand.all.each m e low_there)

  -- an outer one of it matches where it is no longer than what is shared, by its kind
  pub fits_is : IsRead asked.path.now → within_fits asked n e.1 ≡ fits_at asked host e
  fits_is read =
      let path = front_text asked.path.now in
      let size = length (entry_text e) in
      let fits = front_fits asked (size == length path) e.1 in
      let level : is_eq (host_cmp e.0 host) ≡ true = ap is_eq (host_total.congr e.0 end.0 host e_outer.0 ∙ stand.same) in
      elim (cases_lt n size) [
        | inl longer ↦
            let over : nat_le size n ≡ false = grind (arith, nat_tests) in
            let unfit : target_fits asked e ≡ false = not_true _ (λ h.
            let no_longer : size ≤ n = shared_holds (entry_text end) path (entry_text e) n stand.shared e_outer.1 (fitting_begins asked e e_entry h) in
            absurd (omega arith)) in
            ap (λ (b : Bool). b && fits) over ∙ sym (ap (λ (b : Bool). b && target_fits asked e) level ∙ unfit)
        | inr no_longer ↦
            let within : nat_le size n ≡ true = grind (arith, nat_tests) in
            let begins = shared_begins (entry_text end) path (entry_text e) n stand.shared e_outer.1 no_longer in
            ap (λ (b : Bool). b && fits) within ∙ begun_fits asked e e_entry read begins ∙ sym (ap (λ (b : Bool). b && target_fits asked e) level)
      ]

  pub fit_found : fits_at asked host e ≡ true → true ≡ list_any (fits_at asked host) entries
  fit_found fits = sym (found (fits_at asked host) entries m e low_there (e_at e) fits)

  -- where it doesn't, its own outer one is left
  passed : fits_at asked host e ≡ false → (k : ℕ) (d : Entry) → (k < m → IsOuterAt entries k m → ⊥) → k < length entries → fits_at asked host (get_or entries k d) ≡ false
  passed unfit k d none within =
      elim (cases_lt k m) [
        | inl less ↦ not_true _ (λ fits. none less (λ f.
            outer_before asked host entries upto stand.all k m f (omega arith) low (subst (λ (x : Entry). fits_at asked host x ≡ true) (get_or_default entries k d f within) fits)))
        | inr over ↦ elim (cases_lt m k) [
          | inl more ↦ stand.left.2 k d more within
          | inr under ↦
              let here : m ≡ k = omega arith in
              subst (λ (j : ℕ). fits_at asked host (get_or entries j d) ≡ false) here (ap (fits_at asked host) (e_at d) ∙ unfit)
        ]
      ]

  pub left_next : (next : Option ℕ) → fits_at asked host e ≡ false → IsLastOuter entries m next → IsLeft asked host entries last next
  left_next (Some o) unfit (before, on, final) =
      let most = stand.left.0 in (
        omega arith,
        λ d. outer_through (place (get_or entries o d)) (place (get_or entries m d)) (place (get_or entries last d)) (on d) (stand.left.1 d),
        λ k d more within. passed unfit k d (λ less outer. let most : k ≤ o = final k less outer in absurd (omega arith)) within,
      )
  left_next None unfit none = λ k d within. passed unfit k d (none k) within
