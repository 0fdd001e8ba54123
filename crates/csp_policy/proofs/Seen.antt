-- The names that were seen, in a set.
use Rattle.std.proofs.Common.{arith, ◌≡◌, ◌∙◌, sym, ap, refl, ℕ, Bool, true, false, ◌||◌, append-nil, not, cond, List, [], ◌∷◌, ◌++◌}
use Rattle.std.specs.List.{filter}
use Rattle.std.specs.Str.{bytes_eq}
use Rattle.std.specs.BTreeMap.{is_at}
use Rattle.std.specs.BTreeSet as set
use Rattle.std.specs.BTreeSet.{BTreeSet}
use Rattle.std.proofs.lemmas.Grind.{common_steps}
use Rattle.std.proofs.lemmas.Map.Text.{is_eq-slice_cmp}
use Rattle.std.proofs.lemmas.List.Elements.{filter-append}
use Rattle.std.proofs.lemmas.Slice.Eq.{bytes_eq-Decides}
use Rattle.csp_model.specs.Policies.{is_for_meta}
use Rattle.csp_policy.specs.Types.{Directive, CaselessName}
use Rattle.csp_policy.specs.Fates.{has_name}
use Rattle.csp_policy.specs.Names.{folded, name_cmp, Knows}
use Rattle.csp_policy.specs.Room.{kept_of, if_first}
use Rattle.csp_policy.proofs.Firsts.{is_new}

bytes_eq_turned : (a b : List ℕ) → bytes_eq a b ≡ bytes_eq b a
bytes_eq_turned a b = elim (bytes_eq a b) as (λ t. bytes_eq a b ≡ t → t ≡ bytes_eq b a) [
  | true ↦ λ h. sym ((bytes_eq-Decides b a).1 (sym ((bytes_eq-Decides a b).0 h)))
  | false ↦ λ h. elim (bytes_eq b a) as (λ u. bytes_eq b a ≡ u → false ≡ u) [
    | true ↦ λ k. let same : bytes_eq a b ≡ true = (bytes_eq-Decides a b).1 (sym ((bytes_eq-Decides b a).0 k)) in cc
    | false ↦ λ k. refl
  ] refl
] refl

has_name_more : (name : List ℕ) (ds : List Directive) (d : Directive) → has_name name (ds ++ d ∷ []) ≡ cond (bytes_eq name d.name) true (has_name name ds)
has_name_more name [] d = grind (arith, common_steps)
has_name_more name (x ∷ ds) d = grind (arith, common_steps, has_name_more name ds d)

-- with one more directive, where it is the first of its name
has_name_if_first : (name : List ℕ) (ds : List Directive) (d : Directive) (is_first : Bool) → is_first ≡ is_new ds d
    → cond (bytes_eq name d.name) true (has_name name ds) ≡ has_name name (ds ++ if_first is_first d)
has_name_if_first name ds d true h = sym (has_name_more name ds d)
has_name_if_first name ds d false h = go (bytes_eq name d.name) refl ∙ sym (ap (has_name name) (append-nil ds)) where
  there : (b : Bool) → false ≡ not b → true ≡ b
  there true k = refl
  there false k = cc

  go : (b : Bool) → bytes_eq name d.name ≡ b → cond b true (has_name name ds) ≡ has_name name ds
  go true e = there (has_name d.name ds) h ∙ sym (ap (λ n. has_name n ds) ((bytes_eq-Decides name d.name).0 e))
  go false e = refl

-- a name that the set has not is new
pub first_is : (seen : BTreeSet CaselessName) (key : CaselessName) (ds : List Directive) (d : Directive) (is_first : Bool) → d.name ≡ folded key
    → is_first ≡ not (set.contains name_cmp seen key) → Knows seen ds → is_first ≡ is_new ds d
first_is seen key ds d is_first name added knows = added ∙ ap not (knows key ∙ ap (λ n. has_name n ds) (sym name))

-- with the name of one more directive
pub knows_more : (seen now : BTreeSet CaselessName) (key : CaselessName) (ds : List Directive) (d : Directive) (is_first : Bool) → d.name ≡ folded key
    → ((q : CaselessName) → set.contains name_cmp now q ≡ cond (is_at (name_cmp key) q) true (set.contains name_cmp seen q))
    → is_first ≡ not (set.contains name_cmp seen key) → Knows seen ds → Knows now (ds ++ if_first is_first d)
knows_more seen now key ds d is_first name updates added knows q =
    updates q ∙ ap (λ t. cond t true (set.contains name_cmp seen q)) (is_eq-slice_cmp (folded key) (folded q) ∙ bytes_eq_turned (folded key) (folded q) ∙ ap (bytes_eq (folded q)) (sym name))
    ∙ ap (cond (bytes_eq (folded q) d.name) true) (knows q) ∙ has_name_if_first (folded q) ds d is_first (first_is seen key ds d is_first name added knows)

-- a directive that a meta element loses
pub lost_more : (meta : Bool) (ds : List Directive) (d : Directive) (is_first : Bool) → (not meta || is_for_meta d) ≡ false
    → kept_of meta (ds ++ if_first is_first d) ≡ kept_of meta ds
lost_more meta ds d false h = ap (kept_of meta) (append-nil ds)
lost_more true ds d true h =
    let lost : is_for_meta d ≡ false = h in filter-append is_for_meta ds (d ∷ []) ∙ simp lost (append-nil (filter is_for_meta ds))
lost_more false ds d true h = cc

-- a directive that stays
pub kept_more : (meta : Bool) (ds : List Directive) (d : Directive) (is_first : Bool) → (not meta || is_for_meta d) ≡ true
    → kept_of meta (ds ++ if_first is_first d) ≡ kept_of meta ds ++ if_first is_first d
kept_more meta ds d false h = ap (kept_of meta) (append-nil ds) ∙ sym (append-nil (kept_of meta ds))
kept_more true ds d true h = let kept : is_for_meta d ≡ true = h in filter-append is_for_meta ds (d ∷ []) ∙ simp kept
kept_more false ds d true h = refl
