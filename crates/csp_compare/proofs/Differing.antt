-- Where no shape shows a difference, there is none.
use Rattle.std.proofs.Common.{arith, ◌≡◌, ◌∙◌, sym, ap, subst, refl, ℕ, zero, suc, ◌+◌, ◌<◌, ◌≤◌, List, length, inl, inr}
use Rattle.std.specs.Prelude.{Contains, ◌⊎◌}
use Rattle.std.specs.List.{AllZip}
use Rattle.csp_branch.specs.Walks.{Position}
use Rattle.csp_model.specs.Names.{group_directive, inline_directive}
use Rattle.csp_model.specs.Verdict.{effective_name}
use Rattle.csp_model.specs.declared.check.Check.{Check}
use Rattle.csp_model.specs.declared.check.Check.TheVariants as check
use Rattle.csp_model.specs.declared.check.Group.{Group}
use Rattle.csp_model.specs.declared.check.Group.TheVariants as group
use Rattle.csp_model.specs.declared.check.InlineKind.{InlineKind}
use Rattle.csp_model.specs.declared.check.InlineKind.TheVariants as inline
use Rattle.csp_model.specs.declared.name.Name.{Name}
use Rattle.csp_facts.specs.Numbers.{number, shape_count}
use Rattle.csp_facts.specs.Shapes.{HasShape}
use Rattle.csp_facts.specs.declared.shape.Shape.{Shape}
use Rattle.csp_facts.proofs.Apart.{one_shape}
use Rattle.csp_facts.proofs.Checks.{shape_of, shaped, is_listed, is_only}
use Rattle.csp_proof.proofs.ReadableSaid.{AllSaid, are_said}
use Rattle.csp_facts.proofs.Listed.{within_count}
use Rattle.csp_compare.specs.Differences.{HasNoneAt, IsAmongAt, IsIncludedAt, IsIncludedBelow, SubsumesAmong, effective_names, effective_of}
use Rattle.csp_compare.specs.Drafts.{IsShown, at_shape}
use Rattle.csp_compare.specs.Comparisons.{lists_of, IsReady}
use Rattle.csp_compare.specs.declared.comparison.Comparison.{Comparison}
use Rattle.csp_compare.proofs.OneShape.{included_at}

-- Effective directives

small : (k : ℕ) → k < 17 → k < length effective_names
small k less = less

group_listed : (kind : Group) → Contains effective_names (group_directive kind)
group_listed group.Connect = (1, small 1 (omega arith), refl)
group_listed group.Font = (2, small 2 (omega arith), refl)
group_listed group.Frame = (5, small 5 (omega arith), refl)
group_listed group.Img = (6, small 6 (omega arith), refl)
group_listed group.Manifest = (7, small 7 (omega arith), refl)
group_listed group.Media = (8, small 8 (omega arith), refl)
group_listed group.Object = (9, small 9 (omega arith), refl)
group_listed group.StyleElem = (15, small 15 (omega arith), refl)
group_listed group.ScriptElem = (13, small 13 (omega arith), refl)
group_listed group.Worker = (16, small 16 (omega arith), refl)

inline_listed : (kind : InlineKind) → Contains effective_names (inline_directive kind)
inline_listed inline.Script = (13, small 13 (omega arith), refl)
inline_listed inline.ScriptAttribute = (12, small 12 (omega arith), refl)
inline_listed inline.Style = (15, small 15 (omega arith), refl)
inline_listed inline.StyleAttribute = (14, small 14 (omega arith), refl)
inline_listed inline.Navigation = (13, small 13 (omega arith), refl)

-- each check has one that is listed
pub has_effective : (asked : Check) → Contains effective_names (effective_name asked)
has_effective (check.Fetch kind there redirects nonce integrity parser_inserted) = group_listed kind
has_effective (check.Inline kind nonce digests) = inline_listed kind
has_effective check.Eval = (11, small 11 (omega arith), refl)
has_effective check.Wasm = (11, small 11 (omega arith), refl)
has_effective (check.Base there) = (0, small 0 (omega arith), refl)
has_effective (check.Form there redirects) = (3, small 3 (omega arith), refl)
has_effective (check.Ancestor there) = (4, small 4 (omega arith), refl)
has_effective check.OpaqueAncestor = (4, small 4 (omega arith), refl)
has_effective (check.Capability capability) = (10, small 10 (omega arith), refl)
has_effective check.WorkerStart = (10, small 10 (omega arith), refl)

effective_shape : (asked : Check) → effective_of (shape_of asked) ≡ effective_name asked
effective_shape (check.Fetch kind there redirects nonce integrity parser_inserted) = refl
effective_shape (check.Inline kind nonce digests) = refl
effective_shape check.Eval = refl
effective_shape check.Wasm = refl
effective_shape (check.Base there) = refl
effective_shape (check.Form there redirects) = refl
effective_shape (check.Ancestor there) = refl
effective_shape check.OpaqueAncestor = refl
effective_shape (check.Capability capability) = refl
effective_shape check.WorkerStart = refl

pub shape_effective : (asked : Check) (kind : Shape) → HasShape asked kind → effective_name asked ≡ effective_of kind
shape_effective asked kind has = sym (ap effective_of (is_only asked kind has) ∙ effective_shape asked)

-- Shapes without a difference

pub none_differs : AllSaid → (on : Comparison) {walker : Position} (effective : List Name) → IsReady on walker → (n : ℕ) → shape_count ≤ n → IsIncludedBelow on effective n
    → SubsumesAmong effective on.lists.first.now on.lists.second.now
none_differs law on effective is n past below asked valid among allowed =
    let kind = shape_of asked in
    let lists = lists_of on in
    let at : IsAmongAt effective (number kind) kind = record { listed = is_listed asked; number = refl; among = subst (Contains effective) (sym (effective_shape asked)) among } in
    let small = within_count kind in
    let here = below (number kind) kind (omega (arith, small, past)) at in
    let shown = subst (λ (policies : List ℕ). AllZip (λ policy m. IsShown lists here.0 (at_shape kind policy) m) policies here.1) is.policies here.2 in
    included_at lists kind here.0 (are_said law on.lists.first.now on.lists.second.now is.lists.first is.lists.second) asked valid (shaped asked) allowed here.1 shown

last_or_before : (m n : ℕ) → m < n + 1 → (m < n) ⊎ (m ≡ n)
last_or_before zero zero small = inr refl
last_or_before zero (suc n) small = inl (omega arith)
last_or_before (suc m) zero small = absurd (omega (arith, small))
last_or_before (suc m) (suc n) small = elim (last_or_before m n (omega (arith, small))) [
  | inl before ↦ inl (omega (arith, before))
  | inr last ↦ inr (ap suc last)
]

below_more : (on : Comparison) (effective : List Name) (n : ℕ) → ((kind : Shape) → IsAmongAt effective n kind → IsIncludedAt on kind)
    → IsIncludedBelow on effective n → IsIncludedBelow on effective (n + 1)
below_more on effective n included below place kind small at = elim (last_or_before place n small) [
  | inl before ↦ below place kind before at
  | inr last ↦ included kind (subst (λ (p : ℕ). IsAmongAt effective p kind) last at)
]

-- where no shape of the next number has one of the directives, and where the one that has is included

pub below_none : (on : Comparison) (effective : List Name) (n : ℕ) → HasNoneAt effective n → IsIncludedBelow on effective n → IsIncludedBelow on effective (n + 1)
below_none on effective n none = below_more on effective n (λ kind at. absurd (none kind at))

pub below_one : (on : Comparison) (effective : List Name) (n : ℕ) (shape : Shape) → IsAmongAt effective n shape → IsIncludedAt on shape
    → IsIncludedBelow on effective n → IsIncludedBelow on effective (n + 1)
below_one on effective n shape is included =
    below_more on effective n (λ kind at. subst (IsIncludedAt on) (one_shape shape kind is.listed at.listed (is.number ∙ sym at.number)) included)
