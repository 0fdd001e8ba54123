-- What the needs of checks are: each need of a check, and no other.
use Rattle.std.proofs.Common.{◌≡◌, ◌∙◌, sym, ap, refl, ℕ, Bool, true, false, ◌||◌, ◌&&◌, List, [], ◌∷◌, fold, Option, Some, None, arith, Any, Contains}
use Rattle.std.specs.BTreeSet.{insert_key}
use Rattle.std.specs.Bool.{Decides}
use Rattle.std.specs.Prelude.{◌↔◌}
use Rattle.std.specs.Str.{bytes_eq}
use Rattle.std.specs.Cmp.Lexicographic.{slice_cmp}
use Rattle.std.specs.List.{list_any, list_all}
use Rattle.std.specs.Ordering.{nat_cmp, ordering_then, match_ordering, is_eq}
use Rattle.std.specs.declared.cmp.Ordering.{Ordering}
use Rattle.std.specs.declared.cmp.Ordering.TheVariants.{Less, Equal, Greater}
use Rattle.std.proofs.lemmas.Bool.Decides.{Decides-and, Decides-like}
use Rattle.std.proofs.lemmas.Grind.{common_steps}
use Rattle.std.proofs.lemmas.Map.Text.{is_eq-slice_cmp}
use Rattle.std.proofs.lemmas.Slice.Eq.{bytes_eq-Decides}
use Rattle.csp_model.specs.declared.check.Check.{Check}
use Rattle.csp_model.proofs.Deciding.{no, any_decides, has_decides}
use Rattle.csp_learn.specs.Needs.{need_of, need_cmp, with_need, needs_of}
use Rattle.csp_learn.specs.declared.need.Need.{Need}

same_text : (s t : List ℕ) → slice_cmp nat_cmp s t ≡ Equal → s ≡ t
same_text s t e = (bytes_eq-Decides s t).0 (sym (is_eq-slice_cmp s t) ∙ ap is_eq e)

then_first : (r s : Ordering) → ordering_then r s ≡ Equal → r ≡ Equal
then_first Less s e = e
then_first Equal s e = refl
then_first Greater s e = e

then_second : (r s : Ordering) → ordering_then r s ≡ Equal → s ≡ Equal
then_second Less s e = cc
then_second Equal s e = e
then_second Greater s e = cc

-- only equal needs are level
need_tied : (a b : Need) → need_cmp a b ≡ Equal → a ≡ b
need_tied a b e =
    let directive = same_text a.directive b.directive (then_first _ _ e) in
    let token = same_text a.token b.token (then_second _ _ e) in
    ap (λ (d : List ℕ). record { directive = d; token = a.token }) directive
    ∙ ap (λ (t : List ℕ). record { directive = b.directive; token = t }) token

or_again : (a b : Bool) → (a || b) ≡ (a || (a || b))
or_again true b = refl
or_again false b = refl

or_swap : (a b c : Bool) → (a || (b || c)) ≡ (b || (a || c))
or_swap true true c = refl
or_swap true false c = refl
or_swap false b c = refl

or_turn : (a b c : Bool) → ((a || b) || c) ≡ (b || (a || c))
or_turn true true c = refl
or_turn true false c = refl
or_turn false b c = refl

or_none : (a : Bool) → a ≡ (a || false)
or_none true = refl
or_none false = refl

-- some need passes a test

any_inserted : (p : Need → Bool) (need : Need) (needs : List Need) → list_any p (insert_key need_cmp needs need) ≡ (p need || list_any p needs)
any_inserted p need [] = refl
any_inserted p need (x ∷ needs) = go (need_cmp need x) refl (any_inserted p need needs) where
  go : (o : Ordering) → need_cmp need x ≡ o
      → list_any p (insert_key need_cmp needs need) ≡ (p need || list_any p needs)
      → list_any p (match_ordering o (need ∷ x ∷ needs) (x ∷ needs) (x ∷ insert_key need_cmp needs need)) ≡ (p need || (p x || list_any p needs))
  go Less is rest = refl
  go Equal is rest = or_again (p x) (list_any p needs) ∙ ap (λ y. p y || (p x || list_any p needs)) (sym (need_tied need x is))
  go Greater is rest = ap (λ b. p x || b) rest ∙ or_swap (p x) (p need) (list_any p needs)

-- the need is there, and passes
abbrev pub passes : (Need → Bool) → Option Need → Bool
passes p None = false
passes p (Some need) = p need

any_with : (p : Need → Bool) (needs : List Need) (o : Option Need) → list_any p (with_need needs o) ≡ (passes p o || list_any p needs)
any_with p needs None = refl
any_with p needs (Some need) = any_inserted p need needs

any_folded : (p : Need → Bool) (needs : List Need) (checks : List Check)
    → list_any p (fold (λ needs asked. with_need needs (need_of asked)) needs checks)
    ≡ (list_any p needs || list_any (λ asked. passes p (need_of asked)) checks)
any_folded p needs [] = or_none (list_any p needs)
any_folded p needs (asked ∷ checks) =
    any_folded p (with_need needs (need_of asked)) checks
    ∙ ap (λ b. b || list_any (λ asked. passes p (need_of asked)) checks) (any_with p needs (need_of asked))
    ∙ or_turn (passes p (need_of asked)) (list_any p needs) (list_any (λ asked. passes p (need_of asked)) checks)

pub any_needed : (p : Need → Bool) (checks : List Check) → list_any p (needs_of checks) ≡ list_any (λ asked. passes p (need_of asked)) checks
any_needed p checks = any_folded p [] checks

-- each need passes a test

all_inserted : (p : Need → Bool) (need : Need) (needs : List Need) → p need ≡ true → list_all p needs ≡ true → list_all p (insert_key need_cmp needs need) ≡ true
all_inserted p need [] good all = grind (arith, common_steps)
all_inserted p need (x ∷ needs) good all = go (need_cmp need x) (all_inserted p need needs good) where
  go : (o : Ordering) → (list_all p needs ≡ true → list_all p (insert_key need_cmp needs need) ≡ true)
      → list_all p (match_ordering o (need ∷ x ∷ needs) (x ∷ needs) (x ∷ insert_key need_cmp needs need)) ≡ true
  go Less rest = grind (arith, common_steps)
  go Equal rest = all
  go Greater rest = grind (arith, common_steps, rest)

-- the need passes, where there is one
abbrev pub passes_if : (Need → Bool) → Option Need → Bool
passes_if p None = true
passes_if p (Some need) = p need

pub all_with : (p : Need → Bool) (needs : List Need) (o : Option Need) → passes_if p o ≡ true → list_all p needs ≡ true → list_all p (with_need needs o) ≡ true
all_with p needs None good all = all
all_with p needs (Some need) good all = all_inserted p need needs good all

all_folded : (p : Need → Bool) (needs : List Need) (checks : List Check) → list_all p needs ≡ true
    → list_all (λ asked. passes_if p (need_of asked)) checks ≡ true
    → list_all p (fold (λ needs asked. with_need needs (need_of asked)) needs checks) ≡ true
all_folded p needs [] all each = all
all_folded p needs (asked ∷ checks) all each =
    all_folded p (with_need needs (need_of asked)) checks
    (all_with p needs (need_of asked) (grind (arith, common_steps)) all) (grind (arith, common_steps))

pub all_needed : (p : Need → Bool) (checks : List Check) → list_all (λ asked. passes_if p (need_of asked)) checks ≡ true → list_all p (needs_of checks) ≡ true
all_needed p checks each = all_folded p [] checks refl each

-- a need is among them exactly where some check has it

same_need : Need → Need → Bool
same_need a b = bytes_eq a.directive b.directive && bytes_eq a.token b.token

same_need_decides : (need other : Need) → Decides (same_need other need) (other ≡ need)
unfolding same_need
same_need_decides need other =
    Decides-like (same_need other need)
    (λ (h : (other.directive ≡ need.directive) × (other.token ≡ need.token)).
    ap (λ (d : List ℕ). let n : Need = record { directive = d; token = other.token } in n) h.0
    ∙ ap (λ (t : List ℕ). let n : Need = record { directive = need.directive; token = t } in n) h.1)
    (λ (e : other ≡ need). (ap (λ (n : Need). n.directive) e, ap (λ (n : Need). n.token) e))
    (Decides-and (bytes_eq other.directive need.directive) (bytes_eq other.token need.token)
    (bytes_eq-Decides other.directive need.directive) (bytes_eq-Decides other.token need.token))

is_need_decides : (need : Need) (o : Option Need) → Decides (passes (λ other. same_need other need) o) (o ≡ Some need)
is_need_decides need None = no (λ (h : None ≡ Some need). cc)
is_need_decides need (Some other) =
    Decides-like (same_need other need) (ap Some) (λ (h : Some other ≡ Some need). cc) (same_need_decides need other)

pub needs_members : (checks : List Check) (need : Need) → Contains (needs_of checks) need ↔ Any (λ asked. need_of asked ≡ Some need) checks
needs_members checks need =
    let p = λ (other : Need). same_need other need in
    let among = has_decides p need (same_need_decides need) (needs_of checks) in
    let needed = any_decides (λ asked. passes p (need_of asked)) (λ asked. need_of asked ≡ Some need) (λ asked. is_need_decides need (need_of asked)) checks in
    (λ h. needed.0 (sym (any_needed p checks) ∙ among.1 h), λ h. among.0 (any_needed p checks ∙ needed.1 h))
