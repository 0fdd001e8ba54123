-- Each item of a verdict is told: its check, and on this check its policy's line.
use Rattle.std.proofs.Common.{◌≡◌, ℕ, zero, suc, ◌+◌, ◌++◌, Bool, true, false, not, ◌||◌, cond, List, [], ◌∷◌, length, Option, Some, None, refl, sym, ap, ◌∙◌, append-nil, append_assoc, arith}
use Rattle.std.proofs.lemmas.Bool.{lt-ltb}
use Rattle.std.proofs.lemmas.List.Elements.{All-append, All-cons, All-contains_itself, All-head, All-nil, All-tail, All-weaker}
use Rattle.std.specs.Prelude.{All, Contains, codes, decimal, slice_index_or}
use Rattle.std.specs.List.{cons_option, filter, flat_map, list_any}
use Rattle.std.specs.Option.{option_map}
use Rattle.csp_model.specs.Ascii.{is_nonempty}
use Rattle.csp_model.specs.DecideVerdict.{allows}
use Rattle.csp_model.specs.Governing.{Governor, governor}
use Rattle.csp_model.specs.Names.{name_text}
use Rattle.csp_model.specs.Verdict.{effective_name, is_enforced, item_of, items_from, items_of, judged_checks, shown_items, through_enforced, verdict_of}
use Rattle.csp_model.proofs.VerdictLaws.{item_by}
use Rattle.csp_model.specs.declared.check.Check.{Check}
use Rattle.csp_model.specs.declared.check.Check.TheVariants as check
use Rattle.csp_model.specs.declared.name.Name.{Name}
use Rattle.csp_model.specs.declared.policy.Disposition.{Disposition}
use Rattle.csp_model.specs.declared.policy.Disposition.TheVariants.{Report}
use Rattle.csp_model.specs.declared.policy.Policy.{Policy}
use Rattle.csp_model.specs.declared.policy.PolicyList.{PolicyList}
use Rattle.csp_model.specs.declared.verdict.Item.{Item}
use Rattle.csp_output.proofs.Refusing.{refused_reason}
use Rattle.csp_why.specs.Missing.{missing_url}
use Rattle.csp_why.specs.Reasons.{reason}
use Rattle.csp_why.specs.declared.reason.Near.{Near}
use Rattle.csp_why.specs.declared.reason.Reason.{Reason}
use Rattle.csp_why.specs.declared.reason.Reason.TheVariants.{Blocks}
use Rattle.csp_output.specs.Explanations.{check_text, checks_text, governing_tokens, is_refused, joined, missing_text, near_text, policies_from, policy_text, reason_text, refusal_text, refused_checks, told_checks, told_url}
use Rattle.csp_output.specs.WhyLaws.{IsExplained, StandsIn, refusal_line, told_below, would_block_line}

-- Pieces of a text

stands_first : (piece rest text : List ℕ) → text ≡ piece ++ rest → StandsIn piece text
stands_first piece rest text is = record { before = []; after = rest; whole = is }

stands_later : (front piece text : List ℕ) → StandsIn piece text → StandsIn piece (front ++ text)
stands_later front piece text stands = record {
  before = front ++ stands.before;
  after = stands.after;
  whole = ap (λ t. front ++ t) stands.whole ∙ sym (append_assoc front stands.before (piece ++ stands.after));
}

-- what is made of an element stands in what is made of all
stands_within : {X : Type 0} (f : X → List ℕ) (xs : List X) (x : X) → Contains xs x → StandsIn (f x) (flat_map f xs)
stands_within f [] x (k, within, is) = absurd (omega (arith, within))
stands_within f (y ∷ xs) x (zero, within, is) =
    stands_first (f x) (flat_map f xs) (f y ++ flat_map f xs) (ap (λ z. f z ++ flat_map f xs) is)
stands_within f (y ∷ xs) x (suc k, within, is) =
    stands_later (f y) (f x) (flat_map f xs) (stands_within f xs x (k, omega (arith, within), is))

kept : {X : Type 0} (p : X → Bool) (xs : List X) (x : X) → Contains xs x → p x ≡ true → Contains (filter p xs) x
kept p [] x (k, within, is) passes = absurd (omega (arith, within))
kept p (y ∷ xs) x (zero, within, is) passes =
    let here : p y ≡ true = ap p is ∙ passes in
    rw here (0, omega arith, is)
kept p (y ∷ xs) x (suc k, within, is) passes =
    let more : Contains (filter p xs) x = kept p xs x (k, omega (arith, within), is) passes in
    elim (p y) as (λ b. Contains (cond b (y ∷ filter p xs) (filter p xs)) x) [
      | true ↦ (suc (more.0), omega (arith, more.1), more.2)
      | false ↦ more
    ]

nonempty : {X : Type 0} (xs : List X) (x : X) → Contains xs x → is_nonempty xs ≡ true
nonempty xs x (k, within, is) = lt-ltb 0 (length xs) (omega (arith, within))

-- The line of a policy

line_parts : (a b c d e near missing : List ℕ)
    → (a ++ (b ++ (c ++ []))) ++ (((d ++ (e ++ [])) ++ near) ++ missing)
    ≡ (a ++ (b ++ (c ++ (d ++ (e ++ []))))) ++ (near ++ missing)
line_parts a b c d e near missing = simp (append_assoc, append-nil) refl

-- what is told of a policy that blocks
told_refusal : (n : ℕ) (p : Policy) (asked : Check) (directive : Name) (near : List Near)
    → reason p asked ≡ Blocks directive near
    → policy_text n p asked ≡ refusal_line n p.disposition directive ++ told_below p asked directive near
told_refusal n p asked directive near is =
    let tokens = governing_tokens p asked in
    ap (λ (r : Reason). joined (codes "  " ∷ decimal n ∷ codes " " ∷ [])
    ++ (reason_text p.disposition tokens r ++ missing_text r (missing_url p asked r))) is
    ∙ line_parts (codes "  ") (decimal n) (codes " ") (name_text directive) (refusal_text p.disposition) (near_text tokens near)
    (missing_text (Blocks directive near) (missing_url p asked (Blocks directive near)))

pub would_block : (n : ℕ) (p : Policy) (asked : Check) (directive : Name) (near : List Near) → p.disposition ≡ Report
    → reason p asked ≡ Blocks directive near
    → policy_text n p asked ≡ would_block_line n directive ++ told_below p asked directive near
would_block n p asked directive near reports is =
    told_refusal n p asked directive near is
    ∙ ap (λ (d : Disposition). refusal_line n d directive ++ told_below p asked directive near) reports

line_first : (n : ℕ) (p : Policy) (asked : Check) (g : Governor) (rest : List ℕ)
    → governor p (effective_name asked) ≡ Some g → allows p asked ≡ false
    → StandsIn (refusal_line n p.disposition g.name) (policy_text n p asked ++ rest)
line_first n p asked g rest some refused =
    let found = refused_reason p asked g some refused in
    let line : List ℕ = refusal_line n p.disposition g.name in
    let below : List ℕ = told_below p asked g.name found.0 in
    stands_first line (below ++ rest) (policy_text n p asked ++ rest)
    (ap (λ (t : List ℕ). t ++ rest) (told_refusal n p asked g.name found.0 found.1) ∙ append_assoc line below rest)

-- an item is of a policy that doesn't allow the check, and whose line stands in what is told of the policies
record IsTold (policies : List Policy) (asked : Check) (text : List ℕ) (item : Item) : Type 0 where
  line : StandsIn (refusal_line item.policy item.disposition item.governing) text
  refused : list_any (λ p. not (allows p asked)) policies ≡ true

or_later : (a b : Bool) → b ≡ true → (a || b) ≡ true
or_later true b is = refl
or_later false b is = is

told_later : (p : Policy) (rest : List Policy) (asked : Check) (front text : List ℕ) (item : Item)
    → IsTold rest asked text item → IsTold (p ∷ rest) asked (front ++ text) item
told_later p rest asked front text item told = record {
  line = stands_later front (refusal_line item.policy item.disposition item.governing) text told.line;
  refused = or_later (not (allows p asked)) (list_any (λ q. not (allows q asked)) rest) told.refused;
}

all_later : (n : ℕ) (p : Policy) (rest : List Policy) (asked : Check) (items : List Item)
    → All (IsTold rest asked (policies_from (n + 1) rest asked)) items
    → All (IsTold (p ∷ rest) asked (policies_from n (p ∷ rest) asked)) items
all_later n p rest asked items told =
    All-weaker (IsTold rest asked (policies_from (n + 1) rest asked))
    (IsTold (p ∷ rest) asked (policies_from n (p ∷ rest) asked))
    (λ item is. told_later p rest asked (policy_text n p asked) (policies_from (n + 1) rest asked) item is) items told

found_item : (n : ℕ) (p : Policy) (rest : List Policy) (asked : Check) (items : List Item) (o : Option Governor)
    → allows p asked ≡ false → governor p (effective_name asked) ≡ o
    → All (IsTold (p ∷ rest) asked (policies_from n (p ∷ rest) asked)) items
    → All (IsTold (p ∷ rest) asked (policies_from n (p ∷ rest) asked)) (cons_option (option_map (item_by n p asked) o) items)
found_item n p rest asked items None refused is others = others
found_item n p rest asked items (Some g) refused is others =
    All-cons (IsTold (p ∷ rest) asked (policies_from n (p ∷ rest) asked)) (item_by n p asked g) items
    (record {
      line = line_first n p asked g (policies_from (n + 1) rest asked) is refused;
      refused = ap (λ b. not b || list_any (λ q. not (allows q asked)) rest) refused;
    }) others

one_item : (n : ℕ) (p : Policy) (rest : List Policy) (asked : Check) (items : List Item)
    → All (IsTold (p ∷ rest) asked (policies_from n (p ∷ rest) asked)) items
    → All (IsTold (p ∷ rest) asked (policies_from n (p ∷ rest) asked)) (cons_option (item_of n p asked) items)
one_item n p rest asked items others =
    elim (allows p asked) as (λ b. allows p asked ≡ b
    → All (IsTold (p ∷ rest) asked (policies_from n (p ∷ rest) asked))
    (cons_option (cond b None (option_map (item_by n p asked) (governor p (effective_name asked)))) items)) [
      | true ↦ λ is. others
      | false ↦ λ is. found_item n p rest asked items (governor p (effective_name asked)) is refl others
    ] refl

all_items : (n : ℕ) (policies : List Policy) (asked : Check)
    → All (IsTold policies asked (policies_from n policies asked)) (items_from n policies asked)
all_items n [] asked = All-nil (IsTold [] asked [])
all_items n (p ∷ rest) asked =
    one_item n p rest asked (items_from (n + 1) rest asked)
    (all_later n p rest asked (items_from (n + 1) rest asked) (all_items (n + 1) rest asked))

through_all : (P : Item → Type 0) (items : List Item) → All P items → All P (through_enforced items)
through_all P [] each = each
through_all P (item ∷ items) each =
    elim (is_enforced item) as (λ b. All P (cond b (item ∷ []) (item ∷ through_enforced items))) [
      | true ↦ All-cons P item [] (All-head P item items each) (All-nil P)
      | false ↦ All-cons P item (through_enforced items) (All-head P item items each)
          (through_all P items (All-tail P item items each))
    ]

shown_all : (P : Item → Type 0) (asked : Check) (items : List Item) → All P items → All P (shown_items asked items)
shown_all P (check.Base there) items each = through_all P items each
shown_all P (check.Fetch group there redirects nonce integrity parser_inserted) items each = each
shown_all P (check.Inline kind nonce digests) items each = each
shown_all P check.Eval items each = each
shown_all P check.Wasm items each = each
shown_all P (check.Form there redirects) items each = each
shown_all P (check.Ancestor there) items each = each
shown_all P check.OpaqueAncestor items each = each
shown_all P (check.Capability capability) items each = each
shown_all P check.WorkerStart items each = each

-- Checks

-- a check with an item is told
check_told : (list : PolicyList) (checks : List Check) (asked : Check) → Contains (judged_checks list checks) asked
    → is_refused list asked ≡ true → StandsIn (check_text list.policies asked) (checks_text list.policies (told_checks list checks))
check_told list checks asked judged refused =
    let has : Contains (refused_checks list checks) asked = kept (is_refused list) (judged_checks list checks) asked judged refused in
    rw (nonempty (refused_checks list checks) asked has)
    (stands_within (check_text list.policies) (refused_checks list checks) asked has)

explained_item : (list : PolicyList) (checks : List Check) (asked : Check) (item : Item)
    → Contains (judged_checks list checks) asked → Contains (items_of list asked) item
    → IsTold list.policies asked (policies_from 0 list.policies asked) item → IsExplained list checks item
explained_item list checks asked item judged has told = record {
  asked = asked;
  of_check = has;
  told = check_told list checks asked judged told.refused;
  line = stands_later (told_url asked) (refusal_line item.policy item.disposition item.governing)
      (policies_from 0 list.policies asked) told.line;
}

explained_check : (list : PolicyList) (checks : List Check) (asked : Check) → Contains (judged_checks list checks) asked
    → All (IsExplained list checks) (items_of list asked)
explained_check list checks asked judged =
    let told : All (IsTold list.policies asked (policies_from 0 list.policies asked)) (items_of list asked) =
    shown_all (IsTold list.policies asked (policies_from 0 list.policies asked)) asked
    (items_from 0 list.policies asked) (all_items 0 list.policies asked) in
    λ k d within. explained_item list checks asked (slice_index_or (items_of list asked) k d) judged
    (All-contains_itself (items_of list asked) k d within) (told k d within)

explained_all : (list : PolicyList) (checks judged : List Check)
    → All (λ asked. All (IsExplained list checks) (items_of list asked)) judged
    → All (IsExplained list checks) (flat_map (items_of list) judged)
explained_all list checks [] each = All-nil (IsExplained list checks)
explained_all list checks (asked ∷ judged) each =
    All-append (IsExplained list checks) (items_of list asked) (flat_map (items_of list) judged)
    (All-head (λ c. All (IsExplained list checks) (items_of list c)) asked judged each)
    (explained_all list checks judged (All-tail (λ c. All (IsExplained list checks) (items_of list c)) asked judged each))

pub items_explained : (list : PolicyList) (checks : List Check)
    → All (IsExplained list checks) (verdict_of list checks).items
items_explained list checks =
    explained_all list checks (judged_checks list checks)
    (λ k d within. explained_check list checks (slice_index_or (judged_checks list checks) k d)
    (All-contains_itself (judged_checks list checks) k d within))
