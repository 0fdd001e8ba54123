-- `other` with a number or none is a domain, alone and below a domain. What lies under what where a label stands in front.
use Rattle.std.proofs.Common.{◌≡◌, ◌∙◌, refl, sym, ap, subst, ℕ, ◌<◌, Bool, true, false, ◌&&◌, ◌||◌, ◌==◌, not, List, [], ◌∷◌, ◌++◌, length, cond, All, Contains, arith, inl, inr, None, append_assoc, length-append}
use Rattle.std.specs.Prelude.{codes, unwrap_or}
use Rattle.std.specs.Char.{is_ascii_digit}
use Rattle.std.specs.List.{last_or, list_all}
use Rattle.std.proofs.lemmas.Bool.{and_parts, and_from, and_right, or_from, lt-ltb, not-true, not_from_false, false_from_ne_true, false≢true, true≢false, cond-false}
use Rattle.std.proofs.lemmas.List.Elements.{All-head, All-tail, All-weaker, All-contains, Contains-push}
use Rattle.std.proofs.lemmas.List.Folds.{list_all-append}
use Rattle.std.proofs.lemmas.List.Splits.{slice_split_at, slice_split_none, length-slice_split}
use Rattle.std.proofs.lemmas.List.Sums.{AllPass-from_list_all}
use Rattle.csp_model.proofs.EndLaws.{subdomain_Decides}
use Rattle.csp_model.proofs.FinalBytes.{last_view, without_final-push, ends_in_front}
use Rattle.csp_model.specs.Ascii.{is_nonempty, ends_in, without_last, without_final, split_at}
use Rattle.csp_model.specs.DecideEnds.{is_subdomain, is_host_under}
use Rattle.csp_model.specs.Grammar.{are_digits}
use Rattle.csp_model.specs.Validity.{is_domain_byte, is_domain, ends_in_number, is_hex_number, last_label, IsValidHost}
use Rattle.csp_model.specs.declared.url.Host.TheVariants.{Domain}
use Rattle.csp_facts.proofs.TableTests.{lies_within_decides}
use Rattle.csp_facts.specs.Follows.{lies_within}
use Rattle.csp_pick.specs.Fresh.{IsNumbered, suffix}
use Rattle.csp_pick.proofs.Numbered.{before_back, nonempty, numbered_passes}

-- A label

-- `other` and some number, or none
abbrev IsLabel : List ℕ → Type 0
IsLabel label = IsNumbered (codes "other") [] label

label_bytes : (label : List ℕ) → IsLabel label → list_all is_domain_byte label ≡ true
unfolding is_domain_byte
label_bytes label is = numbered_passes is_domain_byte refl (codes "other") [] label refl refl is

no_dots : (label : List ℕ) → IsLabel label → All (λ c. (c == 46) ≡ false) label
no_dots label is =
    All-weaker (λ c. not (c == 46) ≡ true) (λ c. (c == 46) ≡ false) (λ c. not-true (c == 46)) label
    (AllPass-from_list_all (λ c. not (c == 46)) label (numbered_passes (λ c. not (c == 46)) refl (codes "other") [] label refl refl is))

-- It ends in no number

abbrev last_part : List (List ℕ) → List ℕ
last_part parts = unwrap_or (last_or None parts) []

no_final_dot : (label : List ℕ) → IsLabel label → ends_in 46 label ≡ false
no_final_dot label h = false_from_ne_true (ends_in 46 label) (λ e.
    true≢false (All-contains (λ c. (c == 46) ≡ false) label 46 (no_dots label h)
    (subst (λ text. Contains text 46) (sym (ends_in_front 46 label e)) (Contains-push (without_last label) 46))))

whole_label : (label : List ℕ) → IsLabel label → last_label label ≡ label
whole_label label h =
    ap (λ text. last_part (split_at 46 text)) (cond-false (ends_in 46 label) (without_last label) label (no_final_dot label h))
    ∙ ap last_part (slice_split_none (λ b. b == 46) label (no_dots label h))

no_number : (rest : List ℕ) → (are_digits (111 ∷ rest) || is_hex_number (111 ∷ rest)) ≡ false
no_number rest =
    or_from (are_digits (111 ∷ rest)) (is_hex_number (111 ∷ rest)) (and_right (is_nonempty (111 ∷ rest)) (list_all is_ascii_digit (111 ∷ rest)) refl) refl

label_ending : (label : List ℕ) → IsLabel label → ends_in_number label ≡ false
unfolding ends_in_number
label_ending label h =
    ap (λ text. are_digits text || is_hex_number text) (whole_label label h ∙ h.2) ∙ no_number (codes "ther" ++ (suffix h.0 ++ []))

-- A label before a dot doesn't change how a text ends

later_part : (part : List ℕ) (parts : List (List ℕ)) → 0 < length parts → last_part (part ∷ parts) ≡ last_part parts
later_part part [] some = absurd (omega arith)
later_part part (next ∷ parts) some = refl

last_behind : (label text : List ℕ) → IsLabel label → last_part (split_at 46 (label ++ 46 ∷ text)) ≡ last_part (split_at 46 text)
last_behind label text h =
    ap last_part (slice_split_at (λ b. b == 46) label 46 text (no_dots label h) refl)
    ∙ later_part label (split_at 46 text) (omega (arith, length-slice_split (λ b. b == 46) text))

without_final-behind : (front s : List ℕ) (y : ℕ) → without_final 46 (front ++ 46 ∷ (s ++ y ∷ [])) ≡ front ++ 46 ∷ without_final 46 (s ++ y ∷ [])
without_final-behind front s y =
    ap (without_final 46) (sym (append_assoc front (46 ∷ s) (y ∷ [])))
    ∙ without_final-push 46 y (front ++ 46 ∷ s)
    ∙ by (y == 46)
    ∙ ap (λ t. front ++ 46 ∷ t) (sym (without_final-push 46 y s)) where
      by : (b : Bool) → cond b (front ++ 46 ∷ s) ((front ++ 46 ∷ s) ++ y ∷ []) ≡ front ++ 46 ∷ cond b s (s ++ y ∷ [])
      by true = refl
      by false = append_assoc front (46 ∷ s) (y ∷ [])

same_label : (label s : List ℕ) → IsLabel label → is_nonempty s ≡ true → last_label (label ++ 46 ∷ s) ≡ last_label s
same_label label s h some = elim (last_view s) [
  | inl none ↦ absurd (false≢true (ap is_nonempty (sym none) ∙ some))
  | inr view ↦ let (begin, y, e) = view in
      ap (λ t. last_label (label ++ 46 ∷ t)) e
      ∙ ap (λ t. last_part (split_at 46 t)) (without_final-behind label begin y)
      ∙ last_behind label (without_final 46 (begin ++ y ∷ [])) h
      ∙ ap last_label (sym e)
]

same_ending : (label s : List ℕ) → IsLabel label → is_nonempty s ≡ true → ends_in_number (label ++ 46 ∷ s) ≡ ends_in_number s
unfolding ends_in_number
same_ending label s h some = ap (λ text. are_digits text || is_hex_number text) (same_label label s h some)

-- Domains

domain_parts : (text : List ℕ) → is_domain text ≡ true → (is_nonempty text ≡ true) × (list_all is_domain_byte text ≡ true) × (ends_in_number text ≡ false)
unfolding is_domain
domain_parts text h =
    let named = and_parts (is_nonempty text && list_all is_domain_byte text) (not (ends_in_number text)) h in
    let parts = and_parts (is_nonempty text) (list_all is_domain_byte text) named.0 in
    (parts.0, parts.1, not-true (ends_in_number text) named.1)

domain_from : (text : List ℕ) → is_nonempty text ≡ true → list_all is_domain_byte text ≡ true → ends_in_number text ≡ false → is_domain text ≡ true
unfolding is_domain
domain_from text some bytes ending =
    and_from (is_nonempty text && list_all is_domain_byte text) (not (ends_in_number text))
    (and_from (is_nonempty text) (list_all is_domain_byte text) some bytes) (not_from_false (ends_in_number text) ending)

label_domain : (label : List ℕ) → IsLabel label → is_domain label ≡ true
label_domain label h = domain_from label (ap is_nonempty h.2 ∙ nonempty 111 (codes "ther" ++ (suffix h.0 ++ []))) (label_bytes label h) (label_ending label h)

dot_byte : is_domain_byte 46 ≡ true
unfolding is_domain_byte
dot_byte = refl

below_domain : (label s : List ℕ) → IsLabel label → is_domain s ≡ true → is_domain (label ++ 46 ∷ s) ≡ true
below_domain label s h valid =
    let parts = domain_parts s valid in
    domain_from (label ++ 46 ∷ s)
    (lt-ltb 0 (length (label ++ 46 ∷ s)) (omega (arith, length-append label (46 ∷ s))))
    (list_all-append is_domain_byte label (46 ∷ s)
    ∙ and_from (list_all is_domain_byte label) (list_all is_domain_byte (46 ∷ s)) (label_bytes label h)
    (and_from (is_domain_byte 46) (list_all is_domain_byte s) dot_byte parts.1))
    (same_ending label s h parts.0 ∙ parts.2)

pub alone_valid : (text : List ℕ) → IsLabel text → IsValidHost (Domain text)
alone_valid text is = label_domain text is

abbrev IsBelow : List ℕ → List ℕ → Type 0
IsBelow s text = IsNumbered (codes "other") (46 ∷ s) text

pub below_valid : (s text : List ℕ) → is_domain s ≡ true → IsBelow s text → IsValidHost (Domain text)
below_valid s text valid is =
    let (label, own, e) = before_back (codes "other") (46 ∷ s) text is in
    ap is_domain e ∙ below_domain label s own valid

-- What a domain of a label lies under

abbrev IsPlain : ℕ → Type 0
IsPlain c = (c == 46) ≡ false

no_dot_first : {P : Type 0} (c : ℕ) → IsPlain c → c ≡ 46 → P
no_dot_first c plain e = absurd (false≢true (sym plain ∙ ap (λ b. b == 46) e))

under_none : (label front t : List ℕ) → All IsPlain label → label ≡ front ++ 46 ∷ t → ⊥
under_none [] [] t each e = cc
under_none [] (f ∷ front) t each e = cc
under_none (c ∷ label) [] t each e = no_dot_first c (All-head IsPlain c label each) cc
under_none (c ∷ label) (f ∷ front) t each e = under_none label front t (All-tail IsPlain c label each) cc

under_more : (label front s t : List ℕ) → All IsPlain label → label ++ 46 ∷ s ≡ front ++ 46 ∷ t → (rest : List ℕ) × (46 ∷ s ≡ rest ++ 46 ∷ t)
under_more [] front s t each e = (front, e)
under_more (c ∷ label) [] s t each e = no_dot_first c (All-head IsPlain c label each) cc
under_more (c ∷ label) (f ∷ front) s t each e = under_more label front s t (All-tail IsPlain c label each) cc

pub alone_under : (text t : List ℕ) → IsLabel text → is_host_under (Domain text) t ≡ false
alone_under text t is = false_from_ne_true (is_subdomain text t) (λ under.
    let (front, e) = (subdomain_Decides text t).0 under in
    under_none text front t (no_dots text is) e)

pub below_under : (s text t : List ℕ) → IsBelow s text → is_host_under (Domain text) t ≡ true → lies_within s t ≡ true
below_under s text t is under =
    let (label, own, e) = before_back (codes "other") (46 ∷ s) text is in
    let (front, at) = (subdomain_Decides text t).0 under in
    (lies_within_decides s t).1 (under_more label front s t (no_dots label own) (sym e ∙ at))

pub below_suffix : (s text : List ℕ) → IsBelow s text → is_host_under (Domain text) s ≡ true
below_suffix s text is =
    let (label, own, e) = before_back (codes "other") (46 ∷ s) text is in
    (subdomain_Decides text s).1 (label, e)

pub example_valid : is_domain (codes "example") ≡ true
unfolding is_domain is_domain_byte ends_in_number
example_valid = refl
