-- What stands behind a dot of a domain is a domain, unless it is empty.
use Rattle.std.proofs.Common.{◌≡◌, ◌≢◌, ◌<◌, ◌∙◌, sym, ap, refl, ℕ, arith, Bool, true, false, ◌&&◌, ◌||◌, ◌==◌, not, List, [], ◌∷◌, ◌++◌, length, cond, inl, inr, None}
use Rattle.std.specs.Prelude.{if◌then◌else◌, unwrap_or}
use Rattle.std.specs.List.{last_or, list_all, onto_first}
use Rattle.std.proofs.lemmas.Bool.{and_parts, and_from, lt-ltb, not-true, not_from_false}
use Rattle.std.proofs.lemmas.List.{append_assoc}
use Rattle.std.proofs.lemmas.List.Folds.{list_all-append}
use Rattle.std.proofs.lemmas.List.Splits.{length-slice_split}
use Rattle.csp_model.proofs.FinalBytes.{last_view, without_final-push}
use Rattle.csp_model.proofs.EndLaws.{subdomain_Decides}
use Rattle.csp_model.specs.Ascii.{is_nonempty, without_final, split_at}
use Rattle.csp_model.specs.DecideEnds.{is_subdomain}
use Rattle.csp_model.specs.Grammar.{are_digits}
use Rattle.csp_model.specs.Validity.{is_domain_byte, is_domain, ends_in_number, is_hex_number, last_label}

pub nonempty : {A : Type 0} (xs : List A) → xs ≢ [] → is_nonempty xs ≡ true
nonempty [] some = absurd (some refl)
nonempty (x ∷ xs) some = lt-ltb 0 (length (x ∷ xs)) (omega arith)

-- The last label

abbrev last_part : List (List ℕ) → List ℕ
last_part parts = unwrap_or (last_or None parts) []

-- more than one part, and this is the last
abbrev EndsWith : List ℕ → List (List ℕ) → Type 0
EndsWith last parts = (1 < length parts) × (last_part parts ≡ last)

after_dot : (last : List ℕ) (parts : List (List ℕ)) → 0 < length parts → last_part parts ≡ last → EndsWith last ([] ∷ parts)
after_dot last [] some e = absurd (omega arith)
after_dot last (part ∷ parts) some e = (omega arith, e)

after_byte : (last : List ℕ) (c : ℕ) (parts : List (List ℕ)) → EndsWith last parts → EndsWith last (onto_first c parts)
after_byte last c [] h = absurd (omega arith)
after_byte last c (part ∷ []) h = absurd (omega arith)
after_byte last c (part ∷ next ∷ parts) h = (omega arith, h.1)

pub some_part : (text : List ℕ) → 0 < length (split_at 46 text)
some_part text = omega (arith, length-slice_split (λ b. b == 46) text)

behind_dot : (front text : List ℕ) → EndsWith (last_part (split_at 46 text)) (split_at 46 (front ++ 46 ∷ text))
behind_dot [] text = after_dot _ (split_at 46 text) (some_part text) refl
behind_dot (c ∷ front) text = by (c == 46) (behind_dot front text) where
  by : (b : Bool) → EndsWith (last_part (split_at 46 text)) (split_at 46 (front ++ 46 ∷ text))
      → EndsWith (last_part (split_at 46 text)) (if b then [] ∷ split_at 46 (front ++ 46 ∷ text) else onto_first c (split_at 46 (front ++ 46 ∷ text)))
  by true rest = after_dot _ (split_at 46 (front ++ 46 ∷ text)) (omega (arith, rest.0)) rest.1
  by false rest = after_byte _ c (split_at 46 (front ++ 46 ∷ text)) rest

without_final-behind : (front s : List ℕ) (y : ℕ) → without_final 46 (front ++ 46 ∷ (s ++ y ∷ [])) ≡ front ++ 46 ∷ without_final 46 (s ++ y ∷ [])
without_final-behind front s y =
    ap (without_final 46) (sym (append_assoc front (46 ∷ s) (y ∷ [])))
    ∙ without_final-push 46 y (front ++ 46 ∷ s)
    ∙ by (y == 46)
    ∙ ap (λ t. front ++ 46 ∷ t) (sym (without_final-push 46 y s)) where
      by : (b : Bool) → cond b (front ++ 46 ∷ s) ((front ++ 46 ∷ s) ++ y ∷ []) ≡ front ++ 46 ∷ cond b s (s ++ y ∷ [])
      by true = refl
      by false = append_assoc front (46 ∷ s) (y ∷ [])

same_label : (front s : List ℕ) → s ≢ [] → last_label (front ++ 46 ∷ s) ≡ last_label s
same_label front s some = elim (last_view s) [
  | inl none ↦ absurd (some none)
  | inr view ↦ let (begin, y, e) = view in
      ap (λ t. last_label (front ++ 46 ∷ t)) e
      ∙ ap (λ t. last_part (split_at 46 t)) (without_final-behind front begin y)
      ∙ (behind_dot front (without_final 46 (begin ++ y ∷ []))).1
      ∙ ap last_label (sym e)
]

same_ending : (front s : List ℕ) → s ≢ [] → ends_in_number (front ++ 46 ∷ s) ≡ ends_in_number s
unfolding ends_in_number
same_ending front s some = ap (λ label. are_digits label || is_hex_number label) (same_label front s some)

pub domain_parts : (text : List ℕ) → is_domain text ≡ true → (is_nonempty text ≡ true) × (list_all is_domain_byte text ≡ true) × (ends_in_number text ≡ false)
unfolding is_domain
domain_parts text h =
    let named = and_parts (is_nonempty text && list_all is_domain_byte text) (not (ends_in_number text)) h in
    let parts = and_parts (is_nonempty text) (list_all is_domain_byte text) named.0 in
    (parts.0, parts.1, not-true (ends_in_number text) named.1)

domain_from : (text : List ℕ) → is_nonempty text ≡ true → list_all is_domain_byte text ≡ true → ends_in_number text ≡ false → is_domain text ≡ true
unfolding is_domain
domain_from text some bytes ending =
    and_from (is_nonempty text && list_all is_domain_byte text) (not (ends_in_number text))
    (and_from (is_nonempty text) (list_all is_domain_byte text) some bytes) (not_from_false (ends_in_number text) ending)

behind : (front s : List ℕ) → s ≢ [] → is_domain (front ++ 46 ∷ s) ≡ true → is_domain s ≡ true
behind front s some domain =
    let parts = domain_parts (front ++ 46 ∷ s) domain in
    let bytes = and_parts (list_all is_domain_byte front) (list_all is_domain_byte (46 ∷ s)) (sym (list_all-append is_domain_byte front (46 ∷ s)) ∙ parts.1) in
    domain_from s (nonempty s some) (and_parts (is_domain_byte 46) (list_all is_domain_byte s) bytes.1).1 (sym (same_ending front s some) ∙ parts.2)

pub suffix_domain : (domain suffix : List ℕ) → suffix ≢ [] → is_domain domain ≡ true → is_subdomain domain suffix ≡ true → is_domain suffix ≡ true
suffix_domain domain suffix some valid under =
    let (front, e) = (subdomain_Decides domain suffix).0 under in
    behind front suffix some (ap is_domain (sym e) ∙ valid)
