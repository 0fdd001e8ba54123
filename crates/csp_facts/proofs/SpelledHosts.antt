-- A valid host is spelled by a word, and no other valid host by the same.
use Rattle.std.proofs.Common.{arith, nat_lt, ◌≡◌, ◌∙◌, sym, ap, subst, refl, ℕ, ◌<◌, Bool, true, false, ◌&&◌, ◌||◌, ◌==◌, not, List, [], ◌∷◌, length, All, inl, inr}
use Rattle.std.specs.Prelude.{slice_index, if◌then◌else◌, None, unwrap_or}
use Rattle.std.specs.List.{last_or, list_all, join_with_byte, onto_first}
use Rattle.std.specs.Char.{is_ascii_digit}
use Rattle.std.proofs.lemmas.Bool.{and_parts, cond-false, false_from_ne_true, not-true, or_cases, or_left, both_ways, eqb-true, ltb-true, false≢true}
use Rattle.std.proofs.lemmas.Bool.Decides.{nat_tests}
use Rattle.std.proofs.lemmas.List.Elements.{All-nil, All-cons, All-append}
use Rattle.std.proofs.lemmas.List.Splits.{join_with_byte-slice_split}
use Rattle.csp_model.proofs.FinalBytes.{ends_in-cons, one_byte}
use Rattle.csp_model.specs.Ascii.{is_nonempty, ends_in, without_last, without_final, split_at}
use Rattle.csp_model.specs.Grammar.{are_digits, decimal_value}
use Rattle.csp_model.specs.Validity.{is_domain_byte, is_domain, ends_in_number, is_octet, is_four_numbers, is_group_char, is_bracketed, is_address, IsValidHost}
use Rattle.csp_model.specs.declared.url.Host.{Host}
use Rattle.csp_model.specs.declared.url.Host.TheVariants.{Domain, Address}
use Rattle.csp_model.specs.Paths.{host_text}
use Rattle.csp_facts.proofs.SpelledWords.{IsWord, IsVisible, word, each_visible, with_last}

-- Domains

domain_byte_visible : (b : ℕ) → is_domain_byte b ≡ true → IsVisible b
unfolding is_domain_byte
domain_byte_visible b h = grind (arith, nat_tests)

domain_parts : (text : List ℕ) → is_domain text ≡ true → (is_nonempty text ≡ true) × (list_all is_domain_byte text ≡ true) × (ends_in_number text ≡ false)
unfolding is_domain
domain_parts text h =
    let named = and_parts (is_nonempty text && list_all is_domain_byte text) (not (ends_in_number text)) h in
    let parts = and_parts (is_nonempty text) (list_all is_domain_byte text) named.0 in
    (parts.0, parts.1, not-true (ends_in_number text) named.1)

pub domain_word : (text : List ℕ) → is_domain text ≡ true → IsWord text
domain_word text h =
    let parts = domain_parts text h in
    word text (ltb-true 0 (length text) parts.0) (each_visible is_domain_byte domain_byte_visible text parts.1)

-- Four numbers

digit_visible : (c : ℕ) → is_ascii_digit c ≡ true → IsVisible c
digit_visible c h = grind (arith, nat_tests)

octet_digits : (part : List ℕ) → is_octet part ≡ true → are_digits part ≡ true
octet_digits part h =
    let front = and_parts (are_digits part && nat_lt (decimal_value part) 256) (nat_lt (length part) 2 || not (slice_index part 0 == 48)) h in
    (and_parts (are_digits part) (nat_lt (decimal_value part) 256) front.0).0

octet_visible : (part : List ℕ) → is_octet part ≡ true → All IsVisible part
octet_visible part h =
    each_visible is_ascii_digit digit_visible part (and_parts (is_nonempty part) (list_all is_ascii_digit part) (octet_digits part h)).1

joined_visible : (parts : List (List ℕ)) → list_all is_octet parts ≡ true → All IsVisible (join_with_byte 46 parts)
joined_visible [] h = All-nil IsVisible
joined_visible (part ∷ []) h = octet_visible part (and_parts (is_octet part) true h).0
joined_visible (part ∷ next ∷ parts) h =
    let each = and_parts (is_octet part) (list_all is_octet (next ∷ parts)) h in
    let rest = joined_visible (next ∷ parts) each.1 in
    All-append IsVisible part (46 ∷ join_with_byte 46 (next ∷ parts)) (octet_visible part each.0) (All-cons IsVisible 46 (join_with_byte 46 (next ∷ parts)) refl rest)

numbers_visible : (text : List ℕ) → list_all is_octet (split_at 46 text) ≡ true → All IsVisible text
numbers_visible text h = subst (All IsVisible) (join_with_byte-slice_split 46 text) (joined_visible (split_at 46 text) h)

numbers_word : (text : List ℕ) → is_four_numbers text ≡ true → IsWord text
unfolding is_four_numbers
numbers_word [] h = absurd (false≢true h)
numbers_word (c ∷ text) h =
    let parts = and_parts (length (split_at 46 (c ∷ text)) == 4) (list_all is_octet (split_at 46 (c ∷ text))) h in
    word (c ∷ text) (omega arith) (numbers_visible (c ∷ text) parts.1)

-- Addresses in brackets

group_char_visible : (c : ℕ) → is_group_char c ≡ true → IsVisible c
group_char_visible c h = grind (arith, nat_tests)

four_parts : (a b c d : Bool) → (a && b && c && d) ≡ true → (a ≡ true) × (b ≡ true) × (c ≡ true) × (d ≡ true)
four_parts a b c d h =
    let last = and_parts (a && b && c) d h in
    let third = and_parts (a && b) c last.0 in
    let front = and_parts a b third.0 in
    (front.0, front.1, third.1, last.1)

bracketed_word : (text : List ℕ) → is_bracketed text ≡ true → IsWord text
unfolding is_bracketed
bracketed_word [] h = absurd (false≢true h)
bracketed_word (c ∷ []) h = absurd (false≢true (four_parts (c == 91) (ends_in 93 (c ∷ [])) false true h).2)
bracketed_word (c ∷ d ∷ text) h =
    let middle = without_last (d ∷ text) in
    let parts = four_parts (c == 91) (ends_in 93 (c ∷ d ∷ text)) (is_nonempty middle) (list_all is_group_char middle) h in
    let ends : ends_in 93 (d ∷ text) ≡ true = sym (ends_in-cons 93 c d text) ∙ parts.1 in
    let rest = with_last 93 (d ∷ text) ends refl (each_visible is_group_char group_char_visible middle parts.3) in
    word (c ∷ d ∷ text) (omega arith) (All-cons IsVisible c (d ∷ text) (rw (eqb-true c 91 parts.0) refl) rest)

address_word : (text : List ℕ) → is_address text ≡ true → IsWord text
unfolding is_address
address_word text h = elim (or_cases (is_four_numbers text) (is_bracketed text) h) [
  | inl numbers ↦ numbers_word text numbers
  | inr bracketed ↦ bracketed_word text bracketed
]

pub host_word : (name : Host) → IsValidHost name → IsWord (host_text name)
host_word (Domain text) valid = domain_word text valid
host_word (Address text) valid = address_word text valid

-- No domain is an address

abbrev last_part : List (List ℕ) → List ℕ
last_part parts = unwrap_or (last_or None parts) []

last_octet : (parts : List (List ℕ)) → 0 < length parts → list_all is_octet parts ≡ true → are_digits (last_part parts) ≡ true
last_octet [] some h = absurd (omega arith)
last_octet (part ∷ []) some h = octet_digits part (and_parts (is_octet part) true h).0
last_octet (part ∷ next ∷ parts) some h = last_octet (next ∷ parts) (omega arith) (and_parts (is_octet part) (list_all is_octet (next ∷ parts)) h).1

-- some parts of which the last is empty
abbrev IsOpenEnded : List (List ℕ) → Type 0
IsOpenEnded parts = (1 < length parts) × (last_part parts ≡ [])

open_after_dot : (parts : List (List ℕ)) → IsOpenEnded parts → IsOpenEnded ([] ∷ parts)
open_after_dot [] h = absurd (omega arith)
open_after_dot (part ∷ parts) h = (omega arith, h.1)

open_after_byte : (c : ℕ) (parts : List (List ℕ)) → IsOpenEnded parts → IsOpenEnded (onto_first c parts)
open_after_byte c [] h = absurd (omega arith)
open_after_byte c (part ∷ []) h = absurd (omega arith)
open_after_byte c (part ∷ next ∷ parts) h = (omega arith, h.1)

open_after : (c : ℕ) (text : List ℕ) → IsOpenEnded (split_at 46 text) → IsOpenEnded (split_at 46 (c ∷ text))
open_after c text h = by (c == 46) where
  by : (b : Bool) → IsOpenEnded (if b then [] ∷ split_at 46 text else onto_first c (split_at 46 text))
  by true = open_after_dot (split_at 46 text) h
  by false = open_after_byte c (split_at 46 text) h

-- a text with a dot at its end has nothing behind its last dot
open_ended : (text : List ℕ) → ends_in 46 text ≡ true → IsOpenEnded (split_at 46 text)
open_ended [] h = absurd (false≢true h)
open_ended (c ∷ []) h = by (c == 46) (sym (one_byte 46 c) ∙ h) where
  by : (b : Bool) → b ≡ true → IsOpenEnded (if b then [] ∷ [] ∷ [] else (c ∷ []) ∷ [])
  by true e = (omega arith, refl)
  by false e = absurd (false≢true e)
open_ended (c ∷ d ∷ text) h = open_after c (d ∷ text) (open_ended (d ∷ text) (sym (ends_in-cons 46 c d text) ∙ h))

no_last_dot : (text : List ℕ) → are_digits (last_part (split_at 46 text)) ≡ true → ends_in 46 text ≡ false
no_last_dot text digits = false_from_ne_true (ends_in 46 text) (λ e. false≢true (ap are_digits (sym (open_ended text e).1) ∙ digits))

numbers_end_in_number : (text : List ℕ) → is_four_numbers text ≡ true → ends_in_number text ≡ true
unfolding is_four_numbers ends_in_number
numbers_end_in_number text h =
    let parts = and_parts (length (split_at 46 text) == 4) (list_all is_octet (split_at 46 text)) h in
    let four = eqb-true (length (split_at 46 text)) 4 parts.0 in
    let digits = last_octet (split_at 46 text) (omega arith) parts.1 in
    let whole : without_final 46 text ≡ text = cond-false (ends_in 46 text) (without_last text) text (no_last_dot text digits) in
    or_left _ _ (subst (λ t. are_digits (last_part (split_at 46 t)) ≡ true) (sym whole) digits)

numbers_no_domain : (text : List ℕ) → is_domain text ≡ true → is_four_numbers text ≡ true → ⊥
numbers_no_domain text domain numbers = both_ways (ends_in_number text) (domain_parts text domain).2 (numbers_end_in_number text numbers)

bracket_no_domain_byte : is_domain_byte 91 ≡ false
unfolding is_domain_byte
bracket_no_domain_byte = refl

bracketed_no_domain : (text : List ℕ) → is_domain text ≡ true → is_bracketed text ≡ true → ⊥
unfolding is_bracketed
bracketed_no_domain [] domain bracketed = false≢true bracketed
bracketed_no_domain (c ∷ text) domain bracketed =
    let first = (and_parts (is_domain_byte c) (list_all is_domain_byte text) (domain_parts (c ∷ text) domain).1).0 in
    let bracket = (four_parts (c == 91) (ends_in 93 (c ∷ text)) (is_nonempty (without_last text)) (list_all is_group_char (without_last text)) bracketed).0 in
    both_ways (is_domain_byte c) (ap is_domain_byte (eqb-true c 91 bracket) ∙ bracket_no_domain_byte) first

address_no_domain : (text : List ℕ) → is_domain text ≡ true → is_address text ≡ true → ⊥
unfolding is_address
address_no_domain text domain address = elim (or_cases (is_four_numbers text) (is_bracketed text) address) [
  | inl numbers ↦ numbers_no_domain text domain numbers
  | inr bracketed ↦ bracketed_no_domain text domain bracketed
]

pub host_told : (first second : Host) → IsValidHost first → IsValidHost second → host_text first ≡ host_text second → first ≡ second
host_told (Domain text) (Domain other) domain also same = ap Domain same
host_told (Address text) (Address other) address also same = ap Address same
host_told (Domain text) (Address other) domain address same = absurd (address_no_domain other (subst (λ t. is_domain t ≡ true) same domain) address)
host_told (Address text) (Domain other) address domain same = absurd (address_no_domain text (subst (λ t. is_domain t ≡ true) (sym same) domain) address)
