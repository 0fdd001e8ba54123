-- A host that is made of labels is read as it is written, where it has no capital letters.
use Rattle.std.proofs.Common.{arith, ◌≡◌, ◌∙◌, sym, ap, refl, ℕ, Bool, true, false, not, List, [], ◌∷◌, ◌++◌, drop, Some, cond, inl, inr, nat_eq}
use Rattle.std.specs.Prelude.{codes, ◌⊎◌, ◌==◌, bytes_eq}
use Rattle.std.specs.List.{list_all, slice_split, onto_first, starts_with}
use Rattle.std.specs.Char.{to_ascii_lowercase, is_ascii_uppercase, is_ascii_digit}
use Rattle.std.proofs.lemmas.Grind.{common_steps}
use Rattle.std.proofs.lemmas.Bool.{false≢true}
use Rattle.std.proofs.lemmas.Bool.Decides.{nat_tests}
use Rattle.std.proofs.lemmas.Slice.Eq.{bytes_eq-Decides}
use Rattle.csp_model.specs.Ascii.{lower, split_at, ends_in, without_last, without_final}
use Rattle.csp_model.specs.Grammar.{is_label_char, is_label, is_name, host_part_of}
use Rattle.csp_model.specs.Paths.{host_text}
use Rattle.csp_model.specs.Validity.{is_domain_byte, is_domain, is_octet, is_four_numbers, is_bracketed, is_address, IsValidHost}
use Rattle.csp_model.specs.declared.source.HostPart.TheVariants as host_part
use Rattle.csp_model.specs.declared.url.Host.{Host}
use Rattle.csp_model.specs.declared.url.Host.TheVariants.{Domain, Address}
use Rattle.csp_model.proofs.FinalBytes.{ends_in_front}

pub bool_view : (b : Bool) → (b ≡ true) ⊎ (b ≡ false)
bool_view true = inl refl
bool_view false = inr refl

-- what passes one test passes a weaker one
pub weaker : {X : Type 0} (p q : X → Bool) → ((c : X) → p c ≡ true → q c ≡ true) → (s : List X) → list_all p s ≡ true → list_all q s ≡ true
weaker p q h [] k = refl
weaker p q h (x ∷ s) k = grind (arith, common_steps, h x, weaker p q h s)

onto_first_pass : (p : ℕ → Bool) (x : ℕ) (parts : List (List ℕ)) → list_all (λ part. list_all p part) (onto_first x parts) ≡ true
    → (p x ≡ true) × (list_all (λ part. list_all p part) parts ≡ true)
onto_first_pass p x [] h = grind (arith, common_steps)
onto_first_pass p x (part ∷ parts) h = grind (arith, common_steps)

-- the parts of a text pass, and so the text with the dots
parts_pass : (p : ℕ → Bool) → p 46 ≡ true → (s : List ℕ) → list_all (λ part. list_all p part) (slice_split (λ c. c == 46) s) ≡ true → list_all p s ≡ true
parts_pass p dot [] h = refl
parts_pass p dot (x ∷ s) h = grind (arith, common_steps, parts_pass p dot s, onto_first_pass p x (slice_split (λ c. c == 46) s))

last_passes : (p : ℕ → Bool) (s : List ℕ) (c : ℕ) → list_all p s ≡ true → p c ≡ true → list_all p (s ++ c ∷ []) ≡ true
last_passes p [] c h k = grind (arith, common_steps)
last_passes p (d ∷ s) c h k = grind (arith, common_steps, last_passes p s c)

without_final_by : (p : ℕ → Bool) (b : Bool) (s : List ℕ) → ends_in 46 s ≡ b → p 46 ≡ true → list_all p (cond b (without_last s) s) ≡ true → list_all p s ≡ true
without_final_by p true s e dot h = ap (list_all p) (ends_in_front 46 s e) ∙ last_passes p (without_last s) 46 h dot
without_final_by p false s e dot h = h

label_passes : (p : ℕ → Bool) → ((c : ℕ) → is_label_char c ≡ true → p c ≡ true) → (part : List ℕ) → is_label part ≡ true → list_all p part ≡ true
label_passes p each part h = weaker is_label_char p each part (grind arith)

-- what holds of dots and of the bytes of labels holds of the bytes of a name
pub name_passes : (p : ℕ → Bool) → p 46 ≡ true → ((c : ℕ) → is_label_char c ≡ true → p c ≡ true) → (s : List ℕ) → is_name s ≡ true → list_all p s ≡ true
unfolding is_name
name_passes p dot each s h =
    without_final_by p (ends_in 46 s) s refl dot
    (parts_pass p dot (without_final 46 s)
    (weaker is_label (λ part. list_all p part) (label_passes p each) (slice_split (λ c. c == 46) (without_final 46 s)) h))

label_no_star : (c : ℕ) → is_label_char c ≡ true → not (c == 42) ≡ true
unfolding is_label_char
label_no_star c h = grind (arith, nat_tests)

label_no_bracket : (c : ℕ) → is_label_char c ≡ true → not (c == 91) ≡ true
unfolding is_label_char
label_no_bracket c h = grind (arith, nat_tests)

begins_no_star : (s : List ℕ) → is_name (42 ∷ s) ≡ true → ⊥
begins_no_star s h = let none : false ≡ true = name_passes (λ c. not (c == 42)) refl label_no_star (42 ∷ s) h in false≢true none

no_star : (s : List ℕ) → is_name s ≡ true → bytes_eq s (codes "*") ≡ false
no_star s h = elim (bool_view (bytes_eq s (codes "*"))) [
  | inl is ↦ absurd (begins_no_star [] (sym (ap is_name ((bytes_eq-Decides s (codes "*")).0 is)) ∙ h))
  | inr other ↦ other
]

star_dot : (s : List ℕ) → starts_with nat_eq s (codes "*.") ≡ true → s ≡ codes "*." ++ drop 2 s
star_dot [] h = grind (arith, common_steps)
star_dot (c ∷ []) h = grind (arith, common_steps)
star_dot (c ∷ d ∷ s) h = grind (arith, common_steps)

no_star_dot : (s : List ℕ) → is_name s ≡ true → starts_with nat_eq s (codes "*.") ≡ false
no_star_dot s h = elim (bool_view (starts_with nat_eq s (codes "*."))) [
  | inl is ↦ absurd (begins_no_star (46 ∷ drop 2 s) (sym (ap is_name (star_dot s is)) ∙ h))
  | inr other ↦ other
]

exact_host : (s : List ℕ) → is_name s ≡ true → host_part_of s ≡ Some (host_part.Exact (lower s))
unfolding host_part_of
exact_host s h = rw (no_star s h, no_star_dot s h, h) refl

-- capital letters

lower_byte : (c : ℕ) → not (is_ascii_uppercase c) ≡ true → to_ascii_lowercase c ≡ c
lower_byte c h = grind (arith, nat_tests)

lower_same : (s : List ℕ) → list_all (λ c. not (is_ascii_uppercase c)) s ≡ true → lower s ≡ s
lower_same [] h = refl
lower_same (c ∷ s) h = grind (arith, common_steps, lower_byte c, lower_same s)

domain_byte_small : (c : ℕ) → is_domain_byte c ≡ true → not (is_ascii_uppercase c) ≡ true
unfolding is_domain_byte
domain_byte_small c h = grind (arith, nat_tests)

domain_lower : (s : List ℕ) → is_domain s ≡ true → lower s ≡ s
unfolding is_domain
domain_lower s h = lower_same s (weaker is_domain_byte (λ c. not (is_ascii_uppercase c)) domain_byte_small s (grind arith))

digit_small : (c : ℕ) → is_ascii_digit c ≡ true → not (is_ascii_uppercase c) ≡ true
digit_small c h = grind (arith, nat_tests)

octet_small : (part : List ℕ) → is_octet part ≡ true → list_all (λ c. not (is_ascii_uppercase c)) part ≡ true
octet_small part h = weaker is_ascii_digit (λ c. not (is_ascii_uppercase c)) digit_small part (grind arith)

numbers_lower : (s : List ℕ) → is_four_numbers s ≡ true → lower s ≡ s
unfolding is_four_numbers
numbers_lower s h =
    lower_same s (parts_pass (λ c. not (is_ascii_uppercase c)) refl s
    (weaker is_octet (λ part. list_all (λ c. not (is_ascii_uppercase c)) part) octet_small (split_at 46 s) (grind arith)))

no_bracket : (s : List ℕ) → is_name s ≡ true → is_bracketed s ≡ false
unfolding is_bracketed
no_bracket [] h = refl
no_bracket (c ∷ s) h =
    let others = name_passes (λ d. not (d == 91)) refl label_no_bracket (c ∷ s) h in
    grind (arith, common_steps, nat_tests)

address_lower : (s : List ℕ) → is_name s ≡ true → is_address s ≡ true → lower s ≡ s
unfolding is_address
address_lower s h k = let none = no_bracket s h in numbers_lower s (grind arith)

host_lower : (host : Host) → IsValidHost host → is_name (host_text host) ≡ true → lower (host_text host) ≡ host_text host
host_lower (Domain text) valid h = domain_lower text valid
host_lower (Address text) valid h = address_lower text h valid

-- the host is read as itself
pub host_read : (host : Host) → IsValidHost host → is_name (host_text host) ≡ true → host_part_of (host_text host) ≡ Some (host_part.Exact (host_text host))
host_read host valid h = exact_host (host_text host) h ∙ ap (λ text. Some (host_part.Exact text)) (host_lower host valid h)
