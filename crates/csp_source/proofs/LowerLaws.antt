-- Schemes and hosts in lower case are what they were.
use Rattle.std.proofs.Common.{arith, ◌≡◌, ◌∙◌, sym, ap, refl, subst, ℕ, Bool, true, false, ◌&&◌, ◌||◌, List, [], ◌∷◌, ◌++◌, drop, map, Some, None, cond, inl, inr, nat_eq}
use Rattle.std.specs.Prelude.{codes, ◌⊎◌, ◌==◌, bytes_eq, if◌then◌else◌}
use Rattle.std.specs.List.{list_all, slice_split, onto_first, starts_with}
use Rattle.std.specs.Char.{to_ascii_lowercase, is_ascii_alphabetic}
use Rattle.std.proofs.lemmas.Grind.{common_steps}
use Rattle.std.proofs.lemmas.Bool.{false≢true}
use Rattle.std.proofs.lemmas.Bool.Decides.{nat_tests}
use Rattle.std.proofs.lemmas.List.{map-append}
use Rattle.std.proofs.lemmas.Slice.Eq.{bytes_eq-Decides}
use Rattle.std.proofs.lemmas.Str.Ascii.{lowercase-lowercase}
use Rattle.csp_model.specs.Ascii.{lower, split_at, without_final}
use Rattle.csp_model.specs.Grammar.{is_scheme_char, is_scheme, is_label_char, is_label, is_name, host_part_of}
use Rattle.csp_source.specs.Types.{HostPart}
use Rattle.csp_source.specs.Spelling.{host_spelling}
use Rattle.csp_model.proofs.FinalBytes.{without_final-push, last_view}
use Rattle.csp_source.proofs.HostLaws.{chosen, weaker, parts_pass, without_final_pass, star_dot}

pub lower-lower : (s : List ℕ) → lower (lower s) ≡ lower s
lower-lower [] = refl
lower-lower (c ∷ s) = ap (λ x. x ∷ lower (lower s)) (lowercase-lowercase c) ∙ ap (λ x. to_ascii_lowercase c ∷ x) (lower-lower s)

lower_alphabetic : (c : ℕ) → is_ascii_alphabetic c ≡ true → is_ascii_alphabetic (to_ascii_lowercase c) ≡ true
lower_alphabetic c h = grind (arith, nat_tests)

lower_scheme_char : (c : ℕ) → is_scheme_char c ≡ true → is_scheme_char (to_ascii_lowercase c) ≡ true
unfolding is_scheme_char
lower_scheme_char c h = grind (arith, nat_tests)

lower_label_char : (c : ℕ) → is_label_char c ≡ true → is_label_char (to_ascii_lowercase c) ≡ true
unfolding is_label_char
lower_label_char c h = grind (arith, nat_tests)

all_lower : (p : ℕ → Bool) → ((c : ℕ) → p c ≡ true → p (to_ascii_lowercase c) ≡ true) → (s : List ℕ) → list_all p s ≡ true → list_all p (lower s) ≡ true
all_lower p keeps [] h = refl
all_lower p keeps (c ∷ s) h = grind (arith, common_steps, keeps c, all_lower p keeps s)

pub is_scheme-lower : (letters : List ℕ) → is_scheme letters ≡ true → is_scheme (lower letters) ≡ true
is_scheme-lower [] h = h
is_scheme-lower (c ∷ letters) h = grind (arith, common_steps, lower_alphabetic c, all_lower is_scheme_char lower_scheme_char letters)

-- ---- names

onto_first-map : (f : ℕ → ℕ) (c : ℕ) (parts : List (List ℕ)) → onto_first (f c) (map (map f) parts) ≡ map (map f) (onto_first c parts)
onto_first-map f c [] = refl
onto_first-map f c (part ∷ parts) = refl

split_by : (f : ℕ → ℕ) (b : Bool) (c : ℕ) (parts : List (List ℕ)) → cond b ([] ∷ map (map f) parts) (onto_first (f c) (map (map f) parts)) ≡ map (map f) (cond b ([] ∷ parts) (onto_first c parts))
split_by f true c parts = refl
split_by f false c parts = onto_first-map f c parts

slice_split-map : (f : ℕ → ℕ) (p : ℕ → Bool) → ((c : ℕ) → p (f c) ≡ p c) → (s : List ℕ) → slice_split p (map f s) ≡ map (map f) (slice_split p s)
slice_split-map f p same [] = refl
slice_split-map f p same (c ∷ s) = rw (same c, slice_split-map f p same s) (split_by f (p c) c (slice_split p s))

lower_dot : (c : ℕ) → (to_ascii_lowercase c == 46) ≡ (c == 46)
lower_dot c = grind (arith, nat_tests)

final_by : (b : Bool) (front : List ℕ) (y : ℕ) → cond b (lower front) (lower front ++ to_ascii_lowercase y ∷ []) ≡ lower (cond b front (front ++ y ∷ []))
final_by true front y = refl
final_by false front y = sym (map-append to_ascii_lowercase front (y ∷ []))

without_final-lower : (s : List ℕ) → without_final 46 (lower s) ≡ lower (without_final 46 s)
without_final-lower s = elim (last_view s) [
  | inl none ↦ rw none refl
  | inr some ↦
      let (front, y, e) = some in
      ap (λ x. without_final 46 (lower x)) e ∙ ap (without_final 46) (map-append to_ascii_lowercase front (y ∷ []))
      ∙ without_final-push 46 (to_ascii_lowercase y) (lower front)
      ∙ ap (λ b. cond b (lower front) (lower front ++ to_ascii_lowercase y ∷ [])) (lower_dot y)
      ∙ final_by (y == 46) front y ∙ ap lower (sym (without_final-push 46 y front)) ∙ ap (λ x. lower (without_final 46 x)) (sym e)
]

is_label-lower : (part : List ℕ) → is_label part ≡ true → is_label (lower part) ≡ true
is_label-lower [] h = h
is_label-lower (c ∷ part) h = grind (arith, common_steps, nat_tests, all_lower is_label_char lower_label_char (c ∷ part))

labels-lower : (parts : List (List ℕ)) → list_all is_label parts ≡ true → list_all is_label (map lower parts) ≡ true
labels-lower [] h = refl
labels-lower (part ∷ parts) h = grind (arith, common_steps, is_label-lower part, labels-lower parts)

pub is_name-lower : (s : List ℕ) → is_name s ≡ true → is_name (lower s) ≡ true
unfolding is_name
is_name-lower s h =
    ap (λ x. list_all is_label (split_at 46 x)) (without_final-lower s)
    ∙ ap (list_all is_label) (slice_split-map to_ascii_lowercase (λ c. c == 46) lower_dot (without_final 46 s))
    ∙ labels-lower (split_at 46 (without_final 46 s)) h

-- a name has no "*"
is_name_char : ℕ → Bool
is_name_char c = is_label_char c || c == 46

name_label : (c : ℕ) → is_label_char c ≡ true → is_name_char c ≡ true
unfolding is_name_char
name_label c h = grind arith

label_name : (part : List ℕ) → is_label part ≡ true → list_all is_name_char part ≡ true
label_name part h = weaker is_label_char is_name_char name_label part (grind arith)

name_dots : (s : List ℕ) → is_name s ≡ true → list_all is_name_char s ≡ true
unfolding is_name is_name_char is_label_char
name_dots s h = without_final_pass is_name_char refl s (parts_pass is_name_char refl (without_final 46 s) (weaker is_label (λ part. list_all is_name_char part) label_name (split_at 46 (without_final 46 s)) h))

star_name : (s : List ℕ) → is_name (42 ∷ s) ≡ true → ⊥
unfolding is_name_char is_label_char
star_name s h = let chars = name_dots (42 ∷ s) h in false≢true chars

bool_view : (b : Bool) → (b ≡ true) ⊎ (b ≡ false)
bool_view true = inl refl
bool_view false = inr refl

no_star : (s : List ℕ) → is_name s ≡ true → bytes_eq s (codes "*") ≡ false
no_star s h = elim (bool_view (bytes_eq s (codes "*"))) [
  | inl is ↦ absurd (star_name [] (sym (ap is_name ((bytes_eq-Decides s (codes "*")).0 is)) ∙ h))
  | inr other ↦ other
]

no_star_dot : (s : List ℕ) → is_name s ≡ true → starts_with nat_eq s (codes "*.") ≡ false
no_star_dot s h = elim (bool_view (starts_with nat_eq s (codes "*."))) [
  | inl is ↦ absurd (star_name (46 ∷ drop 2 s) (sym (ap is_name (star_dot s is)) ∙ h))
  | inr other ↦ other
]

exact_host : (s : List ℕ) → is_name s ≡ true → host_part_of s ≡ Some (HostPart.Exact (lower s))
unfolding host_part_of
exact_host s h = rw (no_star s h, no_star_dot s h, h) refl

under_host : (s : List ℕ) → is_name s ≡ true → host_part_of (codes "*." ++ s) ≡ Some (HostPart.Under (lower s))
unfolding host_part_of
under_host s h = rw h refl

spelt_under : (s : List ℕ) → is_name s ≡ true → host_part_of (codes "*." ++ lower s) ≡ Some (HostPart.Under (lower s))
spelt_under s h = under_host (lower s) (is_name-lower s h) ∙ ap (λ x. Some (HostPart.Under x)) (lower-lower s)

spelt_exact : (s : List ℕ) → is_name s ≡ true → host_part_of (lower s) ≡ Some (HostPart.Exact (lower s))
spelt_exact s h = exact_host (lower s) (is_name-lower s h) ∙ ap (λ x. Some (HostPart.Exact x)) (lower-lower s)

any_host : host_part_of (codes "*") ≡ Some HostPart.Any
unfolding host_part_of
any_host = refl

pub host_spelt : (text : List ℕ) (host_part : HostPart) → host_part_of text ≡ Some host_part → host_part_of (host_spelling host_part) ≡ Some host_part
unfolding host_part_of
host_spelt text host_part e =
    let Spelt : HostPart → Type 0 = λ part. host_part_of (host_spelling part) ≡ Some part in
    let exact = if is_name text then Some (HostPart.Exact (lower text)) else None in
    let under = if starts_with nat_eq text (codes "*.") && is_name (drop 2 text) then Some (HostPart.Under (lower (drop 2 text))) else exact in
    elim (chosen (bytes_eq text (codes "*")) (Some HostPart.Any) under host_part e) [
      | inl one ↦ let is : HostPart.Any ≡ host_part = cc in subst Spelt is any_host
      | inr two ↦
          elim (chosen (starts_with nat_eq text (codes "*.") && is_name (drop 2 text)) (Some (HostPart.Under (lower (drop 2 text)))) exact host_part two.1) [
            | inl three ↦ let is : HostPart.Under (lower (drop 2 text)) ≡ host_part = cc in subst Spelt is (spelt_under (drop 2 text) (grind (arith, three.0)))
            | inr four ↦
                elim (chosen (is_name text) (Some (HostPart.Exact (lower text))) None host_part four.1) [
                  | inl five ↦ let is : HostPart.Exact (lower text) ≡ host_part = cc in subst Spelt is (spelt_exact text five.0)
                  | inr six ↦ cc
                ]
          ]
    ]
