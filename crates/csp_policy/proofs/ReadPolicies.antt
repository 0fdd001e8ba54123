-- What reading gives can be printed as lines of a header block.
use Rattle.std.proofs.Common.{arith, ◌≡◌, ◌∙◌, sym, ap, refl, subst, ℕ, ◌<◌, ◌==◌, Bool, true, false, not, ◌&&◌, ◌||◌, if◌then◌else◌, List, [], ◌∷◌, length, map, codes, nat_lt, inl, inr, All, Some, None}
use Rattle.std.specs.Prelude.{Option}
use Rattle.std.specs.Char.{is_ascii_control, is_ascii_whitespace, to_ascii_lowercase}
use Rattle.std.specs.List.{filter, filter_map, cons_option, flat_map, onto_first, slice_split}
use Rattle.std.specs.Str.{bytes_eq}
use Rattle.std.proofs.lemmas.Bool.{agree_below_at, and_from, and_parts, cases_Bool, cond-true, cond-false, ltb-true}
use Rattle.std.proofs.lemmas.Bool.Decides.{nat_tests}
use Rattle.std.proofs.lemmas.List.{length-map}
use Rattle.std.proofs.lemmas.List.Elements.{All-nil, All-cons, All-head, All-tail, All-append, All-filter, All-map, All-weaker, filter_passes}
use Rattle.csp_model.specs.Ascii.{is_ascii_text, is_nonempty, lower, split_at, words}
use Rattle.csp_model.specs.Policies.{Line, Skipped, Bad, Header, directive_of, directive_of_words, directives_of, firsts, header_at, header_of, is_field_value, is_for_meta, line_of, lines_of, policies, policies_in, policies_of, policy_with, without_status, IsReadablePolicy}
use Rattle.csp_model.specs.Validity.{IsValidOrigin}
use Rattle.csp_policy.specs.Types.{Directive, Disposition, Policy, Origin}
use Rattle.csp_model.specs.declared.policy.Disposition.TheVariants.{Enforce, Report}
use Rattle.csp_policy.specs.HeaderLines.{is_word_char, IsWord, IsPrintableDirective, IsPrintable}
use Rattle.csp_policy.proofs.PrintedLines.{all_flat, all_from, apart}
use Rattle.csp_policy.proofs.Readable.{policies_readable}

all_both : {A : Type 0} (P Q : A → Type 0) (xs : List A) → All P xs → All Q xs → All (λ x. P x × Q x) xs
all_both P Q xs one other = λ k d within. (one k d within, other k d within)

-- Parts between bytes

onto_each : (P : ℕ → Type 0) (c : ℕ) (parts : List (List ℕ)) → P c → All (All P) parts → All (All P) (onto_first c parts)
onto_each P c [] is all = All-cons (All P) (c ∷ []) [] (All-cons P c [] is (All-nil P)) (All-nil (All P))
onto_each P c (part ∷ parts) is all =
    All-cons (All P) (c ∷ part) parts (All-cons P c part is (All-head (All P) part parts all)) (All-tail (All P) part parts all)

-- a byte of a part is one of the text, and not one at which the text is cut
part_of : (P : ℕ → Type 0) (q : ℕ → Bool) (text : List ℕ) → All P text → All (All (λ c. P c × (q c ≡ false))) (slice_split q text)
part_of P q [] all = All-cons (All (λ c. P c × (q c ≡ false))) [] [] (All-nil (λ c. P c × (q c ≡ false))) (All-nil (All (λ c. P c × (q c ≡ false))))
part_of P q (c ∷ text) all =
    let R = λ (c : ℕ). P c × (q c ≡ false) in
    let rest = part_of P q text (All-tail P c text all) in
    elim (cases_Bool (q c)) [
      | inl cut ↦ subst (All (All R)) (sym (cond-true _ _ _ cut)) (All-cons (All R) [] (slice_split q text) (All-nil R) rest)
      | inr kept ↦ subst (All (All R)) (sym (cond-false _ _ _ kept)) (onto_each R c (slice_split q text) (All-head P c text all, kept) rest)
    ]

-- Words

-- a byte of a value between commas, or of a meta element's content
abbrev InValue : Bool → ℕ → Type 0
InValue meta c = ((c == 9 || not (is_ascii_control c)) ≡ true) × ((meta || not (c == 44)) ≡ true)

-- between semicolons too
abbrev InPiece : Bool → ℕ → Type 0
InPiece meta c = InValue meta c × ((c == 59) ≡ false)

no_control : (a b : Bool) → (a || b) ≡ true → a ≡ false → b ≡ true
no_control true b is none = cc none
no_control false b is none = is

in_word : (meta : Bool) (c : ℕ) → InPiece meta c → nat_lt c 128 ≡ true → is_ascii_whitespace c ≡ false → is_word_char meta c ≡ true
in_word meta c is ascii solid =
    let not_space : not (is_ascii_whitespace c) ≡ true = ap not solid in
    let control = no_control (c == 9) (not (is_ascii_control c)) is.0.0 (apart (λ (b : ℕ). not (is_ascii_whitespace b)) c 9 not_space refl) in
    and_from _ _ ascii (and_from _ _ not_space (and_from _ _ control (and_from _ _ (ap not is.1) is.0.1)))

some_word : (meta : Bool) (text : List ℕ) → All (λ c. (InPiece meta c × (nat_lt c 128 ≡ true)) × (is_ascii_whitespace c ≡ false)) text → is_nonempty text ≡ true → IsWord meta text
some_word meta text all some = (
  ltb-true 0 (length text) some,
  All-weaker (λ c. (InPiece meta c × (nat_lt c 128 ≡ true)) × (is_ascii_whitespace c ≡ false)) (λ c. is_word_char meta c ≡ true) (λ c is. in_word meta c is.0.0 is.0.1 is.1) text all,
)

words_are : (meta : Bool) (piece : List ℕ) → All (InPiece meta) piece → is_ascii_text piece ≡ true → All (IsWord meta) (words piece)
words_are meta piece all ascii =
    let P = λ (c : ℕ). InPiece meta c × (nat_lt c 128 ≡ true) in
    let R = λ (c : ℕ). P c × (is_ascii_whitespace c ≡ false) in
    let parts = slice_split is_ascii_whitespace piece in
    let each = part_of P is_ascii_whitespace piece (all_both (InPiece meta) (λ c. nat_lt c 128 ≡ true) piece all (all_from (λ c. nat_lt c 128) piece ascii)) in
    All-weaker (λ (text : List ℕ). All R text × (is_nonempty text ≡ true)) (IsWord meta) (λ text is. some_word meta text is.0 is.1) (words piece)
    (all_both (All R) (λ (text : List ℕ). is_nonempty text ≡ true) (words piece) (All-filter is_nonempty (All R) parts each) (filter_passes is_nonempty parts))

-- Names

implied : (b c : Bool) → (not b || c) ≡ true → b ≡ true → c ≡ true
implied true c either is = either
implied false c either is = cc is

small : (meta : Bool) (c : ℕ) → is_word_char meta c ≡ true → c < 128
small meta c is = ltb-true c 128 (and_parts (nat_lt c 128) _ is).0

low_char : (meta : Bool) (c : ℕ) → is_word_char meta c ≡ true → is_word_char meta (to_ascii_lowercase c) ≡ true
low_char true c is =
    implied (is_word_char true c) (is_word_char true (to_ascii_lowercase c)) (agree_below_at (λ b. not (is_word_char true b) || is_word_char true (to_ascii_lowercase b)) (λ b. true) 128 c refl (small true c is)) is
low_char false c is =
    implied (is_word_char false c) (is_word_char false (to_ascii_lowercase c)) (agree_below_at (λ b. not (is_word_char false b) || is_word_char false (to_ascii_lowercase b)) (λ b. true) 128 c refl (small false c is)) is

low_word : (meta : Bool) (text : List ℕ) → IsWord meta text → IsWord meta (lower text)
low_word meta text is =
    let long = length-map text to_ascii_lowercase in
    let some = is.0 in (
      omega (arith, long, some),
      All-map (λ c. is_word_char meta c ≡ true) to_ascii_lowercase text (All-weaker (λ c. is_word_char meta c ≡ true) (λ c. is_word_char meta (to_ascii_lowercase c) ≡ true) (low_char meta) text is.1),
    )

low_twice : (c : ℕ) → to_ascii_lowercase (to_ascii_lowercase c) ≡ to_ascii_lowercase c
low_twice c = grind (arith, nat_tests)

lower_twice : (text : List ℕ) → lower (lower text) ≡ lower text
lower_twice [] = refl
lower_twice (c ∷ text) = ap (λ d. d ∷ lower (lower text)) (low_twice c) ∙ ap (λ s. to_ascii_lowercase c ∷ s) (lower_twice text)

-- Directives

some_printable : (meta : Bool) (made d : Directive) → IsPrintableDirective meta made → Some made ≡ Some d → IsPrintableDirective meta d
some_printable meta made d is h = let e : made ≡ d = cc in subst (IsPrintableDirective meta) e is

words_printable : (meta : Bool) (ws : List (List ℕ)) (d : Directive) → All (IsWord meta) ws → directive_of_words ws ≡ Some d → IsPrintableDirective meta d
words_printable meta [] d all h = cc h
words_printable meta (w ∷ ws) d all h =
    some_printable meta _ d (record {
      lower_case = lower_twice w;
      words = All-cons (IsWord meta) (lower w) ws (low_word meta w (All-head (IsWord meta) w ws all)) (All-tail (IsWord meta) w ws all);
    }) h

piece_printable : (meta : Bool) (piece : List ℕ) (d : Directive) → All (InPiece meta) piece → directive_of piece ≡ Some d → IsPrintableDirective meta d
unfolding directive_of
piece_printable meta piece d all h = elim (is_ascii_text piece) as (λ b. is_ascii_text piece ≡ b → (if b then directive_of_words (words piece) else None) ≡ Some d → IsPrintableDirective meta d) [
  | true ↦ λ ascii k. words_printable meta (words piece) d (words_are meta piece all ascii) k
  | false ↦ λ ascii k. cc k
] refl h

pieces_printable : (meta : Bool) (pieces : List (List ℕ)) → All (All (InPiece meta)) pieces → All (IsPrintableDirective meta) (filter_map directive_of pieces)
pieces_printable meta [] all = All-nil (IsPrintableDirective meta)
pieces_printable meta (piece ∷ pieces) all =
    let rest = pieces_printable meta pieces (All-tail (All (InPiece meta)) piece pieces all) in
    elim (directive_of piece) as (λ found. directive_of piece ≡ found → All (IsPrintableDirective meta) (cons_option found (filter_map directive_of pieces))) [
      | Some d ↦ λ h. All-cons (IsPrintableDirective meta) d _ (piece_printable meta piece d (All-head (All (InPiece meta)) piece pieces all) h) rest
      | None ↦ λ h. rest
    ] refl

firsts_each : (P : Directive → Type 0) (ds : List Directive) → All P ds → All P (firsts ds)
firsts_each P [] all = all
firsts_each P (d ∷ ds) all = All-cons P d _ (All-head P d ds all) (All-filter _ P _ (firsts_each P ds (All-tail P d ds all)))

directives_printable : (meta : Bool) (value : List ℕ) → All (InValue meta) value → All (IsPrintableDirective meta) (directives_of value)
directives_printable meta value all =
    firsts_each (IsPrintableDirective meta) (filter_map directive_of (split_at 59 value)) (pieces_printable meta (split_at 59 value) (part_of (InValue meta) (λ c. c == 59) value all))

-- Policies

-- beside being readable
record IsSaid (origin : Origin) (p : Policy) : Type 0 where
  of_origin : p.origin ≡ origin
  directives : All (IsPrintableDirective p.meta) p.directives
  enforced : p.meta ≡ true → p.disposition ≡ Enforce
  for_meta : p.meta ≡ true → All (λ (d : Directive). is_for_meta d ≡ true) p.directives

said_with : (origin : Origin) (disposition : Disposition) (meta : Bool) (ds : List Directive) → All (IsPrintableDirective meta) ds → (meta ≡ true → disposition ≡ Enforce)
    → (meta ≡ true → All (λ (d : Directive). is_for_meta d ≡ true) ds) → All (IsSaid origin) (policy_with origin disposition meta ds)
said_with origin disposition meta [] all enforced for_meta = All-nil (IsSaid origin)
said_with origin disposition meta (d ∷ ds) all enforced for_meta =
    All-cons (IsSaid origin) _ [] (record { of_origin = refl; directives = all; enforced = enforced; for_meta = for_meta }) (All-nil (IsSaid origin))

abbrev IsValueChar : ℕ → Type 0
IsValueChar c = (c == 9 || not (is_ascii_control c)) ≡ true

in_header : (c : ℕ) → IsValueChar c × ((c == 44) ≡ false) → InValue false c
in_header c is = (is.0, ap not is.1)

header_said : (origin : Origin) (disposition : Disposition) (value : List ℕ) → All IsValueChar value → All (IsSaid origin) (policies_in origin disposition value)
header_said origin disposition value all =
    all_flat (IsSaid origin) (All (λ c. IsValueChar c × ((c == 44) ≡ false))) (λ piece. policy_with origin disposition false (directives_of piece))
    (λ piece is. said_with origin disposition false (directives_of piece) (directives_printable false piece (All-weaker (λ c. IsValueChar c × ((c == 44) ≡ false)) (InValue false) in_header piece is)) (λ meta. cc meta) (λ meta. cc meta))
    (split_at 44 value) (part_of IsValueChar (λ c. c == 44) value all)

meta_said : (origin : Origin) (value : List ℕ) → All IsValueChar value → All (IsSaid origin) (policy_with origin Enforce true (filter is_for_meta (directives_of value)))
meta_said origin value all =
    said_with origin Enforce true (filter is_for_meta (directives_of value))
    (All-filter is_for_meta (IsPrintableDirective true) (directives_of value) (directives_printable true value (All-weaker IsValueChar (InValue true) (λ c is. (is, refl)) value all)))
    (λ meta. refl) (λ meta. filter_passes is_for_meta (directives_of value))

one_of : (P : Policy → Type 0) (a b c : Bool) (xs ys zs : List Policy) → All P xs → All P ys → All P zs → All P (if a then xs else if b then ys else if c then zs else [])
one_of P true b c xs ys zs h k l = h
one_of P false true c xs ys zs h k l = k
one_of P false false true xs ys zs h k l = l
one_of P false false false xs ys zs h k l = All-nil P

-- Lines

abbrev IsGood : Line → Type 0
IsGood Skipped = Unit {0}
IsGood Bad = Unit {0}
IsGood (Header name value) = All IsValueChar value

good_header : (name value : List ℕ) (named : Bool) → IsGood (if named && is_field_value value then Header name value else Bad)
unfolding is_field_value
good_header name value false = tt
good_header name value true = elim (is_field_value value) as (λ b. is_field_value value ≡ b → IsGood (if b then Header name value else Bad)) [
  | true ↦ λ passes. all_from (λ c. c == 9 || not (is_ascii_control c)) value passes
  | false ↦ λ fails. tt
] refl

good_at : (text : List ℕ) (place : Option ℕ) → IsGood (header_at text place)
good_at text None = tt
good_at text (Some place) = good_header _ _ _

good_line : (text : List ℕ) → IsGood (line_of text)
unfolding line_of header_of
good_line [] = tt
good_line (c ∷ text) = good_at (c ∷ text) _

line_said : (origin : Origin) (line : Line) → IsGood line → All (IsSaid origin) (policies_of origin line)
line_said origin Skipped good = All-nil (IsSaid origin)
line_said origin Bad good = All-nil (IsSaid origin)
line_said origin (Header name value) good =
    one_of (IsSaid origin) (bytes_eq (lower name) (codes "content-security-policy")) (bytes_eq (lower name) (codes "content-security-policy-report-only"))
    (bytes_eq (lower name) (codes "meta-content-security-policy")) (policies_in origin Enforce value) (policies_in origin Report value)
    (policy_with origin Enforce true (filter is_for_meta (directives_of value)))
    (header_said origin Enforce value good) (header_said origin Report value good) (meta_said origin value good)

lines_said : (origin : Origin) (texts : List (List ℕ)) → All (IsSaid origin) (flat_map (policies_of origin) (map line_of texts))
lines_said origin [] = All-nil (IsSaid origin)
lines_said origin (text ∷ texts) = All-append (IsSaid origin) (policies_of origin (line_of text)) _ (line_said origin (line_of text) (good_line text)) (lines_said origin texts)

printable : (origin : Origin) (p : Policy) → IsReadablePolicy p × IsSaid origin p → IsPrintable origin p
printable origin p is = record {
  readable = is.0;
  of_origin = is.1.of_origin;
  directives = is.1.directives;
  enforced = is.1.enforced;
  for_meta = is.1.for_meta;
}

pub policies_printable : (bytes : List ℕ) (origin : Origin) → IsValidOrigin origin → All (IsPrintable origin) (policies bytes origin)
policies_printable bytes origin valid =
    All-weaker (λ p. IsReadablePolicy p × IsSaid origin p) (IsPrintable origin) (printable origin) (policies bytes origin)
    (all_both IsReadablePolicy (IsSaid origin) (policies bytes origin) (policies_readable bytes origin valid) (lines_said origin (lines_of (without_status bytes))))
