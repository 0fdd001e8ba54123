-- The header lines of policies read back to the policies.
use Rattle.std.proofs.Common.{arith, ◌≡◌, ◌≢◌, ◌∙◌, sym, ap, refl, subst, ℕ, zero, suc, ◌+◌, ◌-◌, ◌==◌, Bool, true, false, not, ◌||◌, if◌then◌else◌, List, [], ◌∷◌, ◌++◌, length, map, codes, append-nil, append_assoc, nat_lt, All, AllPairs, Some, None, Ok}
use Rattle.std.specs.Prelude.{slice_index}
use Rattle.std.specs.Char.{is_ascii_control, is_ascii_whitespace}
use Rattle.std.specs.List.{filter, filter_map, cons_option, flat_map, join_by, list_all, position_from}
use Rattle.std.specs.Str.Lines.{strip_carriage_return}
use Rattle.std.proofs.lemmas.Bool.{and_parts, and_from, cond-true, cond-false, eqb-true, false≢true, false_from_ne_true, le-ltb}
use Rattle.std.proofs.lemmas.List.Elements.{All-nil, All-cons, All-head, All-tail, All-append, All-weaker}
use Rattle.std.proofs.lemmas.List.Splits.{slice_split_none, slice_split_at}
use Rattle.std.proofs.lemmas.Slice.Eq.{bytes_eq-Decides}
use Rattle.csp_model.specs.Ascii.{is_ascii_text, words, split_at}
use Rattle.csp_model.specs.Reading.{source_of}
use Rattle.csp_model.specs.Policies.{Bad, Header, directive_of_words, directive_of, directives_of, directive_text, firsts, is_bad, is_field_name, is_field_value, is_for_meta, is_token_char, line_of, longest_text, policies, policies_in, policies_of, policy_limit, policy_text, policy_with, same_name, text_limit, token_count, token_limit, without_status, first_bad, IsReadable}
use Rattle.csp_model.specs.Verdict.{is_enforce}
use Rattle.csp_policy.specs.Types.{Directive, Disposition, Policy, PolicyList, Source, Origin}
use Rattle.csp_model.specs.declared.policy.Disposition.TheVariants.{Enforce, Report}
use Rattle.csp_model.proofs.WordLaws.{IsSolid, words-space, one_word, word_before}
use Rattle.csp_policy.specs.HeaderLines.{header_name, header_line, header_lines, is_word_char, IsWord, IsPrintableDirective, IsPrintable}
use Rattle.csp_policy.specs.Refusal.{excess, list_of, refusal_at, unless_refused}
use Rattle.csp_policy.proofs.Joined.{joined}
use Rattle.csp_policy.proofs.LinesSoFar.{says}
use Rattle.csp_policy.proofs.NamedHeader.{header_found}
use Rattle.csp_policy.proofs.Readable.{AreOthers, HasRead}

-- Bytes of a printed policy

-- what reading asks of a byte of a printed policy
record Prints (meta : Bool) (c : ℕ) : Type 0 where
  ascii : nat_lt c 128 ≡ true
  value : (c == 9 || not (is_ascii_control c)) ≡ true
  no_feed : (c == 10) ≡ false
  no_return : (c == 13) ≡ false
  no_comma : meta ≡ false → (c == 44) ≡ false

pub apart : (P : ℕ → Bool) (c d : ℕ) → P c ≡ true → P d ≡ false → (c == d) ≡ false
apart P c d passes fails = false_from_ne_true (c == d) (λ same. false≢true (sym fails ∙ ap P (sym (eqb-true c d same)) ∙ passes))

or_second : (a b : Bool) → b ≡ true → (a || b) ≡ true
or_second true b is = refl
or_second false b is = is

word_prints : (meta : Bool) (c : ℕ) → is_word_char meta c ≡ true → Prints meta c
word_prints meta c is =
    let one = and_parts (nat_lt c 128) _ is in
    let two = and_parts (not (is_ascii_whitespace c)) _ one.1 in
    let three = and_parts (not (is_ascii_control c)) _ two.1 in
    record {
      ascii = one.0;
      value = or_second (c == 9) (not (is_ascii_control c)) three.0;
      no_feed = apart (is_word_char meta) c 10 is refl;
      no_return = apart (is_word_char meta) c 13 is refl;
      no_comma = λ header. apart (is_word_char false) c 44 (subst (λ (m : Bool). is_word_char m c ≡ true) header is) refl;
    }

space_prints : (meta : Bool) → Prints meta 32
space_prints meta = record { ascii = refl; value = refl; no_feed = refl; no_return = refl; no_comma = λ header. refl }

semicolon_prints : (meta : Bool) → Prints meta 59
semicolon_prints meta = record { ascii = refl; value = refl; no_feed = refl; no_return = refl; no_comma = λ header. refl }

text_prints : (meta : Bool) (text : List ℕ) → IsWord meta text → All (Prints meta) text
text_prints meta text is = All-weaker (λ c. is_word_char meta c ≡ true) (Prints meta) (word_prints meta) text is.1

behind_space : (meta : Bool) (text : List ℕ) → IsWord meta text → All (Prints meta) (32 ∷ text)
behind_space meta text is = All-cons (Prints meta) 32 text (space_prints meta) (text_prints meta text is)

pub all_flat : {A B : Type 0} (P : B → Type 0) (Q : A → Type 0) (f : A → List B) → ((x : A) → Q x → All P (f x)) → (xs : List A) → All Q xs → All P (flat_map f xs)
all_flat P Q f each [] all = All-nil P
all_flat P Q f each (x ∷ xs) all = All-append P (f x) (flat_map f xs) (each x (All-head Q x xs all)) (all_flat P Q f each xs (All-tail Q x xs all))

-- a name and its tokens
joined_prints : (meta : Bool) (name : List ℕ) (tokens : List (List ℕ)) → All (IsWord meta) (name ∷ tokens) → All (Prints meta) (name ++ flat_map (λ y. 32 ∷ y) tokens)
joined_prints meta name tokens all =
    All-append (Prints meta) name _ (text_prints meta name (All-head (IsWord meta) name tokens all))
    (all_flat (Prints meta) (IsWord meta) (λ y. 32 ∷ y) (behind_space meta) tokens (All-tail (IsWord meta) name tokens all))

directive_prints : (meta : Bool) (d : Directive) → IsPrintableDirective meta d → All (Prints meta) (directive_text d)
directive_prints meta d is = subst (All (Prints meta)) (sym (joined 32 d.name d.tokens)) (joined_prints meta d.name d.tokens is.words)

-- a directive's text, behind a space
abbrev spaced : Directive → List ℕ
spaced d = 32 ∷ directive_text d

spaced_prints : (meta : Bool) (d : Directive) → IsPrintableDirective meta d → All (Prints meta) (spaced d)
spaced_prints meta d is = All-cons (Prints meta) 32 (directive_text d) (space_prints meta) (directive_prints meta d is)

behind_semicolon : (meta : Bool) (d : Directive) → IsPrintableDirective meta d → All (Prints meta) (59 ∷ spaced d)
behind_semicolon meta d is = All-cons (Prints meta) 59 (spaced d) (semicolon_prints meta) (spaced_prints meta d is)

directives_print : (meta : Bool) (d : Directive) (ds : List Directive) → All (IsPrintableDirective meta) (d ∷ ds) → All (Prints meta) (spaced d ++ flat_map (λ e. 59 ∷ spaced e) ds)
directives_print meta d ds all =
    All-append (Prints meta) (spaced d) _ (spaced_prints meta d (All-head (IsPrintableDirective meta) d ds all))
    (all_flat (Prints meta) (IsPrintableDirective meta) (λ e. 59 ∷ spaced e) (behind_semicolon meta) ds (All-tail (IsPrintableDirective meta) d ds all))

-- Directives

word_solid : (meta : Bool) (text : List ℕ) → IsWord meta text → IsSolid text
word_solid meta text is =
    All-weaker (λ c. is_word_char meta c ≡ true) (λ c. is_ascii_whitespace c ≡ false)
    (λ c passes. let parts = and_parts (not (is_ascii_whitespace c)) _ (and_parts (nat_lt c 128) _ passes).1 in not_true _ parts.0) text is.1 where
      not_true : (b : Bool) → not b ≡ true → b ≡ false
      not_true true is = cc is
      not_true false is = refl

words_joined : (meta : Bool) (x : List ℕ) (xs : List (List ℕ)) → All (IsWord meta) (x ∷ xs) → words (x ++ flat_map (λ y. 32 ∷ y) xs) ≡ x ∷ xs
words_joined meta x [] all =
    let is = All-head (IsWord meta) x [] all in
    ap words (append-nil x) ∙ one_word x is.0 (word_solid meta x is)
words_joined meta x (y ∷ xs) all =
    let is = All-head (IsWord meta) x (y ∷ xs) all in
    word_before x 32 (y ++ flat_map (λ y. 32 ∷ y) xs) is.0 (word_solid meta x is) refl
    ∙ ap (λ ws. x ∷ ws) (words_joined meta y xs (All-tail (IsWord meta) x (y ∷ xs) all))

all_pass : {A : Type 0} (p : A → Bool) (xs : List A) → All (λ x. p x ≡ true) xs → list_all p xs ≡ true
all_pass p [] all = refl
all_pass p (x ∷ xs) all = and_from (p x) (list_all p xs) (All-head (λ x. p x ≡ true) x xs all) (all_pass p xs (All-tail (λ x. p x ≡ true) x xs all))

abbrev made : List ℕ → List (List ℕ) → List Source → Directive
made name tokens sources = record { name = name; tokens = tokens; sources = sources }

directive_back : (meta : Bool) (d : Directive) → IsPrintableDirective meta d → HasRead d → directive_of (spaced d) ≡ Some d
unfolding directive_of
directive_back meta d is read =
    let ascii : is_ascii_text (spaced d) ≡ true = all_pass (λ b. nat_lt b 128) (spaced d) (All-weaker (Prints meta) (λ b. nat_lt b 128 ≡ true) (λ b prints. prints.ascii) (spaced d) (spaced_prints meta d is)) in
    let found : words (spaced d) ≡ d.name ∷ d.tokens = words-space 32 (directive_text d) refl ∙ ap words (joined 32 d.name d.tokens) ∙ words_joined meta d.name d.tokens is.words in
    ap (λ (b : Bool). if b then directive_of_words (words (spaced d)) else None) ascii
    ∙ ap directive_of_words found
    ∙ ap (λ (name : List ℕ). Some (made name d.tokens (map source_of d.tokens))) is.lower_case
    ∙ ap (λ (sources : List Source). Some (made d.name d.tokens sources)) (sym read)

each_back : (meta : Bool) (ds : List Directive) → All (IsPrintableDirective meta) ds → All HasRead ds → filter_map directive_of (map spaced ds) ≡ ds
each_back meta [] all read = refl
each_back meta (d ∷ ds) all read =
    ap (λ o. cons_option o (filter_map directive_of (map spaced ds))) (directive_back meta d (All-head (IsPrintableDirective meta) d ds all) (All-head HasRead d ds read))
    ∙ ap (λ es. d ∷ es) (each_back meta ds (All-tail (IsPrintableDirective meta) d ds all) (All-tail HasRead d ds read))

-- no semicolon stands in a directive

word_apart : (meta : Bool) (text : List ℕ) → IsWord meta text → All (λ c. (c == 59) ≡ false) text
word_apart meta text is = All-weaker (λ c. is_word_char meta c ≡ true) (λ c. (c == 59) ≡ false) (λ c passes. apart (is_word_char meta) c 59 passes refl) text is.1

spaced_apart : (meta : Bool) (d : Directive) → IsPrintableDirective meta d → All (λ c. (c == 59) ≡ false) (spaced d)
spaced_apart meta d is =
    let P = λ (c : ℕ). (c == 59) ≡ false in
    let words = is.words in
    All-cons P 32 (directive_text d) refl (subst (All P) (sym (joined 32 d.name d.tokens))
    (All-append P d.name (flat_map (λ y. 32 ∷ y) d.tokens) (word_apart meta d.name (All-head (IsWord meta) d.name d.tokens words))
    (all_flat P (IsWord meta) (λ y. 32 ∷ y) (λ y word. All-cons P 32 y refl (word_apart meta y word)) d.tokens (All-tail (IsWord meta) d.name d.tokens words))))

pieces_back : (meta : Bool) (d : Directive) (ds : List Directive) → All (IsPrintableDirective meta) (d ∷ ds) → split_at 59 (spaced d ++ flat_map (λ e. 59 ∷ spaced e) ds) ≡ map spaced (d ∷ ds)
pieces_back meta d [] all =
    ap (split_at 59) (append-nil (spaced d)) ∙ slice_split_none (λ c. c == 59) (spaced d) (spaced_apart meta d (All-head (IsPrintableDirective meta) d [] all))
pieces_back meta d (e ∷ ds) all =
    slice_split_at (λ c. c == 59) (spaced d) 59 (spaced e ++ flat_map (λ e. 59 ∷ spaced e) ds) (spaced_apart meta d (All-head (IsPrintableDirective meta) d (e ∷ ds) all)) refl
    ∙ ap (λ pieces. spaced d ∷ pieces) (pieces_back meta e ds (All-tail (IsPrintableDirective meta) d (e ∷ ds) all))

others_stay : (d : Directive) (ds : List Directive) → All (AreOthers d) ds → filter (λ e. not (same_name e d)) ds ≡ ds
others_stay d [] all = refl
others_stay d (e ∷ ds) all =
    let other : same_name e d ≡ false = false_from_ne_true (same_name e d) (λ same. All-head (AreOthers d) e ds all (sym ((bytes_eq-Decides e.name d.name).0 same))) in
    cond-true _ _ _ (ap not other) ∙ ap (λ es. e ∷ es) (others_stay d ds (All-tail (AreOthers d) e ds all))

firsts_stay : (ds : List Directive) → AllPairs AreOthers ds → firsts ds ≡ ds
firsts_stay [] differ = refl
firsts_stay (d ∷ ds) differ =
    ap (λ es. d ∷ filter (λ e. not (same_name e d)) es) (firsts_stay ds (λ i j e low within. differ (suc i) (suc j) e (omega (arith, low)) (omega (arith, within))))
    ∙ ap (λ es. d ∷ es) (others_stay d ds (λ k e within. differ zero (suc k) e (omega arith) (omega (arith, within))))

-- The text of a policy

-- directives as a policy's text, behind a space
abbrev value_of : List Directive → List ℕ
value_of ds = 32 ∷ join_by directive_text (codes "; ") ds

value_prints : (meta : Bool) (ds : List Directive) → All (IsPrintableDirective meta) ds → All (Prints meta) (value_of ds)
value_prints meta [] all = All-cons (Prints meta) 32 [] (space_prints meta) (All-nil (Prints meta))
value_prints meta (d ∷ ds) all = directives_print meta d ds all

value_back : (meta : Bool) (ds : List Directive) → ds ≢ [] → All (IsPrintableDirective meta) ds → All HasRead ds → AllPairs AreOthers ds → directives_of (value_of ds) ≡ ds
value_back meta [] some all read differ = absurd (some refl)
value_back meta (d ∷ ds) some all read differ =
    ap (λ pieces. firsts (filter_map directive_of pieces)) (pieces_back meta d ds all) ∙ ap firsts (each_back meta (d ∷ ds) all read) ∙ firsts_stay (d ∷ ds) differ

value_passes : (meta : Bool) (ds : List Directive) → All (IsPrintableDirective meta) ds → is_field_value (value_of ds) ≡ true
unfolding is_field_value
value_passes meta ds all =
    all_pass (λ c. c == 9 || not (is_ascii_control c)) (value_of ds)
    (All-weaker (Prints meta) (λ c. (c == 9 || not (is_ascii_control c)) ≡ true) (λ c prints. prints.value) (value_of ds) (value_prints meta ds all))

-- Headers

abbrev name_for : Bool → Disposition → List ℕ
name_for meta disposition =
    if meta then codes "Meta-Content-Security-Policy"
    else if is_enforce disposition then codes "Content-Security-Policy"
    else codes "Content-Security-Policy-Report-Only"

abbrev policy_made : Origin → Disposition → Bool → List Directive → Policy
policy_made origin disposition meta ds = record { disposition = disposition; meta = meta; origin = origin; directives = ds }

with_some : (origin : Origin) (disposition : Disposition) (meta : Bool) (ds : List Directive) → ds ≢ []
    → policy_with origin disposition meta ds ≡ policy_made origin disposition meta ds ∷ []
with_some origin disposition meta [] some = absurd (some refl)
with_some origin disposition meta (d ∷ ds) some = refl

filter_stays : {A : Type 0} (p : A → Bool) (xs : List A) → All (λ x. p x ≡ true) xs → filter p xs ≡ xs
filter_stays p [] all = refl
filter_stays p (x ∷ xs) all = cond-true _ _ _ (All-head (λ x. p x ≡ true) x xs all) ∙ ap (λ ys. x ∷ ys) (filter_stays p xs (All-tail (λ x. p x ≡ true) x xs all))

-- what a header of this kind says
said_by : (origin : Origin) (meta : Bool) (disposition : Disposition) (value : List ℕ) (ps : List Policy) → (meta ≡ false → policies_in origin disposition value ≡ ps)
    → (meta ≡ true → policy_with origin Enforce true (filter is_for_meta (directives_of value)) ≡ ps) → policies_of origin (Header (name_for meta disposition) value) ≡ ps
said_by origin true disposition value ps header meta = meta refl
said_by origin false Enforce value ps header meta = header refl
said_by origin false Report value ps header meta = header refl

header_back : (origin : Origin) (p : Policy) → IsPrintable origin p → p.meta ≡ false → policies_in origin p.disposition (value_of p.directives) ≡ p ∷ []
header_back origin p is header =
    let value = value_of p.directives in
    let whole : split_at 44 value ≡ value ∷ [] = slice_split_none (λ c. c == 44) value
    (All-weaker (Prints p.meta) (λ c. (c == 44) ≡ false) (λ c prints. prints.no_comma header) value (value_prints p.meta p.directives is.directives)) in
    ap (flat_map (λ piece. policy_with origin p.disposition false (directives_of piece))) whole
    ∙ append-nil (policy_with origin p.disposition false (directives_of value))
    ∙ ap (policy_with origin p.disposition false) (value_back p.meta p.directives is.readable.some is.directives is.readable.read is.readable.distinct)
    ∙ with_some origin p.disposition false p.directives is.readable.some
    ∙ ap (λ (o : Origin). policy_made o p.disposition false p.directives ∷ []) (sym is.of_origin)
    ∙ ap (λ (m : Bool). policy_made p.origin p.disposition m p.directives ∷ []) (sym header)

meta_back : (origin : Origin) (p : Policy) → IsPrintable origin p → p.meta ≡ true → policy_with origin Enforce true (filter is_for_meta (directives_of (value_of p.directives))) ≡ p ∷ []
meta_back origin p is meta =
    ap (λ (ds : List Directive). policy_with origin Enforce true (filter is_for_meta ds)) (value_back p.meta p.directives is.readable.some is.directives is.readable.read is.readable.distinct)
    ∙ ap (policy_with origin Enforce true) (filter_stays is_for_meta p.directives (is.for_meta meta))
    ∙ with_some origin Enforce true p.directives is.readable.some
    ∙ ap (λ (o : Origin). policy_made o Enforce true p.directives ∷ []) (sym is.of_origin)
    ∙ ap (λ (m : Bool). policy_made p.origin Enforce m p.directives ∷ []) (sym meta)
    ∙ ap (λ (d : Disposition). policy_made p.origin d p.meta p.directives ∷ []) (sym (is.enforced meta))

policy_back : (origin : Origin) (p : Policy) → IsPrintable origin p → policies_of origin (Header (header_name p) (value_of p.directives)) ≡ p ∷ []
policy_back origin p is = said_by origin p.meta p.disposition (value_of p.directives) (p ∷ []) (header_back origin p is) (meta_back origin p is)

-- Lines

-- a header line without its end
abbrev body : Policy → List ℕ
body p = header_name p ++ (58 ∷ value_of p.directives)

line_back : (meta : Bool) (disposition : Disposition) (value : List ℕ) → is_field_value value ≡ true
    → line_of (name_for meta disposition ++ (58 ∷ value)) ≡ Header (name_for meta disposition) value
unfolding line_of is_field_name is_token_char
line_back true disposition value passes =
    header_found (name_for true disposition ++ (58 ∷ value)) value refl ∙ ap (λ b. if b then Header (name_for true disposition) value else Bad) passes
line_back false Enforce value passes =
    header_found (name_for false Enforce ++ (58 ∷ value)) value refl ∙ ap (λ b. if b then Header (name_for false Enforce) value else Bad) passes
line_back false Report value passes =
    header_found (name_for false Report ++ (58 ∷ value)) value refl ∙ ap (λ b. if b then Header (name_for false Report) value else Bad) passes

pub all_from : {A : Type 0} (p : A → Bool) (xs : List A) → list_all p xs ≡ true → All (λ x. p x ≡ true) xs
all_from p [] passes = All-nil (λ x. p x ≡ true)
all_from p (x ∷ xs) passes = let parts = and_parts (p x) (list_all p xs) passes in All-cons (λ x. p x ≡ true) x xs parts.0 (all_from p xs parts.1)

name_passes : (meta : Bool) (disposition : Disposition) → list_all (is_word_char false) (name_for meta disposition) ≡ true
name_passes true disposition = refl
name_passes false Enforce = refl
name_passes false Report = refl

body_each : (P : ℕ → Type 0) → ((meta : Bool) (c : ℕ) → Prints meta c → P c) → P 58 → (p : Policy) → All (IsPrintableDirective p.meta) p.directives → All P (body p)
body_each P each colon p all =
    let name = All-weaker (λ c. is_word_char false c ≡ true) P (λ c passes. each false c (word_prints false c passes)) (header_name p) (all_from (is_word_char false) (header_name p) (name_passes p.meta p.disposition)) in
    let value = All-weaker (Prints p.meta) P (each p.meta) (value_of p.directives) (value_prints p.meta p.directives all) in
    All-append P (header_name p) (58 ∷ value_of p.directives) name (All-cons P 58 (value_of p.directives) colon value)

no_strip : (text : List ℕ) → All (λ c. (c == 13) ≡ false) text → strip_carriage_return text ≡ text
no_strip [] all = refl
no_strip (c ∷ text) all =
    let last : (slice_index (c ∷ text) (length (c ∷ text) - 1) == 13) ≡ false = all (length (c ∷ text) - 1) 0 (omega arith) in
    cond-false _ _ _ last

line_said : (origin : Origin) (p : Policy) → IsPrintable origin p → line_of (strip_carriage_return (body p)) ≡ Header (header_name p) (value_of p.directives)
line_said origin p is =
    ap line_of (no_strip (body p) (body_each (λ c. (c == 13) ≡ false) (λ meta c prints. prints.no_return) refl p is.directives))
    ∙ line_back p.meta p.disposition (value_of p.directives) (value_passes p.meta p.directives is.directives)

line_cut : (p : Policy) (rest : List ℕ) → header_line p ++ rest ≡ body p ++ 10 ∷ rest
line_cut p rest =
    append_assoc (header_name p) (58 ∷ 32 ∷ (policy_text p ++ 10 ∷ [])) rest
    ∙ ap (λ s. header_name p ++ (58 ∷ 32 ∷ s)) (append_assoc (policy_text p) (10 ∷ []) rest)
    ∙ sym (append_assoc (header_name p) (58 ∷ value_of p.directives) (10 ∷ rest))

lines_split : (origin : Origin) (p : Policy) (rest : List ℕ) → IsPrintable origin p → split_at 10 (header_line p ++ rest) ≡ body p ∷ split_at 10 rest
lines_split origin p rest is =
    ap (split_at 10) (line_cut p rest)
    ∙ slice_split_at (λ c. c == 10) (body p) 10 rest (body_each (λ c. (c == 10) ≡ false) (λ meta c prints. prints.no_feed) refl p is.directives) refl

-- Blocks

said_first : (origin : Origin) (p : Policy) (rest : List ℕ) → IsPrintable origin p → says (split_at 10 (header_line p ++ rest)) ≡ Header (header_name p) (value_of p.directives) ∷ says (split_at 10 rest)
said_first origin p rest is = ap says (lines_split origin p rest is) ∙ ap (λ line. line ∷ says (split_at 10 rest)) (line_said origin p is)

policies_said : (origin : Origin) (ps : List Policy) → All (IsPrintable origin) ps → flat_map (policies_of origin) (says (split_at 10 (header_lines ps))) ≡ ps
unfolding line_of
policies_said origin [] all = refl
policies_said origin (p ∷ ps) all =
    let is = All-head (IsPrintable origin) p ps all in
    ap (flat_map (policies_of origin)) (said_first origin p (header_lines ps) is)
    ∙ ap (λ qs. qs ++ flat_map (policies_of origin) (says (split_at 10 (header_lines ps)))) (policy_back origin p is)
    ∙ ap (λ qs. p ∷ qs) (policies_said origin ps (All-tail (IsPrintable origin) p ps all))

none_bad : (origin : Origin) (n : ℕ) (ps : List Policy) → All (IsPrintable origin) ps → position_from is_bad n (says (split_at 10 (header_lines ps))) ≡ None
unfolding line_of
none_bad origin n [] all = refl
none_bad origin n (p ∷ ps) all =
    ap (position_from is_bad n) (said_first origin p (header_lines ps) (All-head (IsPrintable origin) p ps all))
    ∙ none_bad origin (n + 1) ps (All-tail (IsPrintable origin) p ps all)

no_status : (meta : Bool) (disposition : Disposition) (text rest : List ℕ) → without_status ((name_for meta disposition ++ text) ++ rest) ≡ (name_for meta disposition ++ text) ++ rest
no_status true disposition text rest = refl
no_status false Enforce text rest = refl
no_status false Report text rest = refl

whole_block : (ps : List Policy) → without_status (header_lines ps) ≡ header_lines ps
whole_block [] = refl
whole_block (p ∷ ps) = no_status p.meta p.disposition (codes ": " ++ (policy_text p ++ codes "\n")) (header_lines ps)

within_limits : (list : PolicyList) → IsReadable list → excess list.policies ≡ None
within_limits list is =
    cond-false _ _ _ (le-ltb policy_limit (length list.policies) is.policies) ∙ cond-false _ _ _ (le-ltb token_limit (token_count list.policies) is.tokens)
    ∙ cond-false _ _ _ (le-ltb text_limit (longest_text list.policies) is.texts)

pub read_back : (origin : Origin) (list : PolicyList) → IsReadable list → All (IsPrintable origin) list.policies → list_of (header_lines list.policies) origin ≡ Ok list
read_back origin list is all =
    let ps = list.policies in
    let good : first_bad (header_lines ps) ≡ None = ap (λ b. position_from is_bad 1 (says (split_at 10 b))) (whole_block ps) ∙ none_bad origin 1 ps all in
    let same : policies (header_lines ps) origin ≡ ps = ap (λ b. flat_map (policies_of origin) (says (split_at 10 b))) (whole_block ps) ∙ policies_said origin ps all in
    ap (λ o. unless_refused (refusal_at o (policies (header_lines ps) origin)) (policies (header_lines ps) origin)) good
    ∙ ap (λ qs. unless_refused (excess qs) qs) same ∙ ap (λ o. unless_refused o ps) (within_limits list is)
