-- A learnt policy is one that a header line can say.
use Rattle.std.proofs.Common.{arith, ◌≡◌, ◌≢◌, ◌∙◌, sym, ap, refl, subst, ℕ, ◌+◌, ◌≤◌, Bool, true, false, not, ◌&&◌, List, [], ◌∷◌, ◌++◌, append-nil, length, max, codes, cond, nat_lt, All, AllPairs, Ok}
use Rattle.std.specs.Prelude.{decimal, nat_le}
use Rattle.std.specs.List.{cons_option, filter_map, flat_map, fold, list_all, sum_by}
use Rattle.std.specs.Str.{bytes_eq}
use Rattle.std.proofs.lemmas.Bool.{and_parts, and_from, false≢true}
use Rattle.std.proofs.lemmas.Bool.Decides.{nat_tests}
use Rattle.std.proofs.lemmas.List.Elements.{All-nil, All-cons, All-head, All-tail, All-append, All-weaker}
use Rattle.std.proofs.lemmas.List.Kept.{AllPairs-cons}
use Rattle.std.proofs.lemmas.List.Sums.{sum_by-cons}
use Rattle.std.proofs.lemmas.Slice.Eq.{bytes_eq-Decides}
use Rattle.csp_model.specs.Ascii.{lower}
use Rattle.csp_model.specs.Grammar.{is_scheme_char}
use Rattle.csp_model.specs.Names.{name_text}
use Rattle.csp_model.specs.Paths.{host_text}
use Rattle.csp_model.specs.Policies.{text_limit, token_count, longest_text, IsReadable, IsReadablePolicy}
use Rattle.csp_model.specs.Schemes.{scheme_text}
use Rattle.csp_model.specs.Validity.{IsValidCheck, IsValidOrigin, IsValidUrl}
use Rattle.csp_model.specs.declared.check.Check.{Check}
use Rattle.csp_model.specs.declared.name.Name.{Name}
use Rattle.csp_model.specs.declared.name.Name.TheVariants.{DefaultSrc}
use Rattle.csp_model.specs.declared.policy.Directive.{Directive}
use Rattle.csp_model.specs.declared.policy.Policy.{Policy}
use Rattle.csp_model.specs.declared.policy.PolicyList.{PolicyList}
use Rattle.csp_model.specs.declared.url.Origin.{Origin}
use Rattle.csp_model.specs.declared.url.Scheme.{Scheme}
use Rattle.csp_model.specs.declared.url.Scheme.TheVariants.{Http, Https, Ws, Wss, Ftp}
use Rattle.csp_model.specs.declared.url.Url.{Url}
use Rattle.csp_model.specs.declared.url.Url.TheVariants as url
use Rattle.csp_policy.specs.HeaderLines.{header_line, header_lines, is_word_char, IsWord, IsPrintable, IsPrintableDirective}
use Rattle.csp_policy.specs.Refusal.{list_of}
use Rattle.csp_policy.proofs.PrintedLines.{all_from}
use Rattle.csp_policy.proofs.Readable.{AreOthers, HasRead}
use Rattle.csp_learn.specs.Needs.{can_be_named, effective_port, has_named_host, need_limit, needed_token, needs_of}
use Rattle.csp_learn.specs.Policies.{default_none, directive_for, directive_of, fetch_directives, is_for, policy_for, tokens_for, where_needed}
use Rattle.csp_learn.specs.Printed.{ReadsBack}
use Rattle.csp_learn.specs.declared.need.Need.{Need}
use Rattle.csp_learn.proofs.AllowedSaid.{needs_pass}
use Rattle.csp_learn.proofs.Chosen.{all_chosen}
use Rattle.csp_learn.proofs.NeededTokens.{named_host, token_passes}

-- Words

-- a word that a policy file may have
abbrev fits : List ℕ → Bool
fits text = nat_lt 0 (length text) && (nat_le (length text) text_limit && list_all (is_word_char false) text)

scheme_char_is : (c : ℕ) → is_scheme_char c ≡ true → is_word_char false c ≡ true
unfolding is_scheme_char
scheme_char_is c h = grind (arith, nat_tests)

more_begins : (a b : List ℕ) → nat_lt 0 (length a) ≡ true → nat_lt 0 (length (a ++ b)) ≡ true
more_begins [] b h = absurd (false≢true h)
more_begins (c ∷ a) b h = grind arith

scheme_begins : (scheme : Scheme) → nat_lt 0 (length (scheme_text scheme)) ≡ true
scheme_begins Http = refl
scheme_begins Https = refl
scheme_begins Ws = refl
scheme_begins Wss = refl
scheme_begins Ftp = refl

token_begins : (there : Url) → nat_lt 0 (length (needed_token there)) ≡ true
token_begins (url.Plain []) = refl
token_begins (url.Plain (c ∷ scheme)) = more_begins (c ∷ []) (scheme ++ codes ":") refl
token_begins (url.Hosted scheme host port path) =
    more_begins (scheme_text scheme) (codes "://" ++ (host_text host ++ (codes ":" ++ decimal (effective_port scheme port)))) (scheme_begins scheme)

named_short : (there : Url) → can_be_named there ≡ true → nat_le (length (needed_token there)) text_limit ≡ true
unfolding can_be_named
named_short there named = (and_parts (has_named_host there) _ named).1

token_fits : (there : Url) → IsValidUrl there → can_be_named there ≡ true → fits (needed_token there) ≡ true
token_fits there valid named =
    and_from (nat_lt 0 (length (needed_token there))) _ (token_begins there)
    (and_from (nat_le (length (needed_token there)) text_limit) _ (named_short there named)
    (token_passes (is_word_char false) scheme_char_is refl refl there valid (named_host there named)))

fits_word : (text : List ℕ) → fits text ≡ true → IsWord false text
fits_word text is =
    let long = (and_parts (nat_lt 0 (length text)) _ is).0 in
    let rest = (and_parts (nat_lt 0 (length text)) _ is).1 in
    (grind (arith, long), all_from (is_word_char false) text (and_parts (nat_le (length text) text_limit) _ rest).1)

fits_short : (text : List ℕ) → fits text ≡ true → length text ≤ text_limit
fits_short text is =
    let short = (and_parts (nat_le (length text) text_limit) _ (and_parts (nat_lt 0 (length text)) _ is).1).0 in
    grind (arith, short)

-- Directives

-- a directive that can be printed and read
record Fits (d : Directive) : Type 0 where
  printable : IsPrintableDirective false d
  read : HasRead d
  short : All (λ text. length text ≤ text_limit) (d.name ∷ d.tokens)

directive_fits : (name : List ℕ) (tokens : List (List ℕ)) → lower name ≡ name → list_all fits (name ∷ tokens) ≡ true → Fits (directive_of name tokens)
directive_fits name tokens low is =
    let each = all_from fits (name ∷ tokens) is in
    record {
      printable = record { lower_case = low; words = All-weaker (λ text. fits text ≡ true) (IsWord false) fits_word (name ∷ tokens) each };
      read = refl;
      short = All-weaker (λ text. fits text ≡ true) (λ text. length text ≤ text_limit) fits_short (name ∷ tokens) each;
    }

abbrev name_fits : Name → Bool
name_fits name = bytes_eq (lower (name_text name)) (name_text name) && fits (name_text name)

needed_fits : (name : List ℕ) (tokens : List (List ℕ)) → lower name ≡ name → fits name ≡ true → list_all fits tokens ≡ true
    → (ds : List Directive) → All Fits ds → All Fits (cons_option (where_needed name tokens) ds)
needed_fits name [] low is all ds rest = rest
needed_fits name (token ∷ tokens) low is all ds rest =
    All-cons Fits (directive_of name (token ∷ tokens)) ds
    (directive_fits name (token ∷ tokens) low (and_from (fits name) (list_all fits (token ∷ tokens)) is all)) rest

directives_fit : (needs : List Need) → list_all (λ (need : Need). fits need.token) needs ≡ true → (names : List Name) → list_all name_fits names ≡ true
    → All Fits (filter_map (directive_for needs) names)
directives_fit needs all [] good = All-nil Fits
directives_fit needs all (name ∷ names) good =
    let parts = and_parts (name_fits name) (list_all name_fits names) good in
    let this = and_parts (bytes_eq (lower (name_text name)) (name_text name)) (fits (name_text name)) parts.0 in
    needed_fits (name_text name) (tokens_for (name_text name) needs) ((bytes_eq-Decides (lower (name_text name)) (name_text name)).0 this.0) this.1
    (all_chosen fits (name_text name) needs all) (filter_map (directive_for needs) names) (directives_fit needs all names parts.1)

all_fit : (origin : Origin) (logged : List Check) → All IsValidCheck logged → All Fits (policy_for origin (needs_of logged)).directives
all_fit origin logged valid =
    All-cons Fits default_none _ (directive_fits (codes "default-src") (codes "'none'" ∷ []) refl refl)
    (directives_fit (needs_of logged) (needs_pass fits token_fits logged valid) fetch_directives refl)

-- Names

-- no later name is the same
abbrev is_other : List ℕ → Name → Bool
is_other text name = not (bytes_eq text (name_text name))

differ : List Name → Bool
differ [] = true
differ (name ∷ names) = list_all (is_other (name_text name)) names && differ names

apart : (a b : List ℕ) → not (bytes_eq a b) ≡ true → a ≢ b
apart a b other same = absurd (false≢true (sym (ap not ((bytes_eq-Decides a b).1 same)) ∙ other))

needed_other : (text name : List ℕ) (tokens : List (List ℕ)) → text ≢ name → (ds : List Directive)
    → All (λ (d : Directive). text ≢ d.name) ds → All (λ (d : Directive). text ≢ d.name) (cons_option (where_needed name tokens) ds)
needed_other text name [] other ds rest = rest
needed_other text name (token ∷ tokens) other ds rest = All-cons (λ (d : Directive). text ≢ d.name) (directive_of name (token ∷ tokens)) ds other rest

others : (text : List ℕ) (needs : List Need) (names : List Name) → list_all (is_other text) names ≡ true
    → All (λ (d : Directive). text ≢ d.name) (filter_map (directive_for needs) names)
others text needs [] all = All-nil (λ (d : Directive). text ≢ d.name)
others text needs (name ∷ names) all =
    let parts = and_parts (is_other text name) (list_all (is_other text) names) all in
    needed_other text (name_text name) (tokens_for (name_text name) needs) (apart text (name_text name) parts.0)
    (filter_map (directive_for needs) names) (others text needs names parts.1)

pairs_with : (name : List ℕ) (tokens : List (List ℕ)) (ds : List Directive) → All (λ (d : Directive). name ≢ d.name) ds → AllPairs AreOthers ds
    → AllPairs AreOthers (cons_option (where_needed name tokens) ds)
pairs_with name [] ds other pairs = pairs
pairs_with name (token ∷ tokens) ds other pairs = AllPairs-cons AreOthers (directive_of name (token ∷ tokens)) ds other pairs

all_differ : (needs : List Need) (names : List Name) → differ names ≡ true → AllPairs AreOthers (filter_map (directive_for needs) names)
unfolding differ
all_differ needs [] distinct = λ i j d lower within. absurd (omega (arith, within))
all_differ needs (name ∷ names) distinct =
    let parts = and_parts (list_all (is_other (name_text name)) names) (differ names) distinct in
    pairs_with (name_text name) (tokens_for (name_text name) needs) (filter_map (directive_for needs) names)
    (others (name_text name) needs names parts.0) (all_differ needs names parts.1)

-- as `default-src` and the names of fetches do
names_differ : differ (DefaultSrc ∷ fetch_directives) ≡ true
unfolding differ
names_differ = refl

parts_differ : (list_all (is_other (codes "default-src")) fetch_directives ≡ true) × (differ fetch_directives ≡ true)
unfolding differ
parts_differ = and_parts (list_all (is_other (codes "default-src")) fetch_directives) (differ fetch_directives) names_differ

-- Tokens

abbrev one_if : Bool → ℕ
one_if b = cond b 1 0

-- how many of these names the need has
abbrev holders : Need → List Name → ℕ
holders need names = sum_by (λ name. one_if (is_for (name_text name) need)) names

-- the tokens of directives of these names
abbrev tokens_in : List Need → List Name → ℕ
tokens_in needs names = sum_by (λ name. length (tokens_for (name_text name) needs)) names

one_more : (text : List ℕ) (need : Need) (needs : List Need) → length (tokens_for text (need ∷ needs)) ≡ one_if (is_for text need) + length (tokens_for text needs)
one_more text need needs = go (is_for text need) refl where
  go : (b : Bool) → is_for text need ≡ b → length (tokens_for text (need ∷ needs)) ≡ one_if b + length (tokens_for text needs)
  go true is = rw is (omega arith)
  go false is = rw is (omega arith)

tokens_more : (need : Need) (needs : List Need) (names : List Name) → tokens_in (need ∷ needs) names ≡ holders need names + tokens_in needs names
tokens_more need needs [] = refl
tokens_more need needs (name ∷ names) =
    omega (
      arith,
      one_more (name_text name) need needs,
      tokens_more need needs names,
      sum_by-cons (λ name. length (tokens_for (name_text name) (need ∷ needs))) name names,
      sum_by-cons (λ name. length (tokens_for (name_text name) needs)) name names,
      sum_by-cons (λ name. one_if (is_for (name_text name) need)) name names,
    )

off : (b : Bool) → not b ≡ true → b ≡ false
off true is = absurd (false≢true is)
off false is = refl

none_holds : (need : Need) (names : List Name) → list_all (is_other need.directive) names ≡ true → holders need names ≡ 0
none_holds need [] all = refl
none_holds need (name ∷ names) all =
    let parts = and_parts (is_other need.directive name) (list_all (is_other need.directive) names) all in
    let this : one_if (is_for (name_text name) need) ≡ 0 = ap one_if (off (bytes_eq need.directive (name_text name)) parts.0) in
    omega (arith, this, none_holds need names parts.1, sum_by-cons (λ name. one_if (is_for (name_text name) need)) name names)

one_holds : (need : Need) (names : List Name) → differ names ≡ true → holders need names ≤ 1
unfolding differ
one_holds need [] distinct = omega arith
one_holds need (name ∷ names) distinct =
    let parts = and_parts (list_all (is_other (name_text name)) names) (differ names) distinct in
    go (is_for (name_text name) need) refl (one_holds need names parts.1) where
      go : (b : Bool) → is_for (name_text name) need ≡ b → holders need names ≤ 1 → holders need (name ∷ names) ≤ 1
      go true is rest =
          let others = (and_parts (list_all (is_other (name_text name)) names) (differ names) distinct).0 in
          let same : name_text name ≡ need.directive = sym ((bytes_eq-Decides need.directive (name_text name)).0 is) in
          let none = none_holds need names (subst (λ text. list_all (is_other text) names ≡ true) same others) in
          omega (arith, none, ap one_if is, sum_by-cons (λ name. one_if (is_for (name_text name) need)) name names)
      go false is rest =
          omega (arith, rest, ap one_if is, sum_by-cons (λ name. one_if (is_for (name_text name) need)) name names)

no_tokens : (names : List Name) → tokens_in [] names ≡ 0
no_tokens [] = refl
no_tokens (name ∷ names) =
    let none : length (tokens_for (name_text name) []) ≡ 0 = refl in
    omega (arith, none, no_tokens names, sum_by-cons (λ name. length (tokens_for (name_text name) [])) name names)

few_tokens : (needs : List Need) (names : List Name) → differ names ≡ true → tokens_in needs names ≤ length needs
few_tokens [] names distinct = omega (arith, no_tokens names)
few_tokens (need ∷ needs) names distinct =
    omega (arith, tokens_more need needs names, one_holds need names distinct, few_tokens needs names distinct)

abbrev count : List Directive → ℕ
count ds = sum_by (λ (d : Directive). length d.tokens) ds

count_with : (name : List ℕ) (tokens : List (List ℕ)) (ds : List Directive) → count (cons_option (where_needed name tokens) ds) ≡ length tokens + count ds
count_with name [] ds = omega arith
count_with name (token ∷ tokens) ds = sum_by-cons (λ (d : Directive). length d.tokens) (directive_of name (token ∷ tokens)) ds

count_all : (needs : List Need) (names : List Name) → count (filter_map (directive_for needs) names) ≡ tokens_in needs names
count_all needs [] = refl
count_all needs (name ∷ names) =
    count_with (name_text name) (tokens_for (name_text name) needs) (filter_map (directive_for needs) names)
    ∙ ap (λ n. length (tokens_for (name_text name) needs) + n) (count_all needs names)
    ∙ sym (sum_by-cons (λ name. length (tokens_for (name_text name) needs)) name names)

-- the tokens of the needs, and `'none'`
within_count : (origin : Origin) (needs : List Need) → length needs ≤ need_limit → token_count (policy_for origin needs ∷ []) ≤ 1024
within_count origin needs few =
    let p = policy_for origin needs in
    omega (
      arith,
      few,
      sum_by-cons (λ (p : Policy). count p.directives) p [],
      sum_by-cons (λ (d : Directive). length d.tokens) default_none (filter_map (directive_for needs) fetch_directives),
      count_all needs fetch_directives,
      few_tokens needs fetch_directives parts_differ.1,
    )

-- Lengths

longest_within : (limit n : ℕ) (texts : List (List ℕ)) → n ≤ limit → All (λ text. length text ≤ limit) texts → fold (λ n text. max n (length text)) n texts ≤ limit
longest_within limit n [] low all = low
longest_within limit n (text ∷ texts) low all =
    let one = All-head (λ text. length text ≤ limit) text texts all in
    longest_within limit (max n (length text)) texts (omega (arith, low, one)) (All-tail (λ text. length text ≤ limit) text texts all)

texts_short : (ds : List Directive) → All Fits ds → All (λ text. length text ≤ text_limit) (flat_map (λ (d : Directive). d.name ∷ d.tokens) ds)
texts_short [] all = All-nil (λ text. length text ≤ text_limit)
texts_short (d ∷ ds) all =
    All-append (λ text. length text ≤ text_limit) (d.name ∷ d.tokens) _ (All-head Fits d ds all).short (texts_short ds (All-tail Fits d ds all))

within_length : (p : Policy) → All Fits p.directives → longest_text (p ∷ []) ≤ text_limit
within_length p all =
    let texts = flat_map (λ (d : Directive). d.name ∷ d.tokens) p.directives in
    longest_within text_limit 0 (texts ++ []) (omega arith)
    (All-append (λ text. length text ≤ text_limit) texts [] (texts_short p.directives all) (All-nil (λ text. length text ≤ text_limit)))

-- Policies

pub learnt_printable : (logged : List Check) (origin : Origin) → IsValidOrigin origin → All IsValidCheck logged → IsPrintable origin (policy_for origin (needs_of logged))
learnt_printable logged origin good valid =
    let p = policy_for origin (needs_of logged) in
    let each = all_fit origin logged valid in
    record {
      readable = record {
        some = λ none. cc;
        distinct = AllPairs-cons AreOthers default_none (filter_map (directive_for (needs_of logged)) fetch_directives)
            (others (codes "default-src") (needs_of logged) fetch_directives parts_differ.0) (all_differ (needs_of logged) fetch_directives parts_differ.1);
        read = All-weaker Fits HasRead (λ d (is : Fits d). is.read) p.directives each;
        origin = good;
      };
      of_origin = refl;
      directives = All-weaker Fits (IsPrintableDirective false) (λ d (is : Fits d). is.printable) p.directives each;
      enforced = λ meta. refl;
      for_meta = λ meta. absurd (false≢true meta);
    }

abbrev pub ReadBack : Type 0
ReadBack = (origin : Origin) (list : PolicyList) → IsReadable list → All (IsPrintable origin) list.policies → list_of (header_lines list.policies) origin ≡ Ok list

pub learnt_back : ReadBack → (logged : List Check) (origin : Origin) → IsValidOrigin origin → All IsValidCheck logged → length (needs_of logged) ≤ need_limit
    → ReadsBack origin (policy_for origin (needs_of logged))
learnt_back back logged origin good valid few =
    let p = policy_for origin (needs_of logged) in
    let printable = learnt_printable logged origin good valid in
    let list : PolicyList = record { policies = p ∷ [] } in
    let readable : IsReadable list = record {
      policies = omega arith;
      tokens = within_count origin (needs_of logged) few;
      texts = within_length p (all_fit origin logged valid);
      each = All-cons IsReadablePolicy p [] printable.readable (All-nil IsReadablePolicy);
    } in
    ap (λ block. list_of block origin) (sym (append-nil (header_line p))) ∙ back origin list readable (All-cons (IsPrintable origin) p [] printable (All-nil (IsPrintable origin)))
