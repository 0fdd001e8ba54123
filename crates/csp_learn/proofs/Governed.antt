-- A learnt policy allows a fetch where a token of its effective directive matches.
use Rattle.std.proofs.Common.{arith, ◌≡◌, ◌∙◌, sym, ap, refl, ℕ, Bool, true, false, ◌&&◌, ◌||◌, List, [], ◌∷◌, map, cond, Option, Some, None}
use Rattle.std.specs.Prelude.{codes, option_map}
use Rattle.std.specs.List.{list_any, list_all, filter_map, cons_option, find}
use Rattle.std.specs.Str.{bytes_eq}
use Rattle.std.proofs.lemmas.Grind.{common_steps}
use Rattle.std.proofs.lemmas.Slice.Eq.{bytes_eq-Decides}
use Rattle.csp_model.specs.Ascii.{is_nonempty}
use Rattle.csp_model.specs.DecideFetch.{sources_allow, fetch_allows}
use Rattle.csp_model.specs.DecideGoverning.{allows_by}
use Rattle.csp_model.specs.DecideMatching.{matches, list_matches}
use Rattle.csp_model.specs.DecideTokens.{is_keyword, is_nonce, nonce_matches, is_hash, integrity_matches}
use Rattle.csp_model.specs.Fetch.{is_redirected, fetch_rule}
use Rattle.csp_model.specs.Governing.{Governor, governor, governor_named, is_named, fallbacks}
use Rattle.csp_model.specs.Grammar.{is_scheme_char, is_label_char, is_name, host_part_of, port_part_of, path_part_of, is_base64_char, is_base64_value}
use Rattle.csp_model.specs.Names.{name_text, group_directive}
use Rattle.csp_model.specs.Reading.{first_of, source_of, kind_of, scheme_source, host_source, authority, keyword_source, nonce_source, hash_source, quoted_value, is_host_char, is_no_slash}
use Rattle.csp_model.specs.declared.check.FetchRule.{FetchRule}
use Rattle.csp_model.specs.declared.check.FetchRule.TheVariants as rule
use Rattle.csp_model.specs.declared.check.Group.{Group}
use Rattle.csp_model.specs.declared.check.Group.TheVariants as group
use Rattle.csp_model.specs.declared.name.Name.{Name}
use Rattle.csp_model.specs.declared.name.Name.TheVariants.{ConnectSrc, FontSrc, FrameSrc, ImgSrc, ManifestSrc, MediaSrc, ObjectSrc, StyleSrcElem, ScriptSrcElem, WorkerSrc, DefaultSrc}
use Rattle.csp_model.specs.declared.policy.Directive.{Directive}
use Rattle.csp_model.specs.declared.source.Hash.{Hash}
use Rattle.csp_model.specs.declared.source.Keyword.{Keyword}
use Rattle.csp_model.specs.declared.source.Keyword.TheVariants as keyword
use Rattle.csp_model.specs.declared.source.Source.{Source}
use Rattle.csp_model.specs.declared.source.Source.TheVariants as source
use Rattle.csp_model.specs.declared.url.Origin.{Origin}
use Rattle.csp_model.specs.declared.url.Url.{Url}
use Rattle.csp_learn.specs.Policies.{fetch_directives, is_for, tokens_for, where_needed, directive_for, default_none, policy_for}
use Rattle.csp_learn.specs.declared.need.Need.{Need}
use Rattle.csp_learn.proofs.Chosen.{any_chosen, all_chosen}

-- which directive governs

absent : {A : Type 0} (b : Bool) (o : Option A) → o ≡ None → cond b o None ≡ o
absent true o e = refl
absent false o e = sym e

found_among : (needs : List Need) (name : Name) (names : List Name)
    → find (is_named name) (filter_map (directive_for needs) names)
    ≡ cond (list_any (λ other. bytes_eq (name_text other) (name_text name)) names) (directive_for needs name) None
found_among needs name [] = refl
found_among needs name (other ∷ names) = go (bytes_eq (name_text other) (name_text name)) refl (tokens_for (name_text other) needs) refl (found_among needs name names) where
  turned : (tokens : List (List ℕ)) → bytes_eq (name_text other) (name_text name) ≡ true → tokens_for (name_text other) needs ≡ tokens
      → where_needed (name_text other) tokens ≡ directive_for needs name
  turned tokens is same =
      ap (where_needed (name_text other)) (sym same)
      ∙ ap (λ (text : List ℕ). where_needed text (tokens_for text needs)) ((bytes_eq-Decides (name_text other) (name_text name)).0 is)

  go : (b : Bool) → bytes_eq (name_text other) (name_text name) ≡ b → (tokens : List (List ℕ)) → tokens_for (name_text other) needs ≡ tokens
      → find (is_named name) (filter_map (directive_for needs) names)
      ≡ cond (list_any (λ other. bytes_eq (name_text other) (name_text name)) names) (directive_for needs name) None
      → find (is_named name) (cons_option (where_needed (name_text other) tokens) (filter_map (directive_for needs) names))
      ≡ cond (b || list_any (λ other. bytes_eq (name_text other) (name_text name)) names) (directive_for needs name) None
  go true is [] same rest = rest ∙ absent _ (directive_for needs name) (sym (turned [] is same))
  go true is (token ∷ tokens) same rest = rw is (turned (token ∷ tokens) is same)
  go false is [] same rest = rest
  go false is (token ∷ tokens) same rest = rw is rest

-- the directive of this name as what governs
abbrev pub as_governor : Name → Directive → Governor
as_governor name d = record { name = name; directive = d }

abbrev pub named_among : List Need → Name → Option Governor
named_among needs name =
    cond (bytes_eq (codes "default-src") (name_text name)) (Some (as_governor name default_none))
    (cond (list_any (λ other. bytes_eq (name_text other) (name_text name)) fetch_directives)
    (option_map (as_governor name) (directive_for needs name)) None)

mapped : (name : Name) (b : Bool) (o : Option Directive) → option_map (as_governor name) (cond b o None) ≡ cond b (option_map (as_governor name) o) None
mapped name true o = refl
mapped name false o = refl

default_or : (name : Name) (b : Bool) (o : Option Directive)
    → option_map (as_governor name) (cond b (Some default_none) o) ≡ cond b (Some (as_governor name default_none)) (option_map (as_governor name) o)
default_or name true o = refl
default_or name false o = refl

named_is : (origin : Origin) (needs : List Need) (name : Name) → governor_named (policy_for origin needs).directives name ≡ named_among needs name
unfolding governor_named
named_is origin needs name =
    let is_default = bytes_eq (codes "default-src") (name_text name) in
    let known = list_any (λ other. bytes_eq (name_text other) (name_text name)) fetch_directives in
    default_or name is_default (find (is_named name) (filter_map (directive_for needs) fetch_directives))
    ∙ ap (λ o. cond is_default (Some (as_governor name default_none)) (option_map (as_governor name) o)) (found_among needs name fetch_directives)
    ∙ ap (λ o. cond is_default (Some (as_governor name default_none)) o) (mapped name known (directive_for needs name))

each_same : {A B : Type 0} (f g : A → B) → ((x : A) → f x ≡ g x) → (xs : List A) → map f xs ≡ map g xs
each_same f g same [] = refl
each_same f g same (x ∷ xs) = ap (λ y. y ∷ map f xs) (same x) ∙ ap (λ ys. g x ∷ ys) (each_same f g same xs)

-- the directive of this name, or else `default-src 'none'`
abbrev pub own_or_default : Name → Option Directive → Option Governor
own_or_default name None = Some (as_governor DefaultSrc default_none)
own_or_default name (Some d) = Some (as_governor name d)

own_first : (name : Name) (o : Option Directive) (rest : List (Option Governor)) → first_of rest ≡ Some (as_governor DefaultSrc default_none)
    → first_of (option_map (as_governor name) o ∷ rest) ≡ own_or_default name o
own_first name None rest e = e
own_first name (Some d) rest e = refl

pub governs : (needs : List Need) (kind : Group)
    → first_of (map (named_among needs) (fallbacks (group_directive kind))) ≡ own_or_default (group_directive kind) (directive_for needs (group_directive kind))
governs needs group.Connect = own_first ConnectSrc _ _ refl
governs needs group.Font = own_first FontSrc _ _ refl
governs needs group.Frame = own_first FrameSrc _ _ refl
governs needs group.Img = own_first ImgSrc _ _ refl
governs needs group.Manifest = own_first ManifestSrc _ _ refl
governs needs group.Media = own_first MediaSrc _ _ refl
governs needs group.Object = own_first ObjectSrc _ _ refl
governs needs group.StyleElem = own_first StyleSrcElem _ _ refl
governs needs group.ScriptElem = own_first ScriptSrcElem _ _ refl
governs needs group.Worker = own_first WorkerSrc _ _ refl

-- what governs a check of this name
pub governor_of : (origin : Origin) (needs : List Need) (effective : Name)
    → governor (policy_for origin needs) effective ≡ first_of (map (named_among needs) (fallbacks effective))
governor_of origin needs effective = ap first_of (each_same _ (named_among needs) (named_is origin needs) (fallbacks effective))

governor_is : (origin : Origin) (needs : List Need) (kind : Group)
    → governor (policy_for origin needs) (group_directive kind) ≡ own_or_default (group_directive kind) (directive_for needs (group_directive kind))
governor_is origin needs kind = governor_of origin needs (group_directive kind) ∙ governs needs kind

-- what hosts and schemes allow

-- no keyword, no nonce and no hash
abbrev pub is_plain : Source → Bool
is_plain (source.Word word) = false
is_plain (source.Nonce value) = false
is_plain (source.Digest hash) = false
is_plain s = true

pub none_of_kind : (p : Source → Bool) → ((s : Source) → is_plain s ≡ true → p s ≡ false) → (sources : List Source) → list_all is_plain sources ≡ true → list_any p sources ≡ false
none_of_kind p fails [] all = refl
none_of_kind p fails (s ∷ sources) all = grind (arith, common_steps, fails s, none_of_kind p fails sources)

pub no_keyword : (word : Keyword) (s : Source) → is_plain s ≡ true → is_keyword word s ≡ false
no_keyword word (source.Word other) plain = cc
no_keyword word s plain = refl

no_nonce : (nonce : List ℕ) (s : Source) → is_plain s ≡ true → is_nonce nonce s ≡ false
no_nonce nonce (source.Nonce value) plain = cc
no_nonce nonce s plain = refl

no_hash : (hash : Hash) (s : Source) → is_plain s ≡ true → is_hash hash s ≡ false
no_hash hash (source.Digest other) plain = cc
no_hash hash s plain = refl

pub and_none : (a : Bool) → (a && false) ≡ false
and_none true = refl
and_none false = refl

pub nonce_fails : (nonce : List ℕ) (sources : List Source) → list_all is_plain sources ≡ true → nonce_matches nonce sources ≡ false
nonce_fails nonce sources plain =
    ap (λ b. is_nonempty nonce && b) (none_of_kind (is_nonce nonce) (no_nonce nonce) sources plain) ∙ and_none (is_nonempty nonce)

integrity_fails : (integrity : List Hash) (sources : List Source) → list_all is_plain sources ≡ true → integrity_matches integrity sources ≡ false
integrity_fails [] sources plain = refl
integrity_fails (h ∷ integrity) sources plain = rw (none_of_kind (is_hash h) (no_hash h) sources plain) (and_none (is_nonempty (h ∷ integrity)))

listed_decides : (rule : FetchRule) (sources : List Source) (nonce : List ℕ) (integrity : List Hash) (parser_inserted listed : Bool)
    → list_all is_plain sources ≡ true → sources_allow rule sources nonce integrity parser_inserted listed ≡ listed
listed_decides rule.Script sources nonce integrity parser_inserted listed plain =
    rw (
      nonce_fails nonce sources plain,
      integrity_fails integrity sources plain,
      none_of_kind (is_keyword keyword.StrictDynamic) (no_keyword keyword.StrictDynamic) sources plain,
    ) refl
listed_decides rule.Style sources nonce integrity parser_inserted listed plain = rw (nonce_fails nonce sources plain) refl
listed_decides rule.List sources nonce integrity parser_inserted listed plain = refl

none_is_other : source_of (codes "'none'") ≡ source.Other (codes "'none'")
unfolding source_of kind_of scheme_source host_source authority keyword_source nonce_source hash_source quoted_value is_host_char is_no_slash is_scheme_char is_label_char is_name host_part_of port_part_of path_part_of is_base64_char is_base64_value
none_is_other = refl

pub none_plain : list_all is_plain default_none.sources ≡ true
none_plain = ap (λ s. is_plain s && true) none_is_other

none_matches : (origin : Origin) (there : Url) (redirected : Bool) → list_matches default_none.sources origin there redirected ≡ false
none_matches origin there redirected = ap (λ s. matches s origin there redirected || false) none_is_other

any_mapped : {A B : Type 0} (p : B → Bool) (f : A → B) (xs : List A) → list_any p (map f xs) ≡ list_any (λ x. p (f x)) xs
any_mapped p f [] = refl
any_mapped p f (x ∷ xs) = ap (λ b. p (f x) || b) (any_mapped p f xs)

pub all_mapped : {A B : Type 0} (p : B → Bool) (f : A → B) (xs : List A) → list_all p (map f xs) ≡ list_all (λ x. p (f x)) xs
all_mapped p f [] = refl
all_mapped p f (x ∷ xs) = ap (λ b. p (f x) && b) (all_mapped p f xs)

-- a policy that is governed so allows what a token of the directive matches
allowed_by : (name : Name) (tokens : List (List ℕ)) (kind : Group) (origin : Origin) (there : Url) (redirected : Bool) (nonce : List ℕ) (integrity : List Hash)
    (parser_inserted : Bool) → list_all (λ token. is_plain (source_of token)) tokens ≡ true
    → allows_by (own_or_default name (where_needed (name_text name) tokens)) (λ g.
    sources_allow (fetch_rule kind g.name) g.directive.sources nonce integrity parser_inserted (list_matches g.directive.sources origin there redirected))
    ≡ list_any (λ token. matches (source_of token) origin there redirected) tokens
allowed_by name [] kind origin there redirected nonce integrity parser_inserted plain =
    listed_decides (fetch_rule kind DefaultSrc) default_none.sources nonce integrity parser_inserted _ none_plain
    ∙ none_matches origin there redirected
allowed_by name (token ∷ tokens) kind origin there redirected nonce integrity parser_inserted plain =
    listed_decides (fetch_rule kind name) (map source_of (token ∷ tokens)) nonce integrity parser_inserted _
    (all_mapped is_plain source_of (token ∷ tokens) ∙ plain)
    ∙ any_mapped (λ s. matches s origin there redirected) source_of (token ∷ tokens)

-- a fetch is allowed where a need of its effective directive matches
pub fetch_allowed : (origin : Origin) (needs : List Need) (kind : Group) (there : Url) (redirects : ℕ) (nonce : List ℕ) (integrity : List Hash) (parser_inserted : Bool)
    → list_all (λ (need : Need). is_plain (source_of need.token)) needs ≡ true
    → fetch_allows (policy_for origin needs) kind there redirects nonce integrity parser_inserted
    ≡ list_any (λ (need : Need). is_for (name_text (group_directive kind)) need && matches (source_of need.token) origin there (is_redirected redirects)) needs
fetch_allowed origin needs kind there redirects nonce integrity parser_inserted plain =
    ap (λ o. allows_by o (λ g.
    sources_allow (fetch_rule kind g.name) g.directive.sources nonce integrity parser_inserted (list_matches g.directive.sources origin there (is_redirected redirects))))
    (governor_is origin needs kind)
    ∙ allowed_by (group_directive kind) (tokens_for (name_text (group_directive kind)) needs) kind origin there (is_redirected redirects) nonce integrity parser_inserted
    (all_chosen (λ token. is_plain (source_of token)) (name_text (group_directive kind)) needs plain)
    ∙ any_chosen (λ token. matches (source_of token) origin there (is_redirected redirects)) (name_text (group_directive kind)) needs
