-- A source that is told as missing allows the check, and besides it only what has its scheme, host and port.
use Rattle.std.proofs.Common.{◌≡◌, ℕ, Bool, true, false, not, ◌&&◌, ◌||◌, cond, List, ◌∷◌, Option, Some, None, is_none, refl, sym, ◌∙◌, ap, subst, inl, inr, ◌⊎◌}
use Rattle.std.specs.Prelude.{is_some}
use Rattle.std.proofs.lemmas.Bool.{or_left, or_parts, or_right, false≢true}
use Rattle.csp_model.specs.Ascii.{is_nonempty}
use Rattle.csp_model.specs.DecideFetch.{sources_allow}
use Rattle.csp_model.specs.DecideMatching.{matches, list_matches}
use Rattle.csp_model.specs.DecideTokens.{has_keyword, nonce_matches, integrity_matches}
use Rattle.csp_model.specs.DecideVerdict.{allows}
use Rattle.csp_model.specs.Fetch.{fetch_rule, is_redirected}
use Rattle.csp_model.specs.Governing.{Governor, governor}
use Rattle.csp_model.specs.Matching.{Matches, PortMatches}
use Rattle.csp_model.specs.Parts.{checked_url}
use Rattle.csp_model.specs.Reading.{first_of}
use Rattle.csp_model.specs.Verdict.{effective_name}
use Rattle.csp_model.proofs.MatchingDecided.{matches_decides}
use Rattle.csp_model.specs.declared.check.Check.{Check}
use Rattle.csp_model.specs.declared.check.Check.TheVariants as check
use Rattle.csp_model.specs.declared.check.FetchRule.{FetchRule}
use Rattle.csp_model.specs.declared.check.FetchRule.TheVariants as fetch
use Rattle.csp_model.specs.declared.name.Name.{Name}
use Rattle.csp_model.specs.declared.policy.Directive.{Directive}
use Rattle.csp_model.specs.declared.policy.Policy.{Policy}
use Rattle.csp_model.specs.declared.source.Hash.{Hash}
use Rattle.csp_model.specs.declared.source.Keyword.TheVariants as keyword
use Rattle.csp_model.specs.declared.source.Source.{Source}
use Rattle.csp_model.specs.declared.url.Origin.{Origin}
use Rattle.csp_model.specs.declared.url.Scheme.{Scheme}
use Rattle.csp_model.specs.declared.url.Url.{Url}
use Rattle.csp_model.specs.declared.url.Url.TheVariants as url
use Rattle.csp_why.specs.Allowances.{allowances}
use Rattle.csp_why.specs.Displacement.{displaces_sources, displacement}
use Rattle.csp_why.specs.Laws.{IsAt, moved, with_changed, with_source}
use Rattle.csp_why.specs.Missing.{can_be_named, missing_by, missing_from, missing_url, named_url, port_of, source_of}
use Rattle.csp_why.specs.Near.{near_of}
use Rattle.csp_why.specs.Reasons.{acting, governed_reason, reason, reason_by}
use Rattle.csp_why.specs.declared.reason.Allowance.{Allowance}
use Rattle.csp_why.specs.declared.reason.Near.{Near}
use Rattle.csp_why.specs.declared.reason.Reason.TheVariants.{Allows, Blocks}
use Rattle.csp_why.specs.declared.reason.Obstacle.{Obstacle}
use Rattle.csp_why.specs.declared.reason.Obstacle.TheVariants as word
use Rattle.csp_why.proofs.Governed.{acting_changed, allows_changed, governed, test}
use Rattle.csp_why.proofs.Mended.{script_allows}

-- The source of a URL

port_fits : (port : Option ℕ) (scheme : Scheme) → PortMatches (port_of port) port scheme
port_fits None scheme = refl
port_fits (Some n) scheme = refl

fits : (self : Origin) (there : Url) (redirected : Bool) → Matches (source_of there) self there redirected
fits self (url.Plain scheme) redirected = inl refl
fits self (url.Hosted scheme host port path) redirected = (inl refl, refl, port_fits port scheme, inr tt)

-- it matches its URL
matches_itself : (self : Origin) (there : Url) (redirected : Bool) → matches (source_of there) self there redirected ≡ true
matches_itself self there redirected = (matches_decides (source_of there) self there redirected).1 (fits self there redirected)

at_by : (self : Origin) (there other : Url) (redirected : Bool) → Matches (source_of there) self other redirected → IsAt there other
at_by self (url.Plain scheme) other redirected is = (is, tt)
at_by self (url.Hosted scheme host port path) (url.Plain other) redirected is = absurd is
at_by self (url.Hosted scheme host port path) (url.Hosted other h p pieces) redirected is = (is.0, (is.1, is.2))

-- and else only what is at the same place
matches_at : (self : Origin) (there other : Url) (redirected : Bool) → matches (source_of there) self other redirected ≡ true
    → IsAt there other
matches_at self there other redirected is =
    at_by self there other redirected ((matches_decides (source_of there) self other redirected).0 is)

-- What a directive allows with it

more : (a b c d m l : Bool) → (a || (b || (c || (d && (m || l))))) ≡ true → ((a || (b || (c || (d && l)))) ≡ true) ⊎ (m ≡ true)
more true b c d m l is = inl refl
more false true c d m l is = inl refl
more false false true d m l is = inl refl
more false false false true true l is = inr refl
more false false false true false l is = inl is
more false false false false m l is = absurd (false≢true is)

more_or : (a m l : Bool) → (a || (m || l)) ≡ true → ((a || l) ≡ true) ⊎ (m ≡ true)
more_or true m l is = inl refl
more_or false true l is = inr refl
more_or false false l is = inl is

more_listed : (m l : Bool) → (m || l) ≡ true → (l ≡ true) ⊎ (m ≡ true)
more_listed true l is = inr refl
more_listed false l is = inl is

module _ (nonce : List ℕ) (integrity : List Hash) (parser_inserted : Bool) (sources : List Source) where
  fetch_more : (which : FetchRule) (there : Url) (match listed : Bool)
      → sources_allow which (source_of there ∷ sources) nonce integrity parser_inserted (match || listed) ≡ true
      → (sources_allow which sources nonce integrity parser_inserted listed ≡ true) ⊎ (match ≡ true)
  fetch_more fetch.Script (url.Plain scheme) match listed is =
      more (nonce_matches nonce sources) (integrity_matches integrity sources)
      (has_keyword keyword.StrictDynamic sources && not parser_inserted) (not (has_keyword keyword.StrictDynamic sources)) match listed is
  fetch_more fetch.Script (url.Hosted scheme host port path) match listed is =
      more (nonce_matches nonce sources) (integrity_matches integrity sources)
      (has_keyword keyword.StrictDynamic sources && not parser_inserted) (not (has_keyword keyword.StrictDynamic sources)) match listed is
  fetch_more fetch.Style (url.Plain scheme) match listed is = more_or (nonce_matches nonce sources) match listed is
  fetch_more fetch.Style (url.Hosted scheme host port path) match listed is = more_or (nonce_matches nonce sources) match listed is
  fetch_more fetch.List there match listed is = more_listed match listed is

  not_dynamic : (there : Url) → has_keyword keyword.StrictDynamic sources ≡ false
      → has_keyword keyword.StrictDynamic (source_of there ∷ sources) ≡ false
  not_dynamic (url.Plain scheme) none = none
  not_dynamic (url.Hosted scheme host port path) none = none

  dynamic_none : (dynamic : Bool) → ◌≡◌ {A = Option Obstacle} (cond dynamic (Some word.StrictDynamic) None) None → dynamic ≡ false
  dynamic_none true is = absurd (let h : Some word.StrictDynamic ≡ None = is in let no : ⊥ = cc in no)
  dynamic_none false is = refl

  fetch_with : (which : FetchRule) (there : Url) (listed : Bool) → displaces_sources which sources ≡ None → listed ≡ true
      → sources_allow which (source_of there ∷ sources) nonce integrity parser_inserted listed ≡ true
  fetch_with fetch.Script there listed alone is =
      script_allows (source_of there ∷ sources) nonce integrity parser_inserted listed
      (not_dynamic there (dynamic_none (has_keyword keyword.StrictDynamic sources) alone)) is
  fetch_with fetch.Style there listed alone is = or_right (nonce_matches nonce (source_of there ∷ sources)) listed is
  fetch_with fetch.List there listed alone is = is

-- Each check with a URL

abbrev added_to : Url → Governor → Governor
added_to there g = record { name = g.name; directive = with_source (source_of there) g.directive }

listed : (self : Origin) (there : Url) (redirected : Bool) (sources : List Source)
    → list_matches (source_of there ∷ sources) self there redirected ≡ true
listed self there redirected sources =
    or_left (matches (source_of there) self there redirected) (list_matches sources self there redirected) (matches_itself self there redirected)

test_with : (self : Origin) (asked : Check) (g : Governor) (there : Url) → checked_url asked ≡ Some there
    → displacement asked g.name g.directive.sources ≡ None → test self asked (added_to there g) ≡ true
test_with self (check.Fetch group url redirects nonce integrity parser_inserted) g there is alone =
    let h : Some url ≡ Some there = is in
    let same : url ≡ there = cc in
    subst (λ (u : Url). test self (check.Fetch group u redirects nonce integrity parser_inserted) (added_to there g) ≡ true) (sym same)
    (fetch_with nonce integrity parser_inserted g.directive.sources (fetch_rule group g.name) there _ alone
    (listed self there (is_redirected redirects) g.directive.sources))
test_with self (check.Base url) g there is alone =
    let h : Some url ≡ Some there = is in
    let same : url ≡ there = cc in
    subst (λ (u : Url). test self (check.Base u) (added_to there g) ≡ true) (sym same) (listed self there false g.directive.sources)
test_with self (check.Form url redirects) g there is alone =
    let h : Some url ≡ Some there = is in
    let same : url ≡ there = cc in
    subst (λ (u : Url). test self (check.Form u redirects) (added_to there g) ≡ true) (sym same)
    (listed self there (is_redirected redirects) g.directive.sources)
test_with self (check.Ancestor url) g there is alone =
    let h : Some url ≡ Some there = is in
    let same : url ≡ there = cc in
    subst (λ (u : Url). test self (check.Ancestor u) (added_to there g) ≡ true) (sym same) (listed self there false g.directive.sources)
test_with self (check.Inline kind nonce digests) g there is alone = absurd (let h : None ≡ Some there = is in let no : ⊥ = cc in no)
test_with self check.Eval g there is alone = absurd (let h : None ≡ Some there = is in let no : ⊥ = cc in no)
test_with self check.Wasm g there is alone = absurd (let h : None ≡ Some there = is in let no : ⊥ = cc in no)
test_with self check.OpaqueAncestor g there is alone = absurd (let h : None ≡ Some there = is in let no : ⊥ = cc in no)
test_with self (check.Capability capability) g there is alone = absurd (let h : None ≡ Some there = is in let no : ⊥ = cc in no)
test_with self check.WorkerStart g there is alone = absurd (let h : None ≡ Some there = is in let no : ⊥ = cc in no)

abbrev OldOrAt : Bool → Url → Url → Type 0
OldOrAt old there other = (old ≡ true) ⊎ IsAt there other

old_or_at : (self : Origin) (there other : Url) (redirected : Bool) (old : Bool)
    → (old ≡ true) ⊎ (matches (source_of there) self other redirected ≡ true) → OldOrAt old there other
old_or_at self there other redirected old (inl is) = inl is
old_or_at self there other redirected old (inr is) = inr (matches_at self there other redirected is)

test_more : (self : Origin) (asked : Check) (g : Governor) (there other : Url) (redirects : ℕ) → checked_url asked ≡ Some there
    → test self (moved other redirects asked) (added_to there g) ≡ true
    → OldOrAt (test self (moved other redirects asked) g) there other
test_more self (check.Fetch group own count nonce integrity parser_inserted) g there other redirects has is =
    old_or_at self there other (is_redirected redirects) _
    (fetch_more nonce integrity parser_inserted g.directive.sources (fetch_rule group g.name) there
    (matches (source_of there) self other (is_redirected redirects))
    (list_matches g.directive.sources self other (is_redirected redirects)) is)
test_more self (check.Base own) g there other redirects has is =
    old_or_at self there other false _
    (more_listed (matches (source_of there) self other false) (list_matches g.directive.sources self other false) is)
test_more self (check.Form own count) g there other redirects has is =
    old_or_at self there other (is_redirected redirects) _
    (more_listed (matches (source_of there) self other (is_redirected redirects))
    (list_matches g.directive.sources self other (is_redirected redirects)) is)
test_more self (check.Ancestor own) g there other redirects has is =
    old_or_at self there other false _
    (more_listed (matches (source_of there) self other false) (list_matches g.directive.sources self other false) is)
test_more self (check.Inline kind nonce digests) g there other redirects has is = absurd (let h : None ≡ Some there = has in let no : ⊥ = cc in no)
test_more self check.Eval g there other redirects has is = absurd (let h : None ≡ Some there = has in let no : ⊥ = cc in no)
test_more self check.Wasm g there other redirects has is = absurd (let h : None ≡ Some there = has in let no : ⊥ = cc in no)
test_more self check.OpaqueAncestor g there other redirects has is = absurd (let h : None ≡ Some there = has in let no : ⊥ = cc in no)
test_more self (check.Capability capability) g there other redirects has is = absurd (let h : None ≡ Some there = has in let no : ⊥ = cc in no)
test_more self check.WorkerStart g there other redirects has is = absurd (let h : None ≡ Some there = has in let no : ⊥ = cc in no)

-- What the reason tells

-- the URL whose source is missing is the check's, and nothing takes the place of sources
record IsMissing (p : Policy) (asked : Check) (name : Name) (there : Url) : Type 0 where
  governing : Governor
  acts : acting p asked ≡ Some governing
  named : governing.name ≡ name
  is_url : checked_url asked ≡ Some there
  alone : displacement asked governing.name governing.directive.sources ≡ None

named_is : (o : Option Url) (there : Url) → named_url o ≡ Some there → o ≡ Some there
named_is None there is = is
named_is (Some own) there is = which (can_be_named own) is where
  which : (b : Bool) → ◌≡◌ {A = Option Url} (cond b (Some own) None) (Some there) → ◌≡◌ {A = Option Url} (Some own) (Some there)
  which true is = is
  which false is = absurd (let h : None ≡ Some there = is in let no : ⊥ = cc in no)

some_not : (o : Option Obstacle) → is_some o ≡ false → o ≡ None
some_not None is = refl
some_not (Some w) is = absurd (false≢true (sym is))

from_is : (asked : Check) (displaced : Option Obstacle) (near : List Near) (there : Url) → missing_from asked displaced near ≡ Some there
    → (displaced ≡ None) × (checked_url asked ≡ Some there)
from_is asked displaced near there is = which (is_nonempty near || is_some displaced) refl is where
  which : (b : Bool) → (is_nonempty near || is_some displaced) ≡ b
      → ◌≡◌ {A = Option Url} (cond b None (named_url (checked_url asked))) (Some there)
      → (displaced ≡ None) × (checked_url asked ≡ Some there)
  which true e is = absurd (let h : None ≡ Some there = is in let no : ⊥ = cc in no)
  which false e is =
      (some_not displaced (or_parts (is_nonempty near) (is_some displaced) e).1, named_is (checked_url asked) there is)

-- a check with a URL asks no sandbox, so what governs acts
acts_by : (p : Policy) (asked : Check) (there : Url) → checked_url asked ≡ Some there
    → acting p asked ≡ governor p (effective_name asked)
acts_by p (check.Fetch group url redirects nonce integrity parser_inserted) there has = refl
acts_by p (check.Base url) there has = refl
acts_by p (check.Form url redirects) there has = refl
acts_by p (check.Ancestor url) there has = refl
acts_by p (check.Inline kind nonce digests) there has = refl
acts_by p check.Eval there has = refl
acts_by p check.Wasm there has = refl
acts_by p check.OpaqueAncestor there has = refl
acts_by p (check.Capability capability) there has = absurd (let h : None ≡ Some there = has in let no : ⊥ = cc in no)
acts_by p check.WorkerStart there has = absurd (let h : None ≡ Some there = has in let no : ⊥ = cc in no)

blocks_named : (p : Policy) (asked : Check) (g : Governor) (displaced : Option Obstacle) (o : Option Allowance) (name : Name) (near : List Near)
    → governed_reason p asked displaced g o ≡ Blocks name near → g.name ≡ name
blocks_named p asked g displaced None name near is =
    let these : List Near = near_of p.origin asked displaced g in
    let h : Blocks g.name these ≡ Blocks name near = is in
    cc
blocks_named p asked g displaced (Some a) name near is =
    absurd (let h : Allows g.name a ≡ Blocks name near = is in let no : ⊥ = cc in no)

missing_is : (p : Policy) (asked : Check) (name : Name) (near : List Near) (there : Url) (o : Option Governor)
    → governor p (effective_name asked) ≡ o → reason p asked ≡ Blocks name near → missing_by asked (Blocks name near) o ≡ Some there
    → IsMissing p asked name there
missing_is p asked name near there None governs is missing = absurd (let h : None ≡ Some there = missing in let no : ⊥ = cc in no)
missing_is p asked name near there (Some g) governs is missing =
    let displaced = displacement asked g.name g.directive.sources in
    let from = from_is asked displaced near there missing in
    let acts : acting p asked ≡ Some g = acts_by p asked there from.1 ∙ governs in
    record {
      governing = g;
      acts = acts;
      named = blocks_named p asked g displaced (first_of (allowances p.origin asked (is_none displaced) g)) name near
          (sym (ap (reason_by p asked) acts) ∙ is);
      is_url = from.1;
      alone = from.0;
    }

-- The laws

pub missing_allows : (p : Policy) (asked : Check) (name : Name) (near : List Near) (there : Url)
    → reason p asked ≡ Blocks name near → missing_url p asked (Blocks name near) ≡ Some there
    → allows (with_changed name (with_source (source_of there)) p) asked ≡ true
missing_allows p asked name near there is missing =
    let m = missing_is p asked name near there (governor p (effective_name asked)) refl is missing in
    let g = m.governing in
    subst (λ (n : Name). allows (with_changed n (with_source (source_of there)) p) asked ≡ true) m.named
    (allows_changed p asked g (with_source (source_of there)) (λ d. refl) m.acts (test_with p.origin asked g there m.is_url m.alone))

-- a check that is moved is governed alike
acts_moved : (p : Policy) (asked : Check) (there : Url) (redirects : ℕ) → acting p (moved there redirects asked) ≡ acting p asked
acts_moved p (check.Fetch group url count nonce integrity parser_inserted) there redirects = refl
acts_moved p (check.Base url) there redirects = refl
acts_moved p (check.Form url count) there redirects = refl
acts_moved p (check.Ancestor url) there redirects = refl
acts_moved p (check.Inline kind nonce digests) there redirects = refl
acts_moved p check.Eval there redirects = refl
acts_moved p check.Wasm there redirects = refl
acts_moved p check.OpaqueAncestor there redirects = refl
acts_moved p (check.Capability capability) there redirects = refl
acts_moved p check.WorkerStart there redirects = refl

pub missing_no_more : (p : Policy) (asked : Check) (name : Name) (near : List Near) (there other : Url) (redirects : ℕ)
    → reason p asked ≡ Blocks name near → missing_url p asked (Blocks name near) ≡ Some there
    → allows (with_changed name (with_source (source_of there)) p) (moved other redirects asked) ≡ true
    → OldOrAt (allows p (moved other redirects asked)) there other
missing_no_more p asked name near there other redirects is missing allowed =
    let m = missing_is p asked name near there (governor p (effective_name asked)) refl is missing in
    let g = m.governing in
    let change : Directive → Directive = with_source (source_of there) in
    let asks : Check = moved other redirects asked in
    let governs : acting p asks ≡ Some g = acts_moved p asked other redirects ∙ m.acts in
    let changed : Policy = with_changed g.name change p in
    let told : allows changed asks ≡ true = subst (λ (n : Name). allows (with_changed n change p) asks ≡ true) (sym m.named) allowed in
    subst (λ (b : Bool). OldOrAt b there other) (sym (governed p asks g governs))
    (test_more p.origin asked g there other redirects m.is_url
    (sym (governed changed asks (added_to there g) (acting_changed p asks g change (λ d. refl) governs)) ∙ told))
