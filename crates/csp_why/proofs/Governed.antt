-- What a policy allows by what governs, and what governs where a directive is changed.
use Rattle.std.proofs.Common.{◌≡◌, ℕ, Bool, true, false, ◌&&◌, ◌||◌, cond, List, [], ◌∷◌, map, Option, Some, None, refl, sym, ◌∙◌, ap, subst}
use Rattle.std.specs.List.{find}
use Rattle.std.specs.Option.{option_map}
use Rattle.std.specs.Str.{bytes_eq}
use Rattle.std.proofs.lemmas.Bool.{cond-true}
use Rattle.csp_model.specs.DecideFetch.{sources_allow}
use Rattle.csp_model.specs.DecideGoverning.{allows_by}
use Rattle.csp_model.specs.DecideInline.{sources_allow_inline}
use Rattle.csp_model.specs.DecideMatching.{list_matches}
use Rattle.csp_model.specs.DecideNavigation.{is_report, grants}
use Rattle.csp_model.specs.DecideTokens.{has_keyword}
use Rattle.csp_model.specs.DecideVerdict.{allows}
use Rattle.csp_model.specs.Fetch.{fetch_rule, is_redirected}
use Rattle.csp_model.specs.Governing.{Governor, governor, governor_named, is_named, fallbacks}
use Rattle.csp_model.specs.Names.{name_text}
use Rattle.csp_model.specs.Reading.{first_of}
use Rattle.csp_model.specs.Verdict.{effective_name}
use Rattle.csp_model.proofs.VerdictDecided.{ungoverned}
use Rattle.csp_model.specs.declared.check.Capability.TheVariants as capability
use Rattle.csp_model.specs.declared.check.Check.{Check}
use Rattle.csp_model.specs.declared.check.Check.TheVariants as check
use Rattle.csp_model.specs.declared.name.Name.{Name}
use Rattle.csp_model.specs.declared.policy.Directive.{Directive}
use Rattle.csp_model.specs.declared.policy.Disposition.{Disposition}
use Rattle.csp_model.specs.declared.policy.Disposition.TheVariants.{Enforce, Report}
use Rattle.csp_model.specs.declared.policy.Policy.{Policy}
use Rattle.csp_model.specs.declared.source.Keyword.TheVariants as keyword
use Rattle.csp_model.specs.declared.url.Origin.{Origin}
use Rattle.csp_why.proofs.Finding.{Each, find_passes, first_holds}
use Rattle.csp_why.specs.Laws.{change_named, with_changed}
use Rattle.csp_why.specs.Reasons.{acting, asks_sandbox}

-- Whether what governs allows the check

abbrev pub test : Origin → Check → Governor → Bool
test self (check.Fetch group there redirects nonce integrity parser_inserted) g =
    sources_allow (fetch_rule group g.name) g.directive.sources nonce integrity parser_inserted
    (list_matches g.directive.sources self there (is_redirected redirects))
test self (check.Inline kind nonce digests) g = sources_allow_inline kind nonce digests g.directive.sources
test self check.Eval g = has_keyword keyword.UnsafeEval g.directive.sources
test self check.Wasm g =
    has_keyword keyword.UnsafeEval g.directive.sources || has_keyword keyword.WasmUnsafeEval g.directive.sources
test self (check.Base there) g = list_matches g.directive.sources self there false
test self (check.Form there redirects) g = list_matches g.directive.sources self there (is_redirected redirects)
test self (check.Ancestor there) g = list_matches g.directive.sources self there false
test self check.OpaqueAncestor g = false
test self (check.Capability asked) g = grants g.directive.tokens asked
test self check.WorkerStart g =
    grants g.directive.tokens capability.Scripts && grants g.directive.tokens capability.SameOrigin

by_some : (o : Option Governor) (t : Governor → Bool) (g : Governor) → o ≡ Some g → allows_by o t ≡ t g
by_some o t g found = ap (λ (x : Option Governor). allows_by x t) found

by_enforced : (d : Disposition) (o : Option Governor) (t : Governor → Bool) (g : Governor)
    → cond (is_report d) None o ≡ Some g → (is_report d || allows_by o t) ≡ t g
by_enforced Enforce o t g found = by_some o t g found
by_enforced Report o t g found = absurd (let h : None ≡ Some g = found in let no : ⊥ = cc in no)

pub governed : (p : Policy) (asked : Check) (g : Governor) → acting p asked ≡ Some g → allows p asked ≡ test p.origin asked g
governed p (check.Fetch group there redirects nonce integrity parser_inserted) g found =
    by_some _ (test p.origin (check.Fetch group there redirects nonce integrity parser_inserted)) g found
governed p (check.Inline kind nonce digests) g found = by_some _ (test p.origin (check.Inline kind nonce digests)) g found
governed p check.Eval g found = by_some _ (test p.origin check.Eval) g found
governed p check.Wasm g found = by_some _ (test p.origin check.Wasm) g found
governed p (check.Base there) g found = by_some _ (test p.origin (check.Base there)) g found
governed p (check.Form there redirects) g found = by_some _ (test p.origin (check.Form there redirects)) g found
governed p (check.Ancestor there) g found = by_some _ (test p.origin (check.Ancestor there)) g found
governed p check.OpaqueAncestor g found = by_some _ (test p.origin check.OpaqueAncestor) g found
governed p (check.Capability asked) g found = by_enforced p.disposition _ (test p.origin (check.Capability asked)) g found
governed p check.WorkerStart g found = by_enforced p.disposition _ (test p.origin check.WorkerStart) g found

-- Where nothing governs

none_enforced : (d : Disposition) (o : Option Governor) (t : Governor → Bool)
    → cond (is_report d) None o ≡ None → (is_report d || allows_by o t) ≡ true
none_enforced Enforce o t none = ap (λ (x : Option Governor). allows_by x t) none
none_enforced Report o t none = refl

pub not_governed : (p : Policy) (asked : Check) → acting p asked ≡ None → allows p asked ≡ true
not_governed p (check.Fetch group there redirects nonce integrity parser_inserted) none =
    ungoverned p (check.Fetch group there redirects nonce integrity parser_inserted) none
not_governed p (check.Inline kind nonce digests) none = ungoverned p (check.Inline kind nonce digests) none
not_governed p check.Eval none = ungoverned p check.Eval none
not_governed p check.Wasm none = ungoverned p check.Wasm none
not_governed p (check.Base there) none = ungoverned p (check.Base there) none
not_governed p (check.Form there redirects) none = ungoverned p (check.Form there redirects) none
not_governed p (check.Ancestor there) none = ungoverned p (check.Ancestor there) none
not_governed p check.OpaqueAncestor none = ungoverned p check.OpaqueAncestor none
not_governed p (check.Capability asked) none = none_enforced p.disposition _ (test p.origin (check.Capability asked)) none
not_governed p check.WorkerStart none = none_enforced p.disposition _ (test p.origin check.WorkerStart) none

-- A directive changed

abbrev on : (Directive → Directive) → Governor → Governor
on change g = record { name = g.name; directive = change g.directive }

find_changed : (name : Name) (change : Directive → Directive) → ((d : Directive) → (change d).name ≡ d.name) → (ds : List Directive)
    → find (is_named name) (map change ds) ≡ option_map change (find (is_named name) ds)
find_changed name change keeps [] = refl
find_changed name change keeps (d ∷ ds) =
    subst (λ (n : List ℕ). cond (bytes_eq n (name_text name)) (Some (change d)) (find (is_named name) (map change ds))
    ≡ option_map change (find (is_named name) (d ∷ ds))) (sym (keeps d))
    (elim (is_named name d) as (λ b. cond b (Some (change d)) (find (is_named name) (map change ds))
    ≡ option_map change (cond b (Some d) (find (is_named name) ds))) [ true ↦ refl | false ↦ find_changed name change keeps ds ])

named_changed : (change : Directive → Directive) → ((d : Directive) → (change d).name ≡ d.name) → (ds : List Directive) (name : Name)
    → governor_named (map change ds) name ≡ option_map (on change) (governor_named ds name)
unfolding governor_named
named_changed change keeps ds name =
    ap (option_map (λ (d : Directive). record { name = name; directive = d })) (find_changed name change keeps ds)
    ∙ elim (find (is_named name) ds) as (λ o. option_map (λ (d : Directive). record { name = name; directive = d }) (option_map change o)
    ≡ option_map (on change) (option_map (λ (d : Directive). record { name = name; directive = d }) o)) [ None ↦ refl | Some d ↦ refl ]

first_changed : (change : Directive → Directive) → ((d : Directive) → (change d).name ≡ d.name) → (ds : List Directive) (names : List Name)
    → first_of (map (governor_named (map change ds)) names) ≡ option_map (on change) (first_of (map (governor_named ds) names))
first_changed change keeps ds [] = refl
first_changed change keeps ds (name ∷ names) =
    subst (λ (o : Option Governor). first_of (o ∷ map (governor_named (map change ds)) names)
    ≡ option_map (on change) (first_of (map (governor_named ds) (name ∷ names)))) (sym (named_changed change keeps ds name))
    (elim (governor_named ds name) as (λ o. first_of (option_map (on change) o ∷ map (governor_named (map change ds)) names)
    ≡ option_map (on change) (first_of (o ∷ map (governor_named ds) names))) [ None ↦ first_changed change keeps ds names | Some g ↦ refl ])

abbrev HasItsName : Governor → Type 0
HasItsName g = is_named g.name g.directive ≡ true

of_found : (ds : List Directive) (name : Name) (o : Option Directive) (g : Governor) → find (is_named name) ds ≡ o
    → option_map (λ (d : Directive). record { name = name; directive = d }) o ≡ Some g → HasItsName g
of_found ds name None g found some = absurd (let h : None ≡ Some g = some in let no : ⊥ = cc in no)
of_found ds name (Some d) g found some =
    let h : Some (record { name = name; directive = d }) ≡ Some g = some in
    let e : record { name = name; directive = d } ≡ g = cc in
    subst HasItsName e (find_passes (is_named name) ds d found)

is_its_name : (ds : List Directive) (name : Name) (g : Governor) → governor_named ds name ≡ Some g → HasItsName g
unfolding governor_named
is_its_name ds name g some = of_found ds name (find (is_named name) ds) g refl some

each_has_its_name : (ds : List Directive) (names : List Name) → Each HasItsName (map (governor_named ds) names)
each_has_its_name ds [] = tt
each_has_its_name ds (name ∷ names) = (is_its_name ds name, each_has_its_name ds names)

keeps_named : (name : Name) (change : Directive → Directive) → ((d : Directive) → (change d).name ≡ d.name)
    → (d : Directive) → (change_named name change d).name ≡ d.name
keeps_named name change keeps d =
    elim (is_named name d) as (λ b. (cond b (change d) d).name ≡ d.name) [ true ↦ keeps d | false ↦ refl ]

governor_changed : (p : Policy) (effective : Name) (g : Governor) (change : Directive → Directive)
    → ((d : Directive) → (change d).name ≡ d.name) → governor p effective ≡ Some g
    → governor (with_changed g.name change p) effective ≡ Some (on change g)
governor_changed p effective g change keeps found =
    first_changed (change_named g.name change) (keeps_named g.name change keeps) p.directives (fallbacks effective)
    ∙ (ap (option_map (on (change_named g.name change))) found
    ∙ ap (λ (d : Directive). Some (record { name = g.name; directive = d }))
    (cond-true (is_named g.name g.directive) (change g.directive) g.directive
    (first_holds HasItsName (map (governor_named p.directives) (fallbacks effective)) g
    (each_has_its_name p.directives (fallbacks effective)) found)))

acts_like : (b : Bool) (first second : Option Governor) (g h : Governor)
    → (first ≡ Some g → second ≡ Some h) → cond b None first ≡ Some g → cond b None second ≡ Some h
acts_like true first second g h like found = absurd (let e : None ≡ Some g = found in let no : ⊥ = cc in no)
acts_like false first second g h like found = like found

-- where the directive that governs is changed, it governs still
pub acting_changed : (p : Policy) (asked : Check) (g : Governor) (change : Directive → Directive)
    → ((d : Directive) → (change d).name ≡ d.name) → acting p asked ≡ Some g
    → acting (with_changed g.name change p) asked ≡ Some (on change g)
acting_changed p asked g change keeps found =
    acts_like (asks_sandbox asked && is_report p.disposition) (governor p (effective_name asked))
    (governor (with_changed g.name change p) (effective_name asked)) g (on change g)
    (governor_changed p (effective_name asked) g change keeps) found

-- so the changed policy allows what the changed directive allows
pub allows_changed : (p : Policy) (asked : Check) (g : Governor) (change : Directive → Directive)
    → ((d : Directive) → (change d).name ≡ d.name) → acting p asked ≡ Some g
    → test p.origin asked (record { name = g.name; directive = change g.directive }) ≡ true
    → allows (with_changed g.name change p) asked ≡ true
allows_changed p asked g change keeps found passes =
    governed (with_changed g.name change p) asked (on change g) (acting_changed p asked g change keeps found) ∙ passes
