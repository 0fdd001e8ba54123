-- The tests of `DecideFetch` decide what `Fetch` says.
use Rattle.std.proofs.Common.{ℕ, Bool, not, ◌&&◌, ◌||◌, List, Option, Some, None}
use Rattle.std.specs.Bool.{Decides}
use Rattle.std.specs.Option.{MatchOption}
use Rattle.std.proofs.lemmas.Bool.Decides.{Decides-and, Decides-or, Decides-not}
use Rattle.csp_model.specs.Names.{group_directive}
use Rattle.csp_model.specs.DecideGoverning.{allows_by, where_governed}
use Rattle.csp_model.specs.Governing.{Governor, governor, WhereGoverned}
use Rattle.csp_model.specs.Fetch.{is_redirected, fetch_rule, DynamicOrListed, SourcesAllow, FetchAllows}
use Rattle.csp_model.specs.Matching.{ListMatches}
use Rattle.csp_model.specs.DecideFetch.{dynamic_or_listed, sources_allow, fetch_allows}
use Rattle.csp_model.specs.DecideMatching.{list_matches}
use Rattle.csp_model.specs.DecideTokens.{has_keyword, nonce_matches, integrity_matches}
use Rattle.csp_model.proofs.Deciding.{yes, is_false}
use Rattle.csp_model.proofs.MatchingDecided.{list_decides}
use Rattle.csp_model.proofs.TokensDecided.{keyword_decides, nonce_decides, integrity_decides}
use Rattle.csp_model.specs.Types.{Name, FetchRule, Group, Hash, Keyword, Source, Policy, Url}

-- Where a directive governs

by_decides : (o : Option Governor) (p : Governor → Bool) (P : Governor → Type 0) → ((g : Governor) → Decides (p g) (P g))
    → Decides (allows_by o p) (MatchOption o (Unit {0}) P)
by_decides None p P each = yes tt
by_decides (Some g) p P each = each g

pub governed_decides : (policy : Policy) (effective : Name) (p : Governor → Bool) (P : Governor → Type 0)
    → ((g : Governor) → Decides (p g) (P g))
    → Decides (where_governed policy effective p) (WhereGoverned policy effective P)
governed_decides policy effective p P each = by_decides (governor policy effective) p P each

-- Fetches

dynamic_decides : (sources : List Source) (parser_inserted listed : Bool) (Listed : Type 0) → Decides listed Listed
    → Decides (dynamic_or_listed sources parser_inserted listed) (DynamicOrListed sources parser_inserted Listed)
dynamic_decides sources parser_inserted listed Listed is =
    let dynamic = has_keyword Keyword.StrictDynamic sources in
    let decided = keyword_decides Keyword.StrictDynamic sources in
    Decides-or (dynamic && not parser_inserted) (not dynamic && listed)
    (Decides-and dynamic (not parser_inserted) decided (is_false parser_inserted))
    (Decides-and (not dynamic) listed (Decides-not dynamic decided) is)

pub sources_decide : (which : FetchRule) (sources : List Source) (nonce : List ℕ) (integrity : List Hash)
    (parser_inserted listed : Bool) (Listed : Type 0) → Decides listed Listed
    → Decides (sources_allow which sources nonce integrity parser_inserted listed)
    (SourcesAllow which sources nonce integrity parser_inserted Listed)
sources_decide FetchRule.Script sources nonce integrity parser_inserted listed Listed is =
    Decides-or (nonce_matches nonce sources) (integrity_matches integrity sources || dynamic_or_listed sources parser_inserted listed)
    (nonce_decides nonce sources)
    (Decides-or (integrity_matches integrity sources) (dynamic_or_listed sources parser_inserted listed)
    (integrity_decides integrity sources) (dynamic_decides sources parser_inserted listed Listed is))
sources_decide FetchRule.Style sources nonce integrity parser_inserted listed Listed is =
    Decides-or (nonce_matches nonce sources) listed (nonce_decides nonce sources) is
sources_decide FetchRule.List sources nonce integrity parser_inserted listed Listed is = is

pub fetch_decides : (policy : Policy) (kind : Group) (there : Url) (redirects : ℕ) (nonce : List ℕ)
    (integrity : List Hash) (parser_inserted : Bool)
    → Decides (fetch_allows policy kind there redirects nonce integrity parser_inserted)
    (FetchAllows policy kind there redirects nonce integrity parser_inserted)
fetch_decides policy kind there redirects nonce integrity parser_inserted =
    let listed = λ (g : Governor). list_matches g.directive.sources policy.origin there (is_redirected redirects) in
    let Listed = λ (g : Governor). ListMatches g.directive.sources policy.origin there (is_redirected redirects) in
    governed_decides policy (group_directive kind)
    (λ g. sources_allow (fetch_rule kind g.name) g.directive.sources nonce integrity parser_inserted (listed g))
    (λ g. SourcesAllow (fetch_rule kind g.name) g.directive.sources nonce integrity parser_inserted (Listed g))
    (λ g. sources_decide (fetch_rule kind g.name) g.directive.sources nonce integrity parser_inserted (listed g) (Listed g)
    (list_decides g.directive.sources policy.origin there (is_redirected redirects)))
