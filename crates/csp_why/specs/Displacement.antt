-- What takes the place of other tokens of a directive, so that these don't count.
use Rattle.std.specs.Prelude.{Bool, true, false, ◌&&◌, if◌then◌else◌, List, Option, Some, None}
use Rattle.std.specs.List.{list_any}
use Rattle.csp_model.specs.DecideTokens.{has_keyword}
use Rattle.csp_model.specs.Fetch.{fetch_rule}
use Rattle.csp_model.specs.Inline.{is_script_kind}
use Rattle.csp_model.specs.declared.check.Check.{Check}
use Rattle.csp_model.specs.declared.check.Check.TheVariants as check
use Rattle.csp_model.specs.declared.check.FetchRule.{FetchRule}
use Rattle.csp_model.specs.declared.check.FetchRule.TheVariants as fetch
use Rattle.csp_model.specs.declared.name.Name.{Name}
use Rattle.csp_model.specs.declared.source.Keyword.TheVariants as keyword
use Rattle.csp_model.specs.declared.source.Source.{Source}
use Rattle.csp_model.specs.declared.source.Source.TheVariants as source
use Rattle.csp_why.specs.declared.reason.Obstacle.{Obstacle}
use Rattle.csp_why.specs.declared.reason.Obstacle.TheVariants as word

abbrev pub is_nonce_source : Source → Bool
is_nonce_source (source.Nonce value) = true
is_nonce_source s = false

abbrev pub is_hash_source : Source → Bool
is_hash_source (source.Digest hash) = true
is_hash_source s = false

-- a script's URL isn't matched beside 'strict-dynamic'
abbrev pub displaces_sources : FetchRule → List Source → Option Obstacle
displaces_sources fetch.Script sources =
    if has_keyword keyword.StrictDynamic sources then Some word.StrictDynamic else None
displaces_sources which sources = None

-- 'unsafe-inline' is void beside a nonce or a hash, and for code beside 'strict-dynamic'
abbrev pub displaces_unsafe_inline : Bool → List Source → Option Obstacle
displaces_unsafe_inline is_code sources =
    if list_any is_nonce_source sources then Some word.Nonce
    else if list_any is_hash_source sources then Some word.Hash
    else if is_code && has_keyword keyword.StrictDynamic sources then Some word.StrictDynamic
    else None

abbrev pub displacement : Check → Name → List Source → Option Obstacle
displacement (check.Fetch group there redirects nonce integrity parser_inserted) governing sources =
    displaces_sources (fetch_rule group governing) sources
displacement (check.Inline kind nonce digests) governing sources =
    displaces_unsafe_inline (is_script_kind kind) sources
displacement asked governing sources = None
