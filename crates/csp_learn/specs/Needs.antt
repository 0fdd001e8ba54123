-- What the fetches of a log need: a source expression of their effective directive (Content Security Policy
-- Level 3, sections 2.3.1 and 6.8.1). The rules of what is needed are this project's own.
use Rattle.std.specs.Prelude.{ℕ, Bool, true, ◌&&◌, nat_le, if◌then◌else◌, List, [], ◌++◌, length, fold, Option, Some, None, unwrap_or, codes, decimal, IsTrue}
use Rattle.std.specs.BTreeSet.{insert_key}
use Rattle.std.specs.Cmp.Lexicographic.{slice_cmp}
use Rattle.std.specs.List.{list_all}
use Rattle.std.specs.Ordering.{nat_cmp, ordering_then}
use Rattle.std.specs.declared.cmp.Ordering.{Ordering}
use Rattle.csp_model.specs.Ascii.{is_ascii_text}
use Rattle.csp_model.specs.Grammar.{is_name}
use Rattle.csp_model.specs.Names.{name_text, group_directive}
use Rattle.csp_model.specs.Paths.{host_text}
use Rattle.csp_model.specs.Policies.{text_limit}
use Rattle.csp_model.specs.Schemes.{scheme_text, default_port}
use Rattle.csp_model.specs.declared.check.Check.{Check}
use Rattle.csp_model.specs.declared.check.Check.TheVariants as check
use Rattle.csp_model.specs.declared.source.HostPart.TheVariants as host_part
use Rattle.csp_model.specs.declared.source.PathPart.TheVariants as path_part
use Rattle.csp_model.specs.declared.source.PortPart.TheVariants as port_part
use Rattle.csp_model.specs.declared.source.Source.{Source}
use Rattle.csp_model.specs.declared.source.Source.TheVariants as source
use Rattle.csp_model.specs.declared.url.Scheme.{Scheme}
use Rattle.csp_model.specs.declared.url.Url.{Url}
use Rattle.csp_model.specs.declared.url.Url.TheVariants as url
use Rattle.csp_learn.specs.declared.need.Need.{Need}

-- the port that the URL means, be it written or not
abbrev pub effective_port : Scheme → Option ℕ → ℕ
effective_port scheme port = unwrap_or port (default_port scheme)

-- the source that a fetch of this URL needs: its scheme, its very host and its port, or its scheme alone
abbrev pub needed_source : Url → Source
needed_source (url.Plain scheme) = source.SchemeOnly scheme
needed_source (url.Hosted scheme host port path) =
    source.Hosted (Some (scheme_text scheme)) (host_part.Exact (host_text host))
    (port_part.Number (effective_port scheme port)) path_part.Absent

-- the token of that source
abbrev pub needed_token : Url → List ℕ
needed_token (url.Plain scheme) = scheme ++ codes ":"
needed_token (url.Hosted scheme host port path) =
    scheme_text scheme
    ++ (codes "://" ++ (host_text host ++ (codes ":" ++ decimal (effective_port scheme port))))

-- A source can name the URL's host: it is made of labels of letters, digits and "-", as many domains are, and
-- each address of four numbers, and no address in brackets. A URL without a host is named by its scheme.
abbrev pub has_named_host : Url → Bool
has_named_host (url.Plain scheme) = true
has_named_host (url.Hosted scheme host port path) = is_name (host_text host)

-- a source can name the URL, by a token that a policy file may have
unfoldable pub can_be_named : Url → Bool
can_be_named there = has_named_host there && nat_le (length (needed_token there)) text_limit

-- the need of a fetch of such a URL: the name of its effective directive, and a token for it
abbrev pub need_of : Check → Option Need
need_of (check.Fetch group there redirects nonce integrity parser_inserted) =
    if can_be_named there
    then Some (record { directive = name_text (group_directive group); token = needed_token there })
    else None
need_of asked = None

-- by the bytes of the directives, and in one directive by those of the tokens
abbrev pub need_cmp : Need → Need → Ordering
need_cmp a b = ordering_then (slice_cmp nat_cmp a.directive b.directive) (slice_cmp nat_cmp a.token b.token)

-- the needs, and one more where it is not among them
abbrev pub with_need : List Need → Option Need → List Need
with_need needs None = needs
with_need needs (Some need) = insert_key need_cmp needs need

-- the needs of these checks, each once and in order
abbrev pub needs_of : List Check → List Need
needs_of checks = fold (λ needs asked. with_need needs (need_of asked)) [] checks

-- as many sources as a policy file may have, with 'none' among them
abbrev pub need_limit : ℕ
need_limit = 1023

-- each token is ASCII, as source expressions are
abbrev pub AreAscii : List Need → Type 0
AreAscii needs = IsTrue (list_all (λ (need : Need). is_ascii_text need.token) needs)
