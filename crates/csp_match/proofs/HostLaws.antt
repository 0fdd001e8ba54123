-- The host-sources that match a URL, by their hosts.
use Rattle.std.proofs.Common.{◌≡◌, ℕ, Bool, true, false, ◌&&◌, ◌||◌, List, refl, sym, ◌∙◌, ap}
use Rattle.std.specs.List.{list_any}
use Rattle.std.specs.Str.{bytes_eq}
use Rattle.csp_model.specs.DecideMatching.{host_matches}
use Rattle.csp_match.specs.Types.{Host, HostPart, HostedUrl}
use Rattle.csp_model.specs.declared.url.Host.TheVariants.{Domain, Address}
use Rattle.csp_model.specs.Paths.{host_text}
use Rattle.csp_match.specs.Keys.{Parts}
use Rattle.csp_match.specs.Under.{parts_match, rest_matches, same_part, any_under, is_suffixed, any_suffixed}
use Rattle.csp_match.proofs.AnyLaws.{or_false, any_or, any_alike}

host_first : (a b c d : Bool) → (a && (b && (c && d))) ≡ (b && ((c && a) && d))
host_first true b true d = refl
host_first true b false d = refl
host_first false true true d = refl
host_first false true false d = refl
host_first false false c d = refl

pub host_then_rest : (asked : HostedUrl) (sources : List Parts)
    → list_any (parts_match asked) sources ≡ list_any (λ s. host_matches s.host asked.host.now && rest_matches asked s) sources
host_then_rest asked sources = any_alike (parts_match asked) (λ (s : Parts). host_matches s.host asked.host.now && rest_matches asked s) sources
    (λ (s : Parts). host_first _ (host_matches s.host asked.host.now) _ _)

domain_host : (part : HostPart) (text : List ℕ)
    → host_matches part (Domain text) ≡ (same_part part (HostPart.Exact text) || (same_part part HostPart.Any || is_suffixed text part))
domain_host HostPart.Any text = refl
domain_host (HostPart.Under suffix) text = refl
domain_host (HostPart.Exact own) text = sym (or_false (bytes_eq own text))

address_host : (part : HostPart) (text : List ℕ) → host_matches part (Address text) ≡ same_part part (HostPart.Exact text)
address_host HostPart.Any text = refl
address_host (HostPart.Under suffix) text = refl
address_host (HostPart.Exact own) text = refl

three_or : (a b c d : Bool) → ((a || (b || c)) && d) ≡ ((a && d) || ((b && d) || (c && d)))
three_or true b c true = refl
three_or true true true false = refl
three_or true true false false = refl
three_or true false true false = refl
three_or true false false false = refl
three_or false true c true = refl
three_or false true true false = refl
three_or false true false false = refl
three_or false false c d = refl

domain_matches : (text : List ℕ) (asked : HostedUrl) (sources : List Parts) → asked.host.now ≡ Domain text
    → list_any (parts_match asked) sources
    ≡ (any_under (HostPart.Exact text) asked sources || (any_under HostPart.Any asked sources || any_suffixed text asked sources))
domain_matches text asked sources is =
    let rest = rest_matches asked in
    let exact = λ (s : Parts). same_part s.host (HostPart.Exact text) && rest s in
    let any = λ (s : Parts). same_part s.host HostPart.Any && rest s in
    let suffix = λ (s : Parts). is_suffixed text s.host && rest s in
    host_then_rest asked sources
    ∙ (any_alike _ (λ (s : Parts). exact s || (any s || suffix s)) sources
    (λ (s : Parts). ap (λ (h : Host). host_matches s.host h && rest s) is
    ∙ (ap (λ (b : Bool). b && rest s) (domain_host s.host text)
    ∙ three_or (same_part s.host (HostPart.Exact text)) (same_part s.host HostPart.Any) (is_suffixed text s.host) (rest s)))
    ∙ (any_or exact (λ (s : Parts). any s || suffix s) sources
    ∙ ap (λ (b : Bool). list_any exact sources || b) (any_or any suffix sources)))

address_matches : (text : List ℕ) (asked : HostedUrl) (sources : List Parts) → asked.host.now ≡ Address text
    → list_any (parts_match asked) sources ≡ any_under (HostPart.Exact text) asked sources
address_matches text asked sources is =
    let rest = rest_matches asked in
    host_then_rest asked sources
    ∙ any_alike _ (λ (s : Parts). same_part s.host (HostPart.Exact text) && rest s) sources
    (λ (s : Parts). ap (λ (h : Host). host_matches s.host h && rest s) is ∙ ap (λ (b : Bool). b && rest s) (address_host s.host text))

-- the host-sources that match by "*" or by a suffix
abbrev pub any_wider : Host → HostedUrl → List Parts → Bool
any_wider (Domain text) asked sources = any_under HostPart.Any asked sources || any_suffixed text asked sources
any_wider (Address text) asked sources = false

by_host : (host : Host) (asked : HostedUrl) (sources : List Parts) → asked.host.now ≡ host
    → list_any (parts_match asked) sources
    ≡ (any_under (HostPart.Exact (host_text host)) asked sources || any_wider host asked sources)
by_host (Domain text) asked sources is = domain_matches text asked sources is
by_host (Address text) asked sources is = address_matches text asked sources is ∙ sym (or_false _)

matches_by_host : (asked : HostedUrl) (sources : List Parts)
    → list_any (parts_match asked) sources
    ≡ (any_under (HostPart.Exact (host_text asked.host.now)) asked sources || any_wider asked.host.now asked sources)
matches_by_host asked sources = by_host asked.host.now asked sources refl

-- what is found under the host itself, and else by "*" or a suffix
pub by_exact : (text : List ℕ) (asked : HostedUrl) (sources : List Parts) → text ≡ host_text asked.host.now
    → any_under (HostPart.Exact text) asked sources ≡ true → true ≡ list_any (parts_match asked) sources
by_exact text asked sources is some =
    let exact = λ (t : List ℕ). any_under (HostPart.Exact t) asked sources in
    sym (matches_by_host asked sources ∙ ap (λ (b : Bool). b || any_wider asked.host.now asked sources) (sym (ap exact is) ∙ some))

pub by_wider : (text : List ℕ) (asked : HostedUrl) (sources : List Parts) (found : Bool) → text ≡ host_text asked.host.now
    → any_under (HostPart.Exact text) asked sources ≡ false
    → (host : Host) → asked.host.now ≡ host → found ≡ any_wider host asked sources
    → found ≡ list_any (parts_match asked) sources
by_wider text asked sources found is none host there wider =
    let exact = λ (t : List ℕ). any_under (HostPart.Exact t) asked sources in
    wider ∙ (ap (λ (h : Host). any_wider h asked sources) (sym there)
    ∙ sym (matches_by_host asked sources ∙ ap (λ (b : Bool). b || any_wider asked.host.now asked sources) (sym (ap exact is) ∙ none)))
