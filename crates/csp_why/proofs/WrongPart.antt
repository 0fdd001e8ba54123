-- The part that keeps a source from matching, found by which parts fit.
use Rattle.std.proofs.Common.{◌≡◌, ◌∙◌, ap, refl, sym, Bool, true, false, ◌&&◌, ◌||◌, cond, ℕ, List, [], ◌∷◌, ◌++◌, Option, Some, None, nat_eq}
use Rattle.std.proofs.Common.{append_assoc, true≢false}
use Rattle.std.proofs.lemmas.Slice.Eq.{bytes_eq-Decides}
use Rattle.std.specs.List.{ends_with}
use Rattle.std.specs.Str.{bytes_eq}
use Rattle.csp_model.specs.Ascii.{code}
use Rattle.csp_model.specs.DecideEnds.{is_subdomain}
use Rattle.csp_model.specs.Paths.{host_text}
use Rattle.csp_model.proofs.EndLaws.{ends_Decides}
use Rattle.csp_model.specs.DecideMatching.{host_matches, own_scheme_matches, path_matches, port_matches, scheme_matches}
use Rattle.csp_model.specs.Schemes.{scheme_text}
use Rattle.csp_model.specs.declared.source.HostPart.{HostPart}
use Rattle.csp_model.specs.declared.source.HostPart.TheVariants as host_part
use Rattle.csp_model.specs.declared.source.PathPart.{PathPart}
use Rattle.csp_model.specs.declared.source.PortPart.{PortPart}
use Rattle.csp_model.specs.declared.source.Source.{Source}
use Rattle.csp_model.specs.declared.source.Source.TheVariants as source
use Rattle.csp_model.specs.declared.url.Host.{Host}
use Rattle.csp_model.specs.declared.url.Host.TheVariants.{Domain, Address}
use Rattle.csp_model.specs.declared.url.Origin.{Origin}
use Rattle.csp_model.specs.declared.url.Scheme.{Scheme}
use Rattle.csp_model.specs.declared.url.Url.{Url}
use Rattle.csp_model.specs.declared.url.Url.TheVariants as url
use Rattle.csp_why.specs.Near.{changed, ends_as, may_fit, some_matches, wrong_part}
use Rattle.csp_why.specs.declared.reason.Obstacle.{Obstacle}
use Rattle.csp_why.specs.declared.reason.Obstacle.TheVariants as word

no_rest : (scheme rest : Bool) → (scheme && (false && rest)) ≡ false
no_rest true rest = refl
no_rest false rest = refl

-- the host is the suffix under which the source wants it
abbrev is_suffix : HostPart → Host → Bool
is_suffix (host_part.Under suffix) host = bytes_eq suffix (host_text host)
is_suffix part host = false

-- the first part that fits by its change
abbrev first_where : Bool → Bool → Bool → Bool → Option Obstacle
first_where scheme port path suffix =
    cond scheme (Some word.Scheme) (cond port (Some word.Port) (cond path (Some word.Path)
    (cond suffix (Some word.Suffix) None)))

module _ (self : Origin) (redirected : Bool) (part : Option (List ℕ)) (under : HostPart) (ports : PortPart)
    (paths : PathPart) (there : Scheme) (host : Host) (port : Option ℕ) (pieces : List (List ℕ)) where
  abbrev fits : Obstacle → Bool
  fits which =
      some_matches (changed which self (url.Hosted there host port pieces) (source.Hosted part under ports paths)) self
      (url.Hosted there host port pieces) redirected

  abbrev with_host : Bool → Bool → Bool → Bool
  with_host scheme here rest = scheme && (here && rest)

  -- no change of another part makes another host match
  apart : (scheme here rest : Bool) → here ≡ false → with_host scheme here rest ≡ false
  apart scheme here rest other =
      ap (λ (b : Bool). with_host scheme b rest) other ∙ no_rest scheme rest

  suffix_fits : (k : HostPart) → is_suffix k host ≡ false
      → some_matches (changed word.Suffix self (url.Hosted there host port pieces) (source.Hosted part k ports paths)) self
      (url.Hosted there host port pieces) redirected ≡ false
  suffix_fits (host_part.Under suffix) other = apart (own_scheme_matches part self (scheme_text there)) _ _ other
  suffix_fits host_part.Any other = refl
  suffix_fits (host_part.Exact text) other = refl

  no_part : host_matches under host ≡ false → is_suffix under host ≡ false
      → wrong_part self (url.Hosted there host port pieces) redirected (source.Hosted part under ports paths) ≡ None
  no_part other none =
      let scheme : Bool = own_scheme_matches part self (scheme_text there) in
      let path : Bool = redirected || path_matches paths pieces in
      let ports_fit : Bool = port_matches ports port there in
      ap (λ (b : Bool). first_where b (fits word.Port) (fits word.Path) (fits word.Suffix))
      (apart (scheme_matches (scheme_text there) (scheme_text there)) (host_matches under host) (ports_fit && path) other)
      ∙ ap (λ (b : Bool). first_where false b (fits word.Path) (fits word.Suffix))
      (apart scheme (host_matches under host) path other)
      ∙ ap (λ (b : Bool). first_where false false b (fits word.Suffix))
      (apart scheme (host_matches under host) (ports_fit && (redirected || true)) other)
      ∙ ap (λ (b : Bool). first_where false false false b) (suffix_fits under none)

-- How hosts end

refute : (b : Bool) → (b ≡ true → ⊥) → b ≡ false
refute true never = absurd (never refl)
refute false never = refl

ends_where : (text front tail : List ℕ) → text ≡ front ++ tail → ends_with nat_eq text tail ≡ true
ends_where text front tail is = (ends_Decides text tail).1 (front, is)

other_text : (text tail : List ℕ) → ends_with nat_eq text tail ≡ false → bytes_eq tail text ≡ false
other_text text tail other =
    refute (bytes_eq tail text) (λ same. true≢false
    (sym (ends_where text [] tail (sym ((bytes_eq-Decides tail text).0 same))) ∙ other))

not_under : (text tail : List ℕ) → ends_with nat_eq text tail ≡ false → is_subdomain text tail ≡ false
not_under text tail other =
    refute (is_subdomain text tail) (λ under.
    let found = (ends_Decides text (code "." ∷ tail)).0 under in
    let is : text ≡ (found.0 ++ code "." ∷ []) ++ tail = found.1 ∙ sym (append_assoc found.0 (code "." ∷ []) tail) in
    true≢false (sym (ends_where text (found.0 ++ code "." ∷ []) tail is) ∙ other))

-- a host that doesn't end so isn't that of the source, and isn't its suffix
other_host : (k : HostPart) (host : Host) → ends_as k host ≡ false
    → (host_matches k host ≡ false) × (is_suffix k host ≡ false)
other_host host_part.Any host other = absurd (true≢false other)
other_host (host_part.Under suffix) (Domain text) other = (not_under text suffix other, other_text text suffix other)
other_host (host_part.Under suffix) (Address text) other = (refl, other_text text suffix other)
other_host (host_part.Exact name) host other = (other_text (host_text host) name other, refl)

pub no_wrong_part : (self : Origin) (there : Url) (redirected : Bool) (s : Source) → may_fit s there ≡ false
    → wrong_part self there redirected s ≡ None
no_wrong_part self (url.Hosted there host port pieces) redirected (source.Hosted part under ports paths) other =
    let ends = other_host under host other in
    no_part self redirected part under ports paths there host port pieces ends.0 ends.1
no_wrong_part self (url.Plain there) redirected (source.Hosted part under ports paths) other = plain under where
  plain : (k : HostPart) → wrong_part self (url.Plain there) redirected (source.Hosted part k ports paths) ≡ None
  plain host_part.Any = refl
  plain (host_part.Under suffix) = refl
  plain (host_part.Exact text) = refl
no_wrong_part self (url.Plain there) redirected source.Star other = refl
no_wrong_part self (url.Plain there) redirected (source.SchemeOnly scheme) other = absurd (true≢false other)
no_wrong_part self (url.Plain there) redirected (source.Word which) other = absurd (true≢false other)
no_wrong_part self (url.Plain there) redirected (source.Nonce value) other = refl
no_wrong_part self (url.Plain there) redirected (source.Digest hash) other = refl
no_wrong_part self (url.Plain there) redirected (source.Other token) other = refl
no_wrong_part self (url.Hosted there host port pieces) redirected source.Star other = refl
no_wrong_part self (url.Hosted there host port pieces) redirected (source.SchemeOnly scheme) other = absurd (true≢false other)
no_wrong_part self (url.Hosted there host port pieces) redirected (source.Word which) other = absurd (true≢false other)
no_wrong_part self (url.Hosted there host port pieces) redirected (source.Nonce value) other = refl
no_wrong_part self (url.Hosted there host port pieces) redirected (source.Digest hash) other = refl
no_wrong_part self (url.Hosted there host port pieces) redirected (source.Other token) other = refl
