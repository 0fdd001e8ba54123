-- Checks that differ by a host, a nonce or digests that no atom names.
use Rattle.std.proofs.Common.{◌≡◌, ◌∙◌, ap, refl, sym, ℕ, Bool, false, List, Option, Some, None}
use Rattle.std.specs.Option.{option_map}
use Rattle.std.specs.Prelude.{◌==◌, unwrap_or}
use Rattle.std.specs.Str.{bytes_eq}
use Rattle.csp_model.specs.DecideEnds.{is_host_under}
use Rattle.csp_model.specs.DecideEquality.{same_host}
use Rattle.csp_model.specs.DecideMatching.{is_domain_host, path_matches}
use Rattle.csp_model.specs.Parts.{checked_digests, checked_integrity, checked_nonce, checked_url}
use Rattle.csp_model.specs.Policies.{IsReadable}
use Rattle.csp_model.specs.Schemes.{default_port}
use Rattle.csp_model.specs.Validity.{IsValidCheck}
use Rattle.csp_model.specs.Verdict.{list_allows}
use Rattle.csp_model.specs.declared.check.Check.{Check}
use Rattle.csp_model.specs.declared.check.Check.TheVariants as check
use Rattle.csp_model.specs.declared.check.Digests.{Digests}
use Rattle.csp_model.specs.declared.policy.PolicyList.{PolicyList}
use Rattle.csp_model.specs.declared.source.Hash.{Hash}
use Rattle.csp_model.specs.declared.source.PathPart.TheVariants as path_part
use Rattle.csp_model.specs.declared.url.Host.{Host}
use Rattle.csp_model.specs.declared.url.Scheme.{Scheme}
use Rattle.csp_model.specs.declared.url.Url.{Url}
use Rattle.csp_model.specs.declared.url.Url.TheVariants as url
use Rattle.csp_facts.specs.Holding.{has_digest, has_hash, has_other, holds, on_hosted, on_part, on_plain}
use Rattle.csp_facts.specs.declared.atom.Atom.{Atom}
use Rattle.csp_facts.specs.declared.atom.Atom.TheVariants.{HostIs, HostUnder, HostDomain, PortIs, PathIs, PathUnder, SchemeIs, NonceIs, IntegrityHas, IntegrityOutside, DigestIs}
use Rattle.csp_facts.specs.Shapes.{HasShape}
use Rattle.csp_facts.specs.declared.shape.Shape.{Shape}
use Rattle.csp_facts.specs.declared.shape.Shape.TheVariants as shape
use Rattle.csp_formula.specs.Strangers.{HaveHashesOf, NoneNames, at_host, with_digests, with_host, with_nonce}
use Rattle.csp_formula.specs.Strangers.{names_digests, names_host, names_nonce}
use Rattle.csp_formula.proofs.AlikeChecks.{SaysIt, allowed_alike, none_agree}

-- Hosts

urls : (host : Host) (asked : Check) → checked_url (with_host host asked) ≡ option_map (at_host host) (checked_url asked)
urls host (check.Fetch group there redirects nonce integrity parser_inserted) = refl
urls host (check.Form there redirects) = refl
urls host (check.Base there) = refl
urls host (check.Ancestor there) = refl
urls host (check.Inline kind nonce digests) = refl
urls host check.Eval = refl
urls host check.Wasm = refl
urls host check.OpaqueAncestor = refl
urls host (check.Capability capability) = refl
urls host check.WorkerStart = refl

nonces : (host : Host) (asked : Check) → checked_nonce (with_host host asked) ≡ checked_nonce asked
nonces host (check.Fetch group there redirects nonce integrity parser_inserted) = refl
nonces host (check.Form there redirects) = refl
nonces host (check.Base there) = refl
nonces host (check.Ancestor there) = refl
nonces host (check.Inline kind nonce digests) = refl
nonces host check.Eval = refl
nonces host check.Wasm = refl
nonces host check.OpaqueAncestor = refl
nonces host (check.Capability capability) = refl
nonces host check.WorkerStart = refl

pairs : (host : Host) (asked : Check) → checked_integrity (with_host host asked) ≡ checked_integrity asked
pairs host (check.Fetch group there redirects nonce integrity parser_inserted) = refl
pairs host (check.Form there redirects) = refl
pairs host (check.Base there) = refl
pairs host (check.Ancestor there) = refl
pairs host (check.Inline kind nonce digests) = refl
pairs host check.Eval = refl
pairs host check.Wasm = refl
pairs host check.OpaqueAncestor = refl
pairs host (check.Capability capability) = refl
pairs host check.WorkerStart = refl

digests_kept : (host : Host) (asked : Check) → checked_digests (with_host host asked) ≡ checked_digests asked
digests_kept host (check.Fetch group there redirects nonce integrity parser_inserted) = refl
digests_kept host (check.Form there redirects) = refl
digests_kept host (check.Base there) = refl
digests_kept host (check.Ancestor there) = refl
digests_kept host (check.Inline kind nonce digests) = refl
digests_kept host check.Eval = refl
digests_kept host check.Wasm = refl
digests_kept host check.OpaqueAncestor = refl
digests_kept host (check.Capability capability) = refl
digests_kept host check.WorkerStart = refl

abbrev OnParts : Type 0
OnParts = Scheme → Host → Option ℕ → List (List ℕ) → Bool

module _ (one other : Host) where
  hosted_alike : (test : OnParts)
      → ((s : Scheme) (p : Option ℕ) (path : List (List ℕ)) → test s one p path ≡ test s other p path)
      → (u : Option Url) → on_hosted (option_map (at_host one) u) test ≡ on_hosted (option_map (at_host other) u) test
  hosted_alike test same None = refl
  hosted_alike test same (Some (url.Plain scheme)) = refl
  hosted_alike test same (Some (url.Hosted scheme host port path)) = same scheme port path

  plain_alike : (test : List ℕ → Bool) (u : Option Url)
      → on_plain (option_map (at_host one) u) test ≡ on_plain (option_map (at_host other) u) test
  plain_alike test None = refl
  plain_alike test (Some (url.Plain scheme)) = refl
  plain_alike test (Some (url.Hosted scheme host port path)) = refl

  on_urls : (test : OnParts) (asked : Check)
      → ((s : Scheme) (p : Option ℕ) (path : List (List ℕ)) → test s one p path ≡ test s other p path)
      → on_hosted (checked_url (with_host one asked)) test ≡ on_hosted (checked_url (with_host other asked)) test
  on_urls test asked same =
      ap (λ u. on_hosted u test) (urls one asked)
      ∙ hosted_alike test same (checked_url asked)
      ∙ sym (ap (λ u. on_hosted u test) (urls other asked))

  hosts_agree : (hashes : List Hash) (asked : Check) → is_domain_host one ≡ is_domain_host other
      → (a : Atom) → names_host one a ≡ false → names_host other a ≡ false
      → holds hashes (with_host one asked) a ≡ holds hashes (with_host other asked) a
  hosts_agree hashes asked kind (HostIs host) first second =
      on_urls (λ s there p path. same_host there host) asked (λ s p path. first ∙ sym second)
  hosts_agree hashes asked kind (HostUnder suffix) first second =
      on_urls (λ s there p path. is_host_under there suffix) asked (λ s p path. first ∙ sym second)
  hosts_agree hashes asked kind HostDomain first second =
      on_urls (λ s there p path. is_domain_host there) asked (λ s p path. kind)
  hosts_agree hashes asked kind (PortIs n) first second =
      on_urls (λ s there p path. unwrap_or p (default_port s) == n) asked (λ s p path. refl)
  hosts_agree hashes asked kind (PathIs pieces) first second =
      on_urls (λ s there p path. path_matches (path_part.Exact pieces) path) asked (λ s p path. refl)
  hosts_agree hashes asked kind (PathUnder pieces) first second =
      on_urls (λ s there p path. path_matches (path_part.Prefix pieces) path) asked (λ s p path. refl)
  hosts_agree hashes asked kind (SchemeIs scheme) first second =
      ap (λ u. on_plain u (λ there. bytes_eq there scheme)) (urls one asked)
      ∙ plain_alike (λ there. bytes_eq there scheme) (checked_url asked)
      ∙ sym (ap (λ u. on_plain u (λ there. bytes_eq there scheme)) (urls other asked))
  hosts_agree hashes asked kind (NonceIs value) first second =
      ap (λ n. on_part n (λ nonce. bytes_eq nonce value)) (nonces one asked ∙ sym (nonces other asked))
  hosts_agree hashes asked kind (IntegrityHas hash) first second =
      ap (λ h. on_part h (λ these. has_hash these hash)) (pairs one asked ∙ sym (pairs other asked))
  hosts_agree hashes asked kind IntegrityOutside first second =
      ap (λ h. on_part h (has_other hashes)) (pairs one asked ∙ sym (pairs other asked))
  hosts_agree hashes asked kind (DigestIs digest) first second =
      ap (λ d. on_part d (λ digests. has_digest digests digest)) (digests_kept one asked ∙ sym (digests_kept other asked))

  host_shape : (asked : Check) (kind : Shape) → HasShape (with_host one asked) kind → HasShape (with_host other asked) kind
  host_shape (check.Fetch group (url.Hosted scheme host port path) redirects nonce integrity parser_inserted)
      (shape.Fetch same s redirected parser) is = is
  host_shape (check.Form (url.Hosted scheme host port path) redirects) (shape.Form s redirected) is = is
  host_shape (check.Base (url.Hosted scheme host port path)) (shape.Base s) is = is
  host_shape (check.Ancestor (url.Hosted scheme host port path)) (shape.Ancestor s) is = is
  host_shape asked kind is = is

pub hosts_alike : SaysIt → (list : PolicyList) (kind : Shape) (hashes : List Hash) (asked : Check) (one other : Host)
    → IsReadable list → HaveHashesOf hashes list → is_domain_host one ≡ is_domain_host other
    → NoneNames (names_host one) list kind hashes → NoneNames (names_host other) list kind hashes
    → IsValidCheck (with_host one asked) → IsValidCheck (with_host other asked) → HasShape (with_host one asked) kind
    → list_allows list (with_host one asked) ≡ list_allows list (with_host other asked)
hosts_alike says list kind hashes asked one other readable has domains none none_other valid valid_other shaped =
    allowed_alike says list kind hashes (with_host one asked) (with_host other asked) readable has valid valid_other shaped
    (host_shape one other asked kind shaped)
    (none_agree (names_host one) (names_host other) list kind hashes (with_host one asked) (with_host other asked)
    (hosts_agree one other hashes asked domains) none none_other)

-- Nonces

nonces_agree : (one other : List ℕ) (hashes : List Hash) (asked : Check) (a : Atom)
    → names_nonce one a ≡ false → names_nonce other a ≡ false
    → holds hashes (with_nonce one asked) a ≡ holds hashes (with_nonce other asked) a
nonces_agree one other hashes (check.Fetch group there redirects nonce integrity parser_inserted) (NonceIs value) first second = first ∙ sym second
nonces_agree one other hashes (check.Inline kind nonce digests) (NonceIs value) first second = first ∙ sym second
nonces_agree one other hashes asked a first second = refl

nonce_shape : (one other : List ℕ) (asked : Check) (kind : Shape) → HasShape (with_nonce one asked) kind → HasShape (with_nonce other asked) kind
nonce_shape one other (check.Fetch group there redirects nonce integrity parser_inserted) (shape.Fetch same s redirected parser) is = is
nonce_shape one other (check.Inline which nonce digests) (shape.Inline same) is = is
nonce_shape one other asked kind is = is

pub nonces_alike : SaysIt → (list : PolicyList) (kind : Shape) (hashes : List Hash) (asked : Check) (one other : List ℕ)
    → IsReadable list → HaveHashesOf hashes list
    → NoneNames (names_nonce one) list kind hashes → NoneNames (names_nonce other) list kind hashes
    → IsValidCheck (with_nonce one asked) → IsValidCheck (with_nonce other asked) → HasShape (with_nonce one asked) kind
    → list_allows list (with_nonce one asked) ≡ list_allows list (with_nonce other asked)
nonces_alike says list kind hashes asked one other readable has none none_other valid valid_other shaped =
    allowed_alike says list kind hashes (with_nonce one asked) (with_nonce other asked) readable has valid valid_other shaped
    (nonce_shape one other asked kind shaped)
    (none_agree (names_nonce one) (names_nonce other) list kind hashes (with_nonce one asked) (with_nonce other asked)
    (nonces_agree one other hashes asked) none none_other)

-- Digests

digests_agree : (one other : Digests) (hashes : List Hash) (asked : Check) (a : Atom)
    → names_digests one a ≡ false → names_digests other a ≡ false
    → holds hashes (with_digests one asked) a ≡ holds hashes (with_digests other asked) a
digests_agree one other hashes (check.Inline kind nonce digests) (DigestIs digest) first second = first ∙ sym second
digests_agree one other hashes asked a first second = refl

digests_shape : (one other : Digests) (asked : Check) (kind : Shape) → HasShape (with_digests one asked) kind → HasShape (with_digests other asked) kind
digests_shape one other (check.Inline which nonce digests) (shape.Inline same) is = is
digests_shape one other asked kind is = is

pub digests_alike : SaysIt → (list : PolicyList) (kind : Shape) (hashes : List Hash) (asked : Check) (one other : Digests)
    → IsReadable list → HaveHashesOf hashes list
    → NoneNames (names_digests one) list kind hashes → NoneNames (names_digests other) list kind hashes
    → IsValidCheck (with_digests one asked) → IsValidCheck (with_digests other asked) → HasShape (with_digests one asked) kind
    → list_allows list (with_digests one asked) ≡ list_allows list (with_digests other asked)
digests_alike says list kind hashes asked one other readable has none none_other valid valid_other shaped =
    allowed_alike says list kind hashes (with_digests one asked) (with_digests other asked) readable has valid valid_other shaped
    (digests_shape one other asked kind shaped)
    (none_agree (names_digests one) (names_digests other) list kind hashes (with_digests one asked) (with_digests other asked)
    (digests_agree one other hashes asked) none none_other)
