-- The law of parts: whether a literal is true of a check is what the part that it speaks of says.
use Rattle.std.proofs.Common.{◌≡◌, ◌∙◌, ap, ℕ, Bool, true, false, not, if◌then◌else◌, List, Some}
use Rattle.std.specs.Prelude.{unwrap_or, ◌==◌}
use Rattle.std.specs.Str.{bytes_eq}
use Rattle.csp_model.specs.DecideEnds.{is_host_under}
use Rattle.csp_model.specs.DecideEquality.{same_host}
use Rattle.csp_model.specs.DecideMatching.{is_domain_host, path_matches}
use Rattle.csp_model.specs.Parts.{checked_url, checked_nonce, checked_integrity}
use Rattle.csp_model.specs.Schemes.{default_port}
use Rattle.csp_model.specs.declared.check.Check.{Check}
use Rattle.csp_model.specs.declared.check.CheckPart.{CheckPart}
use Rattle.csp_model.specs.declared.check.CheckPart.TheVariants as part
use Rattle.csp_model.specs.declared.source.Hash.{Hash}
use Rattle.csp_model.specs.declared.source.PathPart.TheVariants as path_part
use Rattle.csp_model.specs.declared.url.Url.{Url}
use Rattle.csp_facts.specs.Atoms.{part_of}
use Rattle.csp_facts.specs.Holding.{on_hosted, on_plain, on_part, has_hash, has_other, holds}
use Rattle.csp_facts.specs.declared.atom.Atom.{Atom}
use Rattle.csp_facts.specs.declared.atom.Atom.TheVariants.{HostIs, HostUnder, HostDomain, PortIs, PathIs, PathUnder, SchemeIs, NonceIs, IntegrityHas, IntegrityOutside}
use Rattle.csp_facts.specs.declared.atom.Literal.{Literal}
use Rattle.csp_pick.specs.Parts.{agrees, MeetPart, nonce_holds, integrity_holds}
use Rattle.csp_pick.specs.Urls.{url_holds}

-- From tests of atoms to literals

agrees_alike : (first second : Atom → Bool) (l : Literal) → second l.atom ≡ first l.atom → agrees first l ≡ true → agrees second l ≡ true
agrees_alike first second l same says = ap (λ b. if l.positive then b else not b) same ∙ says

-- two tests that are one on a part's atoms serve its literals alike
pub meet_alike : (asked : CheckPart) (first second : Atom → Bool) → ((a : Atom) → part_of a ≡ asked → second a ≡ first a)
    → (literals : List Literal) → MeetPart asked first literals → MeetPart asked second literals
meet_alike asked first second same literals meet k d below own = agrees_alike first second _ (same _ own) (meet k d below own)

-- A check

abbrev pub is_of_url : CheckPart → Bool
is_of_url part.Host = true
is_of_url part.Port = true
is_of_url part.Path = true
is_of_url part.PlainScheme = true
is_of_url other = false

module _ (hashes : List Hash) (asked : Check) where
  pub by_url : (there : Url) → checked_url asked ≡ Some there → (a : Atom) → is_of_url (part_of a) ≡ true → holds hashes asked a ≡ url_holds there a
  by_url there is (HostIs h) own = ap (λ u. on_hosted u (λ scheme host port path. same_host host h)) is
  by_url there is (HostUnder s) own = ap (λ u. on_hosted u (λ scheme host port path. is_host_under host s)) is
  by_url there is HostDomain own = ap (λ u. on_hosted u (λ scheme host port path. is_domain_host host)) is
  by_url there is (PortIs n) own = ap (λ u. on_hosted u (λ scheme host port path. unwrap_or port (default_port scheme) == n)) is
  by_url there is (PathIs p) own = ap (λ u. on_hosted u (λ scheme host port path. path_matches (path_part.Exact p) path)) is
  by_url there is (PathUnder p) own = ap (λ u. on_hosted u (λ scheme host port path. path_matches (path_part.Prefix p) path)) is
  by_url there is (SchemeIs s) own = ap (λ u. on_plain u (λ scheme. bytes_eq scheme s)) is
  by_url there is a own = absurd cc

  pub by_nonce : (nonce : List ℕ) → checked_nonce asked ≡ Some nonce → (a : Atom) → part_of a ≡ part.Nonce → holds hashes asked a ≡ nonce_holds nonce a
  by_nonce nonce is (NonceIs v) own = ap (λ n. on_part n (λ there. bytes_eq there v)) is
  by_nonce nonce is a own = absurd cc

  pub by_integrity : (pairs : List Hash) → checked_integrity asked ≡ Some pairs
      → (a : Atom) → part_of a ≡ part.Integrity → holds hashes asked a ≡ integrity_holds hashes pairs a
  by_integrity pairs is (IntegrityHas h) own = ap (λ i. on_part i (λ there. has_hash there h)) is
  by_integrity pairs is IntegrityOutside own = ap (λ i. on_part i (has_other hashes)) is
  by_integrity pairs is a own = absurd cc
