-- What a literal that is true of a check says of an atom is so.
use Rattle.std.proofs.Common.{◌≡◌, ◌==◌, ℕ, Bool, true, not, List, Option, Some, None, refl, false, sym, subst, MatchOption, Contains, IsTrue, IfSome}
use Rattle.std.specs.Str.{bytes_eq}
use Rattle.std.proofs.lemmas.Bool.Decides.{Decides-eqb, Decides-like}
use Rattle.std.proofs.lemmas.Slice.Eq.{bytes_eq-Decides}
use Rattle.csp_model.specs.DecideMatching.{is_domain_host}
use Rattle.csp_model.specs.DecideEnds.{is_host_under, begins_with, goes_beyond}
use Rattle.csp_model.specs.DecideEquality.{same_host, same_hash}
use Rattle.csp_model.specs.Matching.{IsDomainHost, IsHostUnder, PathMatches}
use Rattle.csp_model.specs.Parts.{checked_url, checked_nonce, checked_integrity, checked_digests}
use Rattle.csp_model.specs.declared.check.Check.{Check}
use Rattle.csp_model.specs.declared.check.Digest.{Digest}
use Rattle.csp_model.specs.declared.check.Digest.TheVariants.{Sha256, Sha384, Sha512}
use Rattle.csp_model.specs.declared.check.Digests.{Digests}
use Rattle.csp_model.specs.declared.source.Hash.{Hash}
use Rattle.csp_model.specs.declared.source.PathPart.TheVariants.{Prefix}
use Rattle.csp_model.specs.declared.url.Host.{Host}
use Rattle.csp_model.specs.declared.url.Scheme.{Scheme}
use Rattle.csp_model.specs.declared.url.Url.{Url}
use Rattle.csp_model.specs.declared.url.Url.TheVariants as url
use Rattle.csp_model.proofs.EndLaws.{begins_Decides, beyond_Decides}
use Rattle.csp_model.proofs.Deciding.{fails}
use Rattle.csp_model.proofs.MatchingDecided.{domain_host_decides, host_under_decides}
use Rattle.csp_model.proofs.EqualityDecided.{same_host_decides, same_hash_decides}
use Rattle.csp_facts.specs.Atoms.{OnHosted, OnPlain, HasDigest, Holds}
use Rattle.csp_facts.specs.Follows.{lies_within, same_path, true_where, false_where, nested, same_digest, follows_true, follows_false, follows}
use Rattle.csp_facts.specs.Holding.{holds, is_true_of}
use Rattle.csp_facts.specs.declared.atom.Atom.{Atom}
use Rattle.csp_facts.specs.declared.atom.Atom.TheVariants.{HostIs, HostUnder, HostDomain, PortIs, PathIs, PathUnder, SchemeIs, NonceIs, IntegrityHas, IntegrityOutside, DigestIs}
use Rattle.csp_facts.specs.declared.atom.Literal.{Literal}
use Rattle.csp_facts.proofs.HoldingDecided.{holds_decides, value_of_true}
use Rattle.csp_facts.proofs.TableTests.{lies_within_decides, same_path_decides}
use Rattle.csp_facts.proofs.Refutes.{false_false, refutes_back}
use Rattle.csp_facts.proofs.SoundAnswers.{Agrees, value_of_Agrees, Agrees-true_where, Agrees-nested, Agrees-at, Agrees-unless}
use Rattle.csp_facts.proofs.SoundNesting.{under_through, under_both, under_is_domain, beyond_through, beyond_both}

-- From the parts of a check to the check

on_hosted : {P : Scheme → Host → Option ℕ → List (List ℕ) → Type 0} (answer : Option Bool) (there : Option Url)
    (Q : Scheme → Host → Option ℕ → List (List ℕ) → Type 0)
    → ((scheme : Scheme) (host : Host) (port : Option ℕ) (path : List (List ℕ)) → P scheme host port path → Agrees answer (Q scheme host port path))
    → OnHosted there P → Agrees answer (OnHosted there Q)
on_hosted answer (Some (url.Hosted scheme host port path)) Q each = each scheme host port path
on_hosted answer there Q each = λ h. absurd h

on_plain : {P : List ℕ → Type 0} (answer : Option Bool) (there : Option Url) (Q : List ℕ → Type 0)
    → ((scheme : List ℕ) → P scheme → Agrees answer (Q scheme)) → OnPlain there P → Agrees answer (OnPlain there Q)
on_plain answer (Some (url.Plain scheme)) Q each = each scheme
on_plain answer there Q each = λ h. absurd h

on_some : {X : Type 0} {P : X → Type 0} (answer : Option Bool) (there : Option X) (Q : X → Type 0)
    → ((x : X) → P x → Agrees answer (Q x)) → MatchOption there ⊥ P → Agrees answer (MatchOption there ⊥ Q)
on_some answer (Some x) Q each = each x
on_some answer None Q each = λ h. absurd h

-- Digests

digest_true : (digests : Digests) (known other : Digest) → HasDigest digests known → Agrees (same_digest known other) (HasDigest digests other)
digest_true digests (Sha256 d) (Sha256 e) = Agrees-at (λ x. x ≡ e) digests.sha256 d (bytes_eq d e) (bytes_eq-Decides d e)
digest_true digests (Sha384 d) (Sha384 e) = Agrees-at (λ x. x ≡ e) digests.sha384 d (bytes_eq d e) (bytes_eq-Decides d e)
digest_true digests (Sha512 d) (Sha512 e) = Agrees-at (λ x. x ≡ e) digests.sha512 d (bytes_eq d e) (bytes_eq-Decides d e)
digest_true digests d e = λ _. tt

-- The table

module _ (hashes : List Hash) (asked : Check) where
  -- where the first atom holds
  true_sound : (known other : Atom) → Holds hashes asked known → Agrees (follows_true known other) (Holds hashes asked other)
  true_sound (HostIs h) (HostIs g) =
      on_hosted (Some (same_host h g)) (checked_url asked) _ (λ _ there _ _ is. Agrees-at (λ x. x ≡ g) there h _ (same_host_decides h g) is)
  true_sound (HostIs h) (HostUnder t) =
      on_hosted (Some (is_host_under h t)) (checked_url asked) _ (λ _ there _ _ is. Agrees-at (λ x. IsHostUnder x t) there h _ (host_under_decides h t) is)
  true_sound (HostIs h) HostDomain =
      on_hosted (Some (is_domain_host h)) (checked_url asked) _ (λ _ there _ _ is. Agrees-at IsDomainHost there h _ (domain_host_decides h) is)
  true_sound (HostUnder s) HostDomain = on_hosted (Some true) (checked_url asked) _ (λ _ there _ _ under. under_is_domain s there under)
  true_sound (HostUnder s) (HostUnder t) =
      on_hosted (nested (lies_within s t) (lies_within t s)) (checked_url asked) _
      (λ _ there _ _ under. Agrees-nested _ _ (lies_within_decides s t) (lies_within_decides t s) (λ within. under_through s t there within under) (under_both s t there under))
  true_sound (HostUnder s) (HostIs h) =
      on_hosted (false_where (not (is_host_under h s))) (checked_url asked) _
      (λ _ _ _ _ under. Agrees-unless _ (host_under_decides h s) (λ is. subst (λ x. IsHostUnder x s) is under))
  true_sound HostDomain HostDomain = λ h. h
  true_sound HostDomain (HostIs h) =
      on_hosted (false_where (not (is_domain_host h))) (checked_url asked) _
      (λ _ _ _ _ domain. Agrees-unless _ (domain_host_decides h) (λ is. subst IsDomainHost is domain))
  true_sound (PortIs n) (PortIs m) = on_hosted (Some (n == m)) (checked_url asked) _ (λ _ _ _ _ is. Agrees-at (λ x. x ≡ m) _ n _ (Decides-eqb n m) is)
  true_sound (PathIs p) (PathIs q) =
      on_hosted (Some (same_path p q)) (checked_url asked) _
      (λ _ _ _ path is. Agrees-at (λ x. q ≡ x) path p _ (Decides-like (same_path p q) sym sym (same_path_decides p q)) (sym is))
  true_sound (PathIs p) (PathUnder q) =
      on_hosted (Some (goes_beyond p q)) (checked_url asked) _ (λ _ _ _ path is. Agrees-at (PathMatches (Prefix q)) path p _ (beyond_Decides p q) (sym is))
  true_sound (PathUnder p) (PathUnder q) =
      on_hosted (nested (begins_with p q) (begins_with q p)) (checked_url asked) _
      (λ _ _ _ path beyond. Agrees-nested _ _ (begins_Decides p q) (begins_Decides q p) (λ begins. beyond_through p q path begins beyond) (beyond_both p q path beyond))
  true_sound (PathUnder p) (PathIs q) =
      on_hosted (false_where (not (goes_beyond q p))) (checked_url asked) _
      (λ _ _ _ _ beyond. Agrees-unless _ (beyond_Decides q p) (λ is. subst (PathMatches (Prefix p)) (sym is) beyond))
  true_sound (SchemeIs s) (SchemeIs t) =
      on_plain (Some (bytes_eq s t)) (checked_url asked) _ (λ scheme is. Agrees-at (λ x. x ≡ t) scheme s _ (bytes_eq-Decides s t) is)
  true_sound (NonceIs v) (NonceIs w) =
      on_some (Some (bytes_eq v w)) (checked_nonce asked) _ (λ nonce is. Agrees-at (λ x. x ≡ w) nonce v _ (bytes_eq-Decides v w) is)
  true_sound (DigestIs d) (DigestIs e) = on_some (same_digest d e) (checked_digests asked) _ (λ digests. digest_true digests d e)
  true_sound (IntegrityHas h) (IntegrityHas g) =
      on_some (true_where (same_hash h g)) (checked_integrity asked) _
      (λ pairs has. Agrees-true_where _ (λ same. subst (Contains pairs) ((same_hash_decides h g).0 same) has))
  true_sound IntegrityOutside IntegrityOutside = λ h. h
  true_sound known other = λ _. tt

  -- a denial makes another atom false, and only one that makes what is denied true
  false_as : (known other : Atom) → ¬ Holds hashes asked known → (answer : Option Bool) → follows_false known other ≡ answer → Agrees answer (Holds hashes asked other)
  false_as known other denied None e = tt
  false_as known other denied (Some true) e = false_false known other e
  false_as known other denied (Some false) e =
      let back = refutes_back (record { atom = known; positive = false }) (record { atom = other; positive = true }) e in
      λ h. denied (subst (λ answer. Agrees answer (Holds hashes asked known)) back (true_sound other known h))

  -- where it doesn't hold
  false_sound : (known other : Atom) → ¬ Holds hashes asked known → Agrees (follows_false known other) (Holds hashes asked other)
  false_sound known other denied = false_as known other denied (follows_false known other) refl

  by_sign : (atom other : Atom) (sign : Bool) → holds hashes asked atom ≡ sign
      → Agrees (follows (record { atom = atom; positive = sign }) other) (Holds hashes asked other)
  by_sign atom other true e = true_sound atom other ((holds_decides hashes asked atom).0 e)
  by_sign atom other false e = false_sound atom other (fails (holds_decides hashes asked atom) e)

  pub sound : (literal : Literal) (other : Atom) → IsTrue (is_true_of hashes asked literal)
      → IfSome (follows literal other) (λ known. holds hashes asked other ≡ known)
  sound literal other so =
      value_of_Agrees (holds hashes asked other) (follows literal other) (holds_decides hashes asked other)
      (by_sign literal.atom other literal.positive (value_of_true hashes asked literal so))
