-- Checks that a list can't tell apart, and what it doesn't name.
use Rattle.std.specs.Prelude.{◌≡◌, ℕ, Bool, false, List, All}
use Rattle.std.specs.Str.{bytes_eq}
use Rattle.csp_model.specs.DecideEnds.{is_host_under}
use Rattle.csp_model.specs.DecideEquality.{same_host}
use Rattle.csp_model.specs.declared.check.Check.{Check}
use Rattle.csp_model.specs.declared.check.Check.TheVariants as check
use Rattle.csp_model.specs.declared.check.Digests.{Digests}
use Rattle.csp_model.specs.declared.policy.Policy.{Policy}
use Rattle.csp_model.specs.declared.policy.PolicyList.{PolicyList}
use Rattle.csp_model.specs.declared.source.Hash.{Hash}
use Rattle.csp_model.specs.declared.url.Host.{Host}
use Rattle.csp_model.specs.declared.url.Url.{Url}
use Rattle.csp_model.specs.declared.url.Url.TheVariants as url
use Rattle.csp_facts.specs.Holding.{has_digest, holds}
use Rattle.csp_facts.specs.declared.atom.Atom.{Atom}
use Rattle.csp_facts.specs.declared.atom.Atom.TheVariants.{HostIs, HostUnder, NonceIs, DigestIs}
use Rattle.csp_facts.specs.declared.shape.Shape.{Shape}
use Rattle.csp_formula.specs.Compiled.{HasHashesOf, policy_sentence}
use Rattle.csp_formula.specs.Values.{atoms_in}

-- P of each atom of what the policies say of a shape
abbrev pub OnAtoms : (Atom → Type 0) → PolicyList → Shape → List Hash → Type 0
OnAtoms P list kind hashes =
    All (λ (p : Policy). All P (atoms_in (policy_sentence p kind hashes))) list.policies

-- each of them has the same value on both checks
abbrev pub AgreeOn : PolicyList → Shape → List Hash → Check → Check → Type 0
AgreeOn list kind hashes one other =
    OnAtoms (λ a. holds hashes one a ≡ holds hashes other a) list kind hashes

-- the vocabulary has each hash-source of the list
abbrev pub HaveHashesOf : List Hash → PolicyList → Type 0
HaveHashesOf hashes list = All (HasHashesOf hashes) list.policies

-- no atom of what the policies say of the shape names it
abbrev pub NoneNames : (Atom → Bool) → PolicyList → Shape → List Hash → Type 0
NoneNames names list kind hashes = OnAtoms (λ a. names a ≡ false) list kind hashes

-- Hosts, nonces and digests

-- the atom names the host, by itself or by a suffix
abbrev pub names_host : Host → Atom → Bool
names_host host (HostIs named) = same_host host named
names_host host (HostUnder suffix) = is_host_under host suffix
names_host host atom = false

abbrev pub names_nonce : List ℕ → Atom → Bool
names_nonce nonce (NonceIs named) = bytes_eq nonce named
names_nonce nonce atom = false

abbrev pub names_digests : Digests → Atom → Bool
names_digests digests (DigestIs named) = has_digest digests named
names_digests digests atom = false

-- the same URL of another host
abbrev pub at_host : Host → Url → Url
at_host host (url.Plain scheme) = url.Plain scheme
at_host host (url.Hosted scheme there port path) = url.Hosted scheme host port path

-- the check, but of this host, nonce or digests, where it has one
abbrev pub with_host : Host → Check → Check
with_host host (check.Fetch group there redirects nonce integrity parser_inserted) =
    check.Fetch group (at_host host there) redirects nonce integrity parser_inserted
with_host host (check.Form there redirects) = check.Form (at_host host there) redirects
with_host host (check.Base there) = check.Base (at_host host there)
with_host host (check.Ancestor there) = check.Ancestor (at_host host there)
with_host host asked = asked

abbrev pub with_nonce : List ℕ → Check → Check
with_nonce nonce (check.Fetch group there redirects own integrity parser_inserted) =
    check.Fetch group there redirects nonce integrity parser_inserted
with_nonce nonce (check.Inline kind own digests) = check.Inline kind nonce digests
with_nonce nonce asked = asked

abbrev pub with_digests : Digests → Check → Check
with_digests digests (check.Inline kind nonce own) = check.Inline kind nonce digests
with_digests digests asked = asked
