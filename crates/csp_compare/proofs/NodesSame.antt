-- The test that nodes are equal decides it.
use Rattle.std.proofs.Common.{◌≡◌, ap, refl, ℕ, Bool, List, []}
use Rattle.std.specs.Bool.{Decides}
use Rattle.std.specs.Cmp.Lexicographic.{pointwise_decides}
use Rattle.std.proofs.lemmas.Bool.Decides.{Decides-eqb}
use Rattle.std.proofs.lemmas.Slice.Eq.{bytes_eq-Decides}
use Rattle.csp_model.specs.declared.url.Host.TheVariants.{Domain, Address}
use Rattle.csp_model.specs.declared.source.Algorithm.{Algorithm}
use Rattle.csp_model.specs.declared.source.Algorithm.TheVariants.{Sha256, Sha384, Sha512}
use Rattle.csp_model.specs.declared.check.Digest.TheVariants as digest
use Rattle.csp_facts.specs.declared.atom.Atom.{Atom}
use Rattle.csp_facts.specs.declared.atom.Atom.TheVariants.{HostIs, HostUnder, HostDomain, PortIs, PathIs, PathUnder, SchemeIs, NonceIs, IntegrityHas, IntegrityOutside, DigestIs}
use Rattle.csp_proof.specs.declared.proof.Node.{Node}
use Rattle.csp_proof.specs.declared.proof.Node.TheVariants as node
use Rattle.csp_proof.specs.contracts.proof.NodePartialEq.TheImpl as node_eq
use Rattle.csp_facts.specs.contracts.atom.AtomPartialEq.TheImpl as atom_eq

abbrev pub same_node : Node → Node → Bool
same_node = node_eq.eq-value.it

abbrev pub same_atom : Atom → Atom → Bool
same_atom = atom_eq.eq-value.it

abbrev of_hash : Algorithm → List ℕ → Atom
of_hash a v = IntegrityHas (record { algorithm = a; value = v })

abbrev value_in : Atom → List ℕ
value_in (IntegrityHas h) = h.value
value_in atom = []

abbrev algorithm_in : Atom → Algorithm
algorithm_in (IntegrityHas h) = h.algorithm
algorithm_in atom = Sha256

hash_decides : (a : Algorithm) (v : List ℕ) (b : Algorithm) (w : List ℕ) → Decides (same_atom (of_hash a v) (of_hash b w)) (of_hash a v ≡ of_hash b w)
hash_decides Sha256 v Sha256 w = let d = bytes_eq-Decides v w in (λ e. ap (of_hash Sha256) (d.0 e), λ is. d.1 (ap value_in is))
hash_decides Sha384 v Sha384 w = let d = bytes_eq-Decides v w in (λ e. ap (of_hash Sha384) (d.0 e), λ is. d.1 (ap value_in is))
hash_decides Sha512 v Sha512 w = let d = bytes_eq-Decides v w in (λ e. ap (of_hash Sha512) (d.0 e), λ is. d.1 (ap value_in is))
hash_decides a v b w = (λ e. cc e, λ is. let apart = ap algorithm_in is in cc apart)

atom_decides : (a b : Atom) → Decides (same_atom a b) (a ≡ b)
atom_decides (HostIs (Domain s)) (HostIs (Domain t)) = let d = bytes_eq-Decides s t in (λ e. ap (λ (x : List ℕ). HostIs (Domain x)) (d.0 e), λ is. d.1 (cc is))
atom_decides (HostIs (Address s)) (HostIs (Address t)) = let d = bytes_eq-Decides s t in (λ e. ap (λ (x : List ℕ). HostIs (Address x)) (d.0 e), λ is. d.1 (cc is))
atom_decides (HostUnder s) (HostUnder t) = let d = bytes_eq-Decides s t in (λ e. ap HostUnder (d.0 e), λ is. d.1 (cc is))
atom_decides HostDomain HostDomain = (λ e. refl, λ is. refl)
atom_decides (PortIs m) (PortIs n) = let d = Decides-eqb m n in (λ e. ap PortIs (d.0 e), λ is. d.1 (cc is))
atom_decides (PathIs p) (PathIs q) = let d = pointwise_decides bytes_eq-Decides p q in (λ e. ap PathIs (d.0 e), λ is. d.1 (cc is))
atom_decides (PathUnder p) (PathUnder q) = let d = pointwise_decides bytes_eq-Decides p q in (λ e. ap PathUnder (d.0 e), λ is. d.1 (cc is))
atom_decides (SchemeIs s) (SchemeIs t) = let d = bytes_eq-Decides s t in (λ e. ap SchemeIs (d.0 e), λ is. d.1 (cc is))
atom_decides (NonceIs s) (NonceIs t) = let d = bytes_eq-Decides s t in (λ e. ap NonceIs (d.0 e), λ is. d.1 (cc is))
atom_decides (IntegrityHas g) (IntegrityHas h) = hash_decides g.algorithm g.value h.algorithm h.value
atom_decides IntegrityOutside IntegrityOutside = (λ e. refl, λ is. refl)
atom_decides (DigestIs (digest.Sha256 d)) (DigestIs (digest.Sha256 e)) = let t = bytes_eq-Decides d e in (λ r. ap (λ (x : List ℕ). DigestIs (digest.Sha256 x)) (t.0 r), λ is. t.1 (cc is))
atom_decides (DigestIs (digest.Sha384 d)) (DigestIs (digest.Sha384 e)) = let t = bytes_eq-Decides d e in (λ r. ap (λ (x : List ℕ). DigestIs (digest.Sha384 x)) (t.0 r), λ is. t.1 (cc is))
atom_decides (DigestIs (digest.Sha512 d)) (DigestIs (digest.Sha512 e)) = let t = bytes_eq-Decides d e in (λ r. ap (λ (x : List ℕ). DigestIs (digest.Sha512 x)) (t.0 r), λ is. t.1 (cc is))
atom_decides a b = (λ e. cc e, λ is. cc is)

pub node_decides : (a b : Node) → Decides (same_node a b) (a ≡ b)
node_decides (node.Split a) (node.Split b) = let d = atom_decides a b in (λ e. ap node.Split (d.0 e), λ is. d.1 (cc is))
node_decides (node.Blocked m) (node.Blocked n) = let d = Decides-eqb m n in (λ e. ap node.Blocked (d.0 e), λ is. d.1 (cc is))
node_decides node.Met node.Met = (λ e. refl, λ is. refl)
node_decides a b = (λ e. cc e, λ is. cc is)
