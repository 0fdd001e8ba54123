-- The digest that a literal says, or one that begins with a free number, makes each literal on it true.
use Rattle.std.proofs.Common.{◌≡◌, ◌≢◌, ap, refl, sym, ℕ, ◌<◌, suc, true, false, not, List, [], ◌∷◌, length, get_or, nat_lt, filter, Some, None, All, Any}
use Rattle.std.specs.Str.{bytes_eq}
use Rattle.std.proofs.lemmas.Bool.{and_from, false_from_ne_true, lt-ltb}
use Rattle.std.proofs.lemmas.List.Elements.{All-contains, All-weaker}
use Rattle.std.proofs.lemmas.Slice.Eq.{bytes_eq-Decides}
use Rattle.csp_model.specs.Tokens.{size_of}
use Rattle.csp_model.specs.Validity.{are_bytes}
use Rattle.csp_model.specs.declared.check.CheckPart.TheVariants as part
use Rattle.csp_model.specs.declared.check.Digest.TheVariants as one
use Rattle.csp_model.specs.declared.source.Algorithm.{Algorithm}
use Rattle.csp_model.specs.declared.source.Algorithm.TheVariants.{Sha256, Sha384, Sha512}
use Rattle.csp_facts.specs.Atoms.{part_of, IsValidAtom}
use Rattle.csp_facts.specs.Follows.{follows_true}
use Rattle.csp_facts.specs.declared.atom.Atom.{Atom}
use Rattle.csp_facts.specs.declared.atom.Atom.TheVariants.{DigestIs}
use Rattle.csp_facts.specs.declared.atom.Literal.{Literal}
use Rattle.csp_cell.specs.Cells.{IsCell, IsOf, Region, places}
use Rattle.csp_pick.specs.Parts.{MeetPart, bytes_hold}
use Rattle.csp_pick.specs.Said.{digest_of, lead, number_of}
use Rattle.csp_pick.proofs.Placed.{said_by, positive_of, placed_meets, denied_meets}

-- Atoms

says_digest : (algorithm : Algorithm) (a : Atom) (bytes : List ℕ) → digest_of algorithm a ≡ Some bytes
    → (b : Atom) → part_of b ≡ part.Digest algorithm → follows_true a b ≡ Some (bytes_hold bytes b)
says_digest Sha256 (DigestIs (one.Sha256 d)) bytes e (DigestIs (one.Sha256 x)) own = cc
says_digest Sha384 (DigestIs (one.Sha384 d)) bytes e (DigestIs (one.Sha384 x)) own = cc
says_digest Sha512 (DigestIs (one.Sha512 d)) bytes e (DigestIs (one.Sha512 x)) own = cc
says_digest algorithm a bytes e b own = absurd cc

unsaid : (algorithm : Algorithm) (a : Atom) → digest_of algorithm a ≡ None → part_of a ≢ part.Digest algorithm
unsaid Sha256 (DigestIs (one.Sha256 d)) e own = cc
unsaid Sha384 (DigestIs (one.Sha384 d)) e own = cc
unsaid Sha512 (DigestIs (one.Sha512 d)) e own = cc
unsaid algorithm a e own = cc

size_said : (algorithm : Algorithm) (a : Atom) (bytes : List ℕ) → digest_of algorithm a ≡ Some bytes → IsValidAtom a → length bytes ≡ size_of algorithm
size_said Sha256 (DigestIs (one.Sha256 d)) bytes e valid = cc
size_said Sha384 (DigestIs (one.Sha384 d)) bytes e valid = cc
size_said Sha512 (DigestIs (one.Sha512 d)) bytes e valid = cc
size_said algorithm a bytes e valid = absurd cc

-- Bytes

pub each_byte : (text : List ℕ) → ((i : ℕ) → get_or text i 0 < 256) → are_bytes text ≡ true
each_byte [] small = refl
each_byte (b ∷ text) small = and_from (nat_lt b 256) (are_bytes text) (lt-ltb b 256 (small 0)) (each_byte text (λ i. small (suc i)))

-- A free number

other_bytes : (bytes x : List ℕ) → Some (lead x) ≢ Some (lead bytes) → bytes_eq bytes x ≡ false
other_bytes bytes x free =
    false_from_ne_true (bytes_eq bytes x) (λ same. free (ap (λ d. Some (lead d)) (sym ((bytes_eq-Decides bytes x).0 same))))

other_digest : (algorithm : Algorithm) (bytes : List ℕ) (a : Atom) → number_of (part.Digest algorithm) a ≢ Some (lead bytes)
    → part_of a ≡ part.Digest algorithm → bytes_hold bytes a ≡ false
other_digest Sha256 bytes (DigestIs (one.Sha256 x)) free own = other_bytes bytes x free
other_digest Sha384 bytes (DigestIs (one.Sha384 x)) free own = other_bytes bytes x free
other_digest Sha512 bytes (DigestIs (one.Sha512 x)) free own = other_bytes bytes x free
other_digest algorithm bytes a free own = absurd cc

-- The two ways to pick

module _ (algorithm : Algorithm) (cell : Region) (is : IsCell cell) where
  abbrev ls : List Literal
  ls = cell.literals

  abbrev Says : List ℕ → Literal → Type 0
  Says bytes l = digest_of algorithm l.atom ≡ Some bytes

  pub said_size : (bytes : List ℕ) → Any (Says bytes) (filter places ls) → length bytes ≡ size_of algorithm
  said_size bytes said =
      let (m, here, placing, says) = said_by (digest_of algorithm) places ls bytes said in
      size_said algorithm m.atom bytes says (All-contains (IsOf cell.shape) ls m is.each here).0

  pub said_meets : (bytes : List ℕ) → Any (Says bytes) (filter places ls) → MeetPart (part.Digest algorithm) (bytes_hold bytes) ls
  said_meets bytes said =
      let (m, here, placing, says) = said_by (digest_of algorithm) places ls bytes said in
      placed_meets (part.Digest algorithm) (bytes_hold bytes) ls m is.pairs here (positive_of m placing) (says_digest algorithm m.atom bytes says)

  pub free_meets : (bytes : List ℕ) → All (λ l. digest_of algorithm l.atom ≡ None) (filter places ls)
      → All (λ l. number_of (part.Digest algorithm) l.atom ≢ Some (lead bytes)) (filter (λ l. not (places l)) ls)
      → MeetPart (part.Digest algorithm) (bytes_hold bytes) ls
  free_meets bytes none free =
      denied_meets (part.Digest algorithm) (bytes_hold bytes) ls (λ (e : part.Digest algorithm ≡ part.Integrity). cc)
      (All-weaker (λ l. digest_of algorithm l.atom ≡ None) (λ l. part_of l.atom ≢ part.Digest algorithm) (λ l e. unsaid algorithm l.atom e)
      (filter places ls) none)
      (All-weaker (λ l. number_of (part.Digest algorithm) l.atom ≢ Some (lead bytes)) (λ l. part_of l.atom ≡ part.Digest algorithm → bytes_hold bytes l.atom ≡ false)
      (λ l away own. other_digest algorithm bytes l.atom away own) (filter (λ l. not (places l)) ls) free)
