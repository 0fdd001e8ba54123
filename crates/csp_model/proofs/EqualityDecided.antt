-- The tests of `DecideEquality` decide equality.
use Rattle.std.proofs.Common.{arith, ◌≡◌, ℕ, List, Option, Some, None, refl, sym, ap, ◌∙◌, ◌==◌}
use Rattle.std.specs.Bool.{Decides}
use Rattle.std.specs.List.{find}
use Rattle.std.specs.Str.{bytes_eq}
use Rattle.std.proofs.lemmas.Bool.Decides.{Decides-and, Decides-like, Decides-eqb}
use Rattle.std.proofs.lemmas.Slice.Eq.{bytes_eq-Decides}
use Rattle.csp_model.specs.DecideEquality.{same_host, same_port, same_algorithm, same_hash, same_keyword}
use Rattle.csp_model.specs.Grammar.{keyword_text}
use Rattle.csp_model.specs.Reading.{keywords}
use Rattle.csp_model.proofs.Deciding.{no, yes}
use Rattle.csp_model.specs.Types.{Algorithm, Hash, Keyword, Host}
use Rattle.csp_model.specs.declared.source.Algorithm.TheVariants.{Sha256, Sha384, Sha512}
use Rattle.csp_model.specs.declared.url.Host.TheVariants.{Domain, Address}

pub same_host_decides : (a b : Host) → Decides (same_host a b) (a ≡ b)
same_host_decides (Domain a) (Domain b) =
    Decides-like (bytes_eq a b) (ap Domain) (λ (h : Domain a ≡ Domain b). cc) (bytes_eq-Decides a b)
same_host_decides (Address a) (Address b) =
    Decides-like (bytes_eq a b) (ap Address) (λ (h : Address a ≡ Address b). cc) (bytes_eq-Decides a b)
same_host_decides (Domain a) (Address b) = no (λ (h : Domain a ≡ Address b). cc)
same_host_decides (Address a) (Domain b) = no (λ (h : Address a ≡ Domain b). cc)

pub same_port_decides : (a b : Option ℕ) → Decides (same_port a b) (a ≡ b)
same_port_decides None None = yes refl
same_port_decides (Some m) (Some n) = Decides-like (m == n) (ap Some) (λ (h : Some m ≡ Some n). cc) (Decides-eqb m n)
same_port_decides None (Some n) = no (λ (h : None ≡ Some n). cc)
same_port_decides (Some m) None = no (λ (h : Some m ≡ None). cc)

pub same_algorithm_decides : (a b : Algorithm) → Decides (same_algorithm a b) (a ≡ b)
same_algorithm_decides Sha256 Sha256 = yes refl
same_algorithm_decides Sha384 Sha384 = yes refl
same_algorithm_decides Sha512 Sha512 = yes refl
same_algorithm_decides a b = no (λ (h : a ≡ b). cc)

hash_from_parts : (g h : Hash) → g.algorithm ≡ h.algorithm → g.value ≡ h.value → g ≡ h
hash_from_parts g h e f =
    ap (λ (a : Algorithm). record { algorithm = a; value = g.value }) e
    ∙ ap (λ (v : List ℕ). record { algorithm = h.algorithm; value = v }) f

pub same_hash_decides : (g h : Hash) → Decides (same_hash g h) (g ≡ h)
same_hash_decides g h =
    Decides-like (same_hash g h) (λ ((e, f) : (g.algorithm ≡ h.algorithm) × (g.value ≡ h.value)). hash_from_parts g h e f)
    (λ (e : g ≡ h). (ap (λ (x : Hash). x.algorithm) e, ap (λ (x : Hash). x.value) e))
    (Decides-and (same_algorithm g.algorithm h.algorithm) (bytes_eq g.value h.value)
    (same_algorithm_decides g.algorithm h.algorithm) (bytes_eq-Decides g.value h.value))

-- the keyword of a text
abbrev written : List ℕ → Option Keyword
written text = find (λ word. bytes_eq text (keyword_text word)) keywords

found : (word : Keyword) → written (keyword_text word) ≡ Some word
found word = grind arith

same_text : (a b : Keyword) → keyword_text a ≡ keyword_text b → a ≡ b
same_text a b same =
    let one : Some a ≡ Some b = sym (found a) ∙ ap written same ∙ found b in cc

pub same_keyword_decides : (a b : Keyword) → Decides (same_keyword a b) (a ≡ b)
same_keyword_decides a b =
    Decides-like (same_keyword a b) (same_text a b) (ap keyword_text) (bytes_eq-Decides (keyword_text a) (keyword_text b))
