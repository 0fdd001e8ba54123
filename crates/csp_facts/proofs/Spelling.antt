-- A valid atom is spelled by words, and no other valid atom by the same: the first word tells what kind of atom it is.
use Rattle.std.proofs.Common.{arith, ◌≡◌, ℕ, true, List, [], ◌∷◌, get_or, All, refl, ap}
use Rattle.std.specs.Prelude.{codes, decimal}
use Rattle.std.specs.Str.{bytes_eq}
use Rattle.std.proofs.lemmas.Bool.{false≢true}
use Rattle.std.proofs.lemmas.Fmt.{decimal_injective}
use Rattle.std.proofs.lemmas.List.Elements.{All-nil, All-cons}
use Rattle.std.proofs.lemmas.Slice.Eq.{bytes_eq-Decides}
use Rattle.hex.specs.Hex.{encode_lower}
use Rattle.csp_model.specs.Grammar.{algorithm_text}
use Rattle.csp_model.specs.Paths.{path_text}
use Rattle.csp_model.specs.Tokens.{algorithm_of, bytes_of}
use Rattle.csp_facts.specs.Atoms.{IsValidAtom}
use Rattle.csp_model.specs.Paths.{host_text}
use Rattle.csp_facts.specs.Spelling.{spelled}
use Rattle.csp_facts.specs.declared.atom.Atom.{Atom}
use Rattle.csp_facts.specs.declared.atom.Atom.TheVariants.{HostIs, HostUnder, HostDomain, PortIs, PathIs, PathUnder, SchemeIs, NonceIs, IntegrityHas, IntegrityOutside, DigestIs}
use Rattle.csp_facts.proofs.SpelledDigests.{digest_word, digest_told, hash_told}
use Rattle.csp_facts.proofs.SpelledHosts.{domain_word, host_word, host_told}
use Rattle.csp_facts.proofs.SpelledPaths.{path_word, path_told}
use Rattle.csp_facts.proofs.SpelledWords.{IsWord, scheme_word, base64_word, decimal_word, algorithm_word}

one_word : (first : List ℕ) → IsWord first → All IsWord (first ∷ [])
one_word first h = All-cons IsWord first [] h (All-nil IsWord)

two_words : (first second : List ℕ) → IsWord first → IsWord second → All IsWord (first ∷ second ∷ [])
two_words first second h more = All-cons IsWord first (second ∷ []) h (one_word second more)

three_words : (first second third : List ℕ) → IsWord first → IsWord second → IsWord third → All IsWord (first ∷ second ∷ third ∷ [])
three_words first second third h more last = All-cons IsWord first (second ∷ third ∷ []) h (two_words second third more last)

pub words : (atom : Atom) → IsValidAtom atom → All IsWord (spelled atom)
words (HostIs name) valid = two_words (codes "host-is") (host_text name) refl (host_word name valid)
words (HostUnder suffix) valid = two_words (codes "host-under") suffix refl (domain_word suffix valid)
words HostDomain valid = one_word (codes "host-domain") refl
words (PortIs n) valid = two_words (codes "port-is") (decimal n) refl (decimal_word n valid)
words (PathIs pieces) valid = two_words (codes "path-is") (path_text pieces) refl (path_word pieces valid)
words (PathUnder pieces) valid = two_words (codes "path-under") (path_text pieces) refl (path_word pieces valid)
words (SchemeIs scheme) valid = two_words (codes "scheme-is") scheme refl (scheme_word scheme valid.0)
words (NonceIs value) valid = two_words (codes "nonce-is") value refl (base64_word value valid)
words (IntegrityHas hash) valid =
    three_words (codes "integrity-has") (algorithm_text hash.algorithm) hash.value refl (algorithm_word hash.algorithm) (base64_word hash.value valid)
words IntegrityOutside valid = one_word (codes "integrity-outside") refl
words (DigestIs digest) valid =
    three_words (codes "digest-is") (algorithm_text (algorithm_of digest)) (encode_lower (bytes_of digest)) refl (algorithm_word (algorithm_of digest)) (digest_word digest valid)

same_word : {xs ys : List (List ℕ)} (i : ℕ) → xs ≡ ys → get_or xs i [] ≡ get_or ys i []
same_word i same = ap (λ (words : List (List ℕ)). get_or words i []) same

abbrev first_word : Atom → List ℕ
first_word atom = get_or (spelled atom) 0 []

-- two atoms with the same first word
told : (first second : Atom) → IsValidAtom first → IsValidAtom second → bytes_eq (first_word first) (first_word second) ≡ true → spelled first ≡ spelled second → first ≡ second
told (HostIs name) (HostIs other) valid also kind same = ap HostIs (host_told name other valid also (same_word 1 same))
told (HostUnder suffix) (HostUnder other) valid also kind same = ap HostUnder (same_word 1 same)
told HostDomain HostDomain valid also kind same = refl
told (PortIs n) (PortIs m) valid also kind same = ap PortIs (decimal_injective n m (omega arith) (omega arith) (same_word 1 same))
told (PathIs pieces) (PathIs other) valid also kind same = ap PathIs (path_told pieces other valid also (same_word 1 same))
told (PathUnder pieces) (PathUnder other) valid also kind same = ap PathUnder (path_told pieces other valid also (same_word 1 same))
told (SchemeIs scheme) (SchemeIs other) valid also kind same = ap SchemeIs (same_word 1 same)
told (NonceIs value) (NonceIs other) valid also kind same = ap NonceIs (same_word 1 same)
told (IntegrityHas hash) (IntegrityHas other) valid also kind same = ap IntegrityHas (hash_told hash other (same_word 1 same) (same_word 2 same))
told IntegrityOutside IntegrityOutside valid also kind same = refl
told (DigestIs digest) (DigestIs other) valid also kind same = ap DigestIs (digest_told digest other valid also (same_word 1 same) (same_word 2 same))
told first second valid also kind same = absurd (false≢true kind)

pub one : (first second : Atom) → IsValidAtom first → IsValidAtom second → spelled first ≡ spelled second → first ≡ second
one first second valid also same = told first second valid also ((bytes_eq-Decides (first_word first) (first_word second)).1 (same_word 0 same)) same
