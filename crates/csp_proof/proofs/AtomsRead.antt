-- Each valid atom is read from its spelling, and what is read is valid.
use Rattle.std.proofs.Common.{arith, ◌≡◌, ◌≢◌, ◌∙◌, sym, ap, subst, refl, ℕ, ◌<◌, zero, suc, Bool, true, false, List, [], ◌∷◌, ◌++◌, length, map, ◌==◌}
use Rattle.std.proofs.lemmas.List.{length-map}
use Rattle.std.specs.Prelude.{decimal, nat_lt, Option, Some, None, Result, Ok, Err, IfSome, IsNone, option_map, option_and_then, codes, if◌then◌else◌}
use Rattle.std.specs.List.{list_all}
use Rattle.std.specs.Result.{result_ok}
use Rattle.std.specs.Str.{bytes_eq}
use Rattle.std.proofs.lemmas.Bool.{and_parts, ltb-true, cond-true, cond-false, cond_both, false_from_ne_true, lt-ltb, and_from, false≢true}
use Rattle.std.proofs.lemmas.List.Splits.{length-slice_split}
use Rattle.hex.specs.Hex.{IsBytes, decode_sized, encode_lower}
use Rattle.hex.proofs.HexLemmas.{decode_sized-encode_lower, decode_sized-ok, decode_sized-twice, decode_of-ok}
use Rattle.hex.specs.declared.error.FromHexError.{FromHexError}
use Rattle.percent_encoding.specs.Percent.{percent_decode}
use Rattle.csp_model.specs.Ascii.{split_at}
use Rattle.csp_model.specs.Grammar.{algorithm_text, algorithm_named, decimal_value, is_base64_value, pieces_of}
use Rattle.csp_model.specs.Paths.{host_text}
use Rattle.csp_model.specs.Schemes.{scheme_named}
use Rattle.csp_model.specs.Validity.{are_bytes, is_domain, is_address, is_lower_scheme, is_piece, IsValidHost, IsOfSize}
use Rattle.csp_model.specs.declared.check.Digest.TheVariants as one
use Rattle.csp_model.specs.declared.source.Algorithm.{Algorithm}
use Rattle.csp_model.specs.declared.source.Algorithm.TheVariants.{Sha256, Sha384, Sha512}
use Rattle.csp_model.specs.declared.url.Scheme.{Scheme}
use Rattle.csp_model.specs.declared.url.Host.{Host}
use Rattle.csp_model.specs.declared.url.Host.TheVariants.{Domain, Address}
use Rattle.csp_url.specs.Reading.{host_of, address_of, found_path, whole_pieces}
use Rattle.csp_url.proofs.PathText.{path_back}
use Rattle.csp_facts.specs.Atoms.{IsValidAtom, IsValidPath, IsValidDigest}
use Rattle.csp_facts.specs.declared.atom.Atom.{Atom}
use Rattle.csp_facts.specs.declared.atom.Atom.TheVariants.{HostIs, HostUnder, HostDomain, PortIs, PathIs, PathUnder, SchemeIs, NonceIs, IntegrityHas, IntegrityOutside, DigestIs}
use Rattle.csp_facts.proofs.SpelledHosts.{host_told}
use Rattle.csp_proof.specs.Reading.{cut, number_below, domain_text, base64_text, unless_known, plain_scheme, hash_of, hash_in, digest_by, digest_in, bare_atom, atom_about, meant_by, meant_atom, where_spelled, atom_of}
use Rattle.csp_proof.specs.Spelling.{atom_text}
use Rattle.csp_proof.proofs.Numbers.{number_read, same_text, texts_equal}

-- From the spelling

not_both : (text : List ℕ) → is_address text ≡ true → is_domain text ≡ false
not_both text address = false_from_ne_true (is_domain text) (λ domain. cc (host_told (Domain text) (Address text) domain address refl))

host_read : (host : Host) → IsValidHost host → host_of (host_text host) ≡ Some host
host_read (Domain text) valid = cond-true _ _ _ valid
host_read (Address text) valid = cond-false _ _ _ (not_both text valid) ∙ cond-true _ _ _ valid

plain_kept : (text : List ℕ) (known : Option Scheme) → IsNone known → unless_known text known ≡ Some text
plain_kept text None none = refl
plain_kept text (Some scheme) none = absurd (false≢true (sym none))

hash_read : (algorithm : Algorithm) (value : List ℕ) → is_base64_value value ≡ true
    → hash_in (cut (algorithm_text algorithm ++ 32 ∷ value)) ≡ Some (record { algorithm = algorithm; value = value })
hash_read Sha256 value valid = ap (hash_of (Some Sha256)) (cond-true _ _ _ valid)
hash_read Sha384 value valid = ap (hash_of (Some Sha384)) (cond-true _ _ _ valid)
hash_read Sha512 value valid = ap (hash_of (Some Sha512)) (cond-true _ _ _ valid)

bytes_are : (text : List ℕ) → are_bytes text ≡ true → IsBytes text
bytes_are [] h i = omega arith
bytes_are (b ∷ text) h zero = ltb-true b 256 (and_parts (nat_lt b 256) (are_bytes text) h).0
bytes_are (b ∷ text) h (suc i) = bytes_are text (and_parts (nat_lt b 256) (are_bytes text) h).1 i

decoded : (size : ℕ) (bytes : List ℕ) → IsOfSize size bytes → result_ok (decode_sized (encode_lower bytes) size) ≡ Some bytes
decoded size bytes sized = ap result_ok (decode_sized-encode_lower bytes size sized.0 (bytes_are bytes sized.1))

pub atom_read : (atom : Atom) → IsValidAtom atom → meant_atom (atom_text atom) ≡ Some atom
unfolding atom_about
atom_read (HostIs host) valid = ap (option_map HostIs) (host_read host valid)
atom_read (HostUnder suffix) valid = ap (option_map HostUnder) (cond-true _ _ _ valid)
atom_read HostDomain valid = refl
atom_read (PortIs n) valid = ap (option_map PortIs) (number_read 65536 n valid (omega arith))
atom_read (PathIs pieces) valid = ap (option_map PathIs) (path_back pieces valid.0 valid.1)
atom_read (PathUnder pieces) valid = ap (option_map PathUnder) (path_back pieces valid.0 valid.1)
atom_read (SchemeIs scheme) valid = ap (option_map SchemeIs) (cond-true _ _ _ valid.0 ∙ plain_kept scheme (scheme_named scheme) valid.1)
atom_read (NonceIs value) valid = ap (option_map NonceIs) (cond-true _ _ _ valid)
atom_read (IntegrityHas hash) valid = ap (option_map IntegrityHas) (hash_read hash.algorithm hash.value valid)
atom_read IntegrityOutside valid = refl
atom_read (DigestIs (one.Sha256 d)) valid = ap (λ found. option_map DigestIs (option_map one.Sha256 found)) (decoded 32 d valid)
atom_read (DigestIs (one.Sha384 d)) valid = ap (λ found. option_map DigestIs (option_map one.Sha384 found)) (decoded 48 d valid)
atom_read (DigestIs (one.Sha512 d)) valid = ap (λ found. option_map DigestIs (option_map one.Sha512 found)) (decoded 64 d valid)

pub spelling_read : (atom : Atom) → IsValidAtom atom → atom_of (atom_text atom) ≡ Some atom
spelling_read atom valid =
    ap (where_spelled (atom_text atom)) (atom_read atom valid) ∙ cond-true _ _ _ (texts_equal (atom_text atom) (atom_text atom) refl)

-- What is read

pub some_of : {A : Type 0} (P : A → Type 0) (b : Bool) (x : A) → (b ≡ true → P x) → IfSome (if b then Some x else None) P
some_of P b x h = cond_both b (Some x) None (λ o. IfSome o P) h (λ _. tt)

pub mapped : {A B : Type 0} (f : A → B) (P : B → Type 0) (o : Option A) → IfSome o (λ x. P (f x)) → IfSome (option_map f o) P
mapped f P None h = tt
mapped f P (Some x) h = h

host_valid : (text : List ℕ) → IfSome (host_of text) IsValidHost
host_valid text = cond_both (is_domain text) (Some (Domain text)) (address_of text) (λ o. IfSome o IsValidHost) (λ h. h) (λ _. some_of IsValidHost (is_address text) (Address text) (λ h. h))

some_pieces : (text : List ℕ) → pieces_of text ≢ []
some_pieces text none =
    let count : length (map percent_decode (split_at 47 text)) ≡ 0 = ap length none in
    omega (arith, count, simp length-map at count, length-slice_split (λ b. b == 47) text)

path_valid : (text : List ℕ) → IfSome (found_path text) IsValidPath
unfolding found_path
path_valid [] = tt
path_valid (b ∷ text) = cond_both (b == 47) (whole_pieces (pieces_of text)) None (λ o. IfSome o IsValidPath)
    (λ _. some_of IsValidPath (list_all is_piece (pieces_of text)) (pieces_of text) (λ h. (some_pieces text, h))) (λ _. tt)

below : (limit : ℕ) (text : List ℕ) → IfSome (number_below limit text) (λ n. n < limit)
unfolding number_below
below limit text = some_of (λ n. n < limit) _ (decimal_value text) (λ h. ltb-true (decimal_value text) limit (and_parts _ _ h).0)

scheme_valid : (text : List ℕ) → IfSome (plain_scheme text) (λ scheme. (is_lower_scheme scheme ≡ true) × IsNone (scheme_named scheme))
scheme_valid text = cond_both (is_lower_scheme text) (unless_known text (scheme_named text)) None (λ o. IfSome o (λ scheme. (is_lower_scheme scheme ≡ true) × IsNone (scheme_named scheme)))
    (λ lower. by (scheme_named text) refl lower) (λ _. tt) where
      by : (known : Option Scheme) → scheme_named text ≡ known → is_lower_scheme text ≡ true → IfSome (unless_known text known) (λ scheme. (is_lower_scheme scheme ≡ true) × IsNone (scheme_named scheme))
      by None is lower = (lower, subst IsNone (sym is) refl)
      by (Some scheme) is lower = tt

hash_valid : (parts : Option (List ℕ × List ℕ)) → IfSome (hash_in parts) (λ hash. is_base64_value hash.value ≡ true)
hash_valid None = tt
hash_valid (Some parts) = by (algorithm_named parts.0) (base64_text parts.1) (some_of (λ value. is_base64_value value ≡ true) (is_base64_value parts.1) parts.1 (λ h. h)) where
  by : (algorithm : Option Algorithm) (value : Option (List ℕ)) → IfSome value (λ v. is_base64_value v ≡ true) → IfSome (hash_of algorithm value) (λ hash. is_base64_value hash.value ≡ true)
  by None value h = tt
  by (Some algorithm) None h = tt
  by (Some algorithm) (Some value) h = h

bytes_pass : (text : List ℕ) → IsBytes text → are_bytes text ≡ true
bytes_pass [] bytes = refl
bytes_pass (b ∷ text) bytes = and_from (nat_lt b 256) (are_bytes text) (lt-ltb b 256 (bytes 0)) (bytes_pass text (λ i. bytes (suc i)))

sized : (digits : List ℕ) (size : ℕ) → IfSome (result_ok (decode_sized digits size)) (IsOfSize size)
sized digits size = by (decode_sized digits size) refl where
  by : (r : Result (List ℕ) FromHexError) → decode_sized digits size ≡ r → IfSome (result_ok r) (IsOfSize size)
  by (Err e) is = tt
  by (Ok bytes) is =
      let long = decode_sized-ok digits size bytes is in
      let whole = decode_of-ok digits bytes (sym (decode_sized-twice digits size long) ∙ is) in
      (omega (arith, long, whole.2), bytes_pass bytes whole.3)

digest_valid : (parts : Option (List ℕ × List ℕ)) → IfSome (digest_in parts) IsValidDigest
digest_valid None = tt
digest_valid (Some parts) = by (algorithm_named parts.0) where
  by : (algorithm : Option Algorithm) → IfSome (option_and_then (λ a. digest_by a parts.1) algorithm) IsValidDigest
  by None = tt
  by (Some Sha256) = mapped one.Sha256 IsValidDigest (result_ok (decode_sized parts.1 32)) (sized parts.1 32)
  by (Some Sha384) = mapped one.Sha384 IsValidDigest (result_ok (decode_sized parts.1 48)) (sized parts.1 48)
  by (Some Sha512) = mapped one.Sha512 IsValidDigest (result_ok (decode_sized parts.1 64)) (sized parts.1 64)

pub either : {A : Type 0} (P : A → Type 0) (b : Bool) (x y : Option A) → IfSome x P → IfSome y P → IfSome (if b then x else y) P
either P b x y h k = cond_both b x y (λ o. IfSome o P) (λ _. h) (λ _. k)

bare_valid : (text : List ℕ) → IfSome (bare_atom text) IsValidAtom
bare_valid text = either IsValidAtom (bytes_eq text (codes "host-domain")) _ _ tt (either IsValidAtom (bytes_eq text (codes "integrity-outside")) (Some IntegrityOutside) None tt tt)

about_valid : (word value : List ℕ) → IfSome (atom_about word value) IsValidAtom
unfolding atom_about
about_valid word value =
    let values = some_of (λ (v : List ℕ). is_base64_value v ≡ true) (is_base64_value value) value (λ h. h) in
    let domains = some_of (λ (v : List ℕ). is_domain v ≡ true) (is_domain value) value (λ h. h) in
    either IsValidAtom (bytes_eq word (codes "host-is")) _ _ (mapped HostIs IsValidAtom (host_of value) (host_valid value))
    (either IsValidAtom (bytes_eq word (codes "host-under")) _ _ (mapped HostUnder IsValidAtom (domain_text value) domains)
    (either IsValidAtom (bytes_eq word (codes "port-is")) _ _ (mapped PortIs IsValidAtom (number_below 65536 value) (below 65536 value))
    (either IsValidAtom (bytes_eq word (codes "path-is")) _ _ (mapped PathIs IsValidAtom (found_path value) (path_valid value))
    (either IsValidAtom (bytes_eq word (codes "path-under")) _ _ (mapped PathUnder IsValidAtom (found_path value) (path_valid value))
    (either IsValidAtom (bytes_eq word (codes "scheme-is")) _ _ (mapped SchemeIs IsValidAtom (plain_scheme value) (scheme_valid value))
    (either IsValidAtom (bytes_eq word (codes "nonce-is")) _ _ (mapped NonceIs IsValidAtom (base64_text value) values)
    (either IsValidAtom (bytes_eq word (codes "integrity-has")) _ _ (mapped IntegrityHas IsValidAtom (hash_in (cut value)) (hash_valid (cut value)))
    (either IsValidAtom (bytes_eq word (codes "digest-is")) (option_map DigestIs (digest_in (cut value))) None (mapped DigestIs IsValidAtom (digest_in (cut value)) (digest_valid (cut value))) tt))))))))

meant_valid : (text : List ℕ) → IfSome (meant_atom text) IsValidAtom
meant_valid text = by (cut text) where
  by : (parts : Option (List ℕ × List ℕ)) → IfSome (meant_by parts text) IsValidAtom
  by None = bare_valid text
  by (Some parts) = about_valid parts.0 parts.1

-- what is read is valid, and so spelled
pub atom_sound : (text : List ℕ) → IfSome (atom_of text) (λ atom. IsValidAtom atom × (atom_text atom ≡ text))
atom_sound text = by (meant_atom text) (meant_valid text) where
  by : (found : Option Atom) → IfSome found IsValidAtom → IfSome (where_spelled text found) (λ atom. IsValidAtom atom × (atom_text atom ≡ text))
  by None valid = tt
  by (Some atom) valid = some_of (λ a. IsValidAtom a × (atom_text a ≡ text)) (bytes_eq (atom_text atom) text) atom (λ h. (valid, same_text (atom_text atom) text h))

pub number_sound : (limit : ℕ) (text : List ℕ) → IfSome (number_below limit text) (λ n. (n < limit) × (decimal n ≡ text))
unfolding number_below
number_sound limit text = some_of (λ n. (n < limit) × (decimal n ≡ text)) _ (decimal_value text) (λ h.
    let parts = and_parts (nat_lt (decimal_value text) limit) (bytes_eq (decimal (decimal_value text)) text) h in
    (ltb-true (decimal_value text) limit parts.0, same_text (decimal (decimal_value text)) text parts.1))
