-- The atoms of policies that reading makes are valid, and those of their vocabulary.
use Rattle.std.proofs.Common.{◌≡◌, ◌≢◌, sym, refl, subst, ℕ, Bool, true, false, ◌&&◌, ◌||◌, ◌==◌, not, List, [], ◌∷◌, ◌++◌, map, get_or, length, Option, Some, None, All, IfSome, lit<}
use Rattle.std.specs.Prelude.{if◌then◌else◌, codes, is_some, IsNone}
use Rattle.std.specs.List.{flat_map, list_all}
use Rattle.std.specs.Option.{option_map, option_and_then, option_to_list}
use Rattle.std.specs.Str.{bytes_eq}
use Rattle.std.proofs.lemmas.Bool.{and_from, and_parts, eqb-true, or_left, false≢true}
use Rattle.std.proofs.lemmas.List.Elements.{All-append, All-cons, All-map, All-nil}
use Rattle.csp_model.specs.Ascii.{is_nonempty}
use Rattle.csp_model.specs.DecideEquality.{same_keyword}
use Rattle.csp_model.specs.Grammar.{IsSource, is_base64_value}
use Rattle.csp_model.specs.Reading.{source_of}
use Rattle.csp_model.specs.Policies.{IsReadablePolicy}
use Rattle.csp_model.specs.Schemes.{default_port, scheme_named}
use Rattle.csp_model.specs.Tokens.{size_of}
use Rattle.csp_model.specs.Validity.{is_domain, is_four_numbers, is_bracketed, is_address, is_piece, are_bytes, IsValidOrigin}
use Rattle.csp_model.specs.declared.policy.Directive.{Directive}
use Rattle.csp_model.specs.declared.policy.Policy.{Policy}
use Rattle.csp_model.specs.declared.source.Algorithm.{Algorithm}
use Rattle.csp_model.specs.declared.source.Algorithm.TheVariants.{Sha256, Sha384, Sha512}
use Rattle.csp_model.specs.declared.source.Hash.{Hash}
use Rattle.csp_model.specs.declared.source.HostPart.{HostPart}
use Rattle.csp_model.specs.declared.source.HostPart.TheVariants as host_part
use Rattle.csp_model.specs.declared.source.Keyword.TheVariants as keyword
use Rattle.csp_model.specs.declared.source.PathPart.{PathPart}
use Rattle.csp_model.specs.declared.source.PathPart.TheVariants as path_part
use Rattle.csp_model.specs.declared.source.PortPart.TheVariants as port_part
use Rattle.csp_model.specs.declared.source.Source.{Source}
use Rattle.csp_model.specs.declared.source.Source.TheVariants as source
use Rattle.csp_model.specs.declared.url.Host.TheVariants.{Domain, Address}
use Rattle.csp_model.specs.declared.url.Origin.{Origin}
use Rattle.csp_model.specs.declared.url.Origin.TheVariants as origin
use Rattle.csp_model.specs.declared.url.Scheme.{Scheme}
use Rattle.csp_model.specs.declared.url.Scheme.TheVariants.{Http, Https, Ftp}
use Rattle.csp_facts.specs.Atoms.{IsValidAtom, IsValidDigest}
use Rattle.csp_facts.specs.declared.atom.Atom.{Atom}
use Rattle.csp_facts.specs.declared.atom.Atom.TheVariants.{HostIs, HostUnder, PortIs, PathIs, PathUnder, SchemeIs, IntegrityHas, IntegrityOutside, DigestIs}
use Rattle.csp_formula.specs.Belonging.{HasBase64Values}
use Rattle.csp_formula.specs.Compiled.{digest_of, digest_with, is_of_size}
use Rattle.csp_formula.specs.Sources.{has_dots, is_dots}
use Rattle.csp_formula.proofs.AtomsOfSources.{ReadsPath, ReadsSource}
use Rattle.csp_formula.proofs.ReadParts.{reads}
use Rattle.csp_answer.specs.Naming.{all_atoms, directive_atoms, host_atom, own_atom, own_port, pair_atoms, path_atom, lead_atom, policy_atoms, port_atom, port_atoms, rest_atom, source_atoms}
use Rattle.csp_answer.proofs.Pieces.{of_flat_map, of_option}

-- what follows of a choice from each way
chosen : {A : Type 0} (P : A → Type 0) (test : Bool) (x y : Option A) → (test ≡ true → IfSome x P) → (test ≡ false → IfSome y P)
    → IfSome (if test then x else y) P
chosen P true x y is_x is_y = is_x refl
chosen P false x y is_x is_y = is_y refl

neither : (a b : Bool) → (a || b) ≡ false → (a ≡ false) × (b ≡ false)
neither false b e = (refl, e)
neither true b e = absurd (false≢true (sym e))

-- Hosts and schemes

address : (text : List ℕ) → is_four_numbers text ≡ true → is_address text ≡ true
unfolding is_address
address text four = or_left (is_four_numbers text) (is_bracketed text) four

host_valid : (part : HostPart) → IfSome (host_atom part) IsValidAtom
host_valid host_part.Any = tt
host_valid (host_part.Under suffix) = chosen IsValidAtom (is_domain suffix) (Some (HostUnder suffix)) None (λ is. is) (λ _. tt)
host_valid (host_part.Exact text) =
    chosen IsValidAtom (is_domain text) (Some (HostIs (Domain text))) (if is_four_numbers text then Some (HostIs (Address text)) else None) (λ is. is)
    (λ _. chosen IsValidAtom (is_four_numbers text) (Some (HostIs (Address text))) None (address text) (λ _. tt))

own_valid : (self : Origin) → IsValidOrigin self → IfSome (own_atom self) IsValidAtom
own_valid origin.Opaque valid = tt
own_valid (origin.Tuple scheme host port) valid = valid.1

own_port_valid : (self : Origin) → IsValidOrigin self → IfSome (own_port self) IsValidAtom
own_port_valid origin.Opaque valid = tt
own_port_valid (origin.Tuple scheme host None) valid = tt
own_port_valid (origin.Tuple scheme host (Some n)) valid = valid.2.0

port_valid : (s : Source) → ReadsSource s → IfSome (port_atom s) IsValidAtom
port_valid (source.Hosted scheme host (port_part.Number n) path) read = read.0
port_valid other read = tt

no_scheme : (o : Option Scheme) → is_some o ≡ false → IsNone o
no_scheme None e = refl
no_scheme (Some scheme) e = absurd (false≢true (sym e))

-- Paths

piece : (text : List ℕ) → are_bytes text ≡ true → is_dots text ≡ false → is_piece text ≡ true
unfolding is_piece
piece text bytes plain = by (are_bytes text) (bytes_eq text (codes ".")) (bytes_eq text (codes "..")) bytes plain where
  by : (a b c : Bool) → a ≡ true → (b || c) ≡ false → (a && not b && not c) ≡ true
  by true false false e f = refl
  by true true c e f = absurd (false≢true (sym f))
  by true false true e f = absurd (false≢true (sym f))
  by false b c e f = absurd (false≢true e)

all_pieces : (pieces : List (List ℕ)) → list_all are_bytes pieces ≡ true → has_dots pieces ≡ false → list_all is_piece pieces ≡ true
all_pieces [] bytes plain = refl
all_pieces (p ∷ ps) bytes plain =
    let all = and_parts (are_bytes p) (list_all are_bytes ps) bytes in
    let no = neither (is_dots p) (has_dots ps) plain in
    and_from (is_piece p) (list_all is_piece ps) (piece p all.0 no.0) (all_pieces ps all.1 no.1)

some_pieces : (pieces : List (List ℕ)) → not (is_nonempty pieces) ≡ false → pieces ≢ []
some_pieces [] e = absurd (false≢true (sym e))
some_pieces (p ∷ ps) e = λ (f : p ∷ ps ≡ []). cc f

path_valid : (part : PathPart) → ReadsPath part → IfSome (path_atom part) IsValidAtom
path_valid path_part.Absent read = tt
path_valid (path_part.Exact pieces) read =
    chosen IsValidAtom (has_dots pieces) None (Some (PathIs pieces)) (λ _. tt) (λ plain. (read.0, all_pieces pieces read.1 plain))
path_valid (path_part.Prefix pieces) read =
    chosen IsValidAtom (has_dots pieces || not (is_nonempty pieces)) None (Some (PathUnder pieces)) (λ _. tt)
    (λ other. let none = neither (has_dots pieces) (not (is_nonempty pieces)) other in (some_pieces pieces none.1, all_pieces pieces read none.0))

-- Digests

sized : (algorithm : Algorithm) (bytes : List ℕ) → is_of_size (size_of algorithm) bytes ≡ true → IsValidDigest (digest_with algorithm bytes)
sized Sha256 bytes is = let both = and_parts (length bytes == 32) (are_bytes bytes) is in (eqb-true (length bytes) 32 both.0, both.1)
sized Sha384 bytes is = let both = and_parts (length bytes == 48) (are_bytes bytes) is in (eqb-true (length bytes) 48 both.0, both.1)
sized Sha512 bytes is = let both = and_parts (length bytes == 64) (are_bytes bytes) is in (eqb-true (length bytes) 64 both.0, both.1)

decoded_valid : (algorithm : Algorithm) (decoded : Option (List ℕ))
    → IfSome (option_and_then (λ bytes. if is_of_size (size_of algorithm) bytes then Some (digest_with algorithm bytes) else None) decoded) IsValidDigest
decoded_valid algorithm (Some bytes) =
    chosen IsValidDigest (is_of_size (size_of algorithm) bytes) (Some (digest_with algorithm bytes)) None (sized algorithm bytes) (λ _. tt)
decoded_valid algorithm None = tt

-- Sources

-- the value of a hash-source is a base64-value
abbrev ReadsHash : Source → Type 0
ReadsHash (source.Digest hash) = is_base64_value hash.value ≡ true
ReadsHash other = Unit {0}

reads_hash : (token : List ℕ) (s : Source) → IsSource token s → ReadsHash s
reads_hash token (source.Digest hash) is = is.3
reads_hash token source.Star is = tt
reads_hash token (source.SchemeOnly scheme) is = tt
reads_hash token (source.Hosted scheme host port path) is = tt
reads_hash token (source.Word word) is = tt
reads_hash token (source.Nonce value) is = tt
reads_hash token (source.Other text) is = tt

module _ (self : Origin) (valid : IsValidOrigin self) where
  lead_valid : (s : Source) → ReadsSource s → ReadsHash s → IfSome (lead_atom self s) IsValidAtom
  lead_valid source.Star read hash = tt
  lead_valid (source.SchemeOnly scheme) read hash =
      chosen IsValidAtom (is_some (scheme_named scheme)) None (Some (SchemeIs scheme)) (λ _. tt) (λ other. (read, no_scheme (scheme_named scheme) other))
  lead_valid (source.Hosted scheme host port path) read hash = host_valid host
  lead_valid (source.Word word) read hash =
      chosen IsValidAtom (same_keyword word keyword.SelfOrigin) (own_atom self) None (λ _. own_valid self valid) (λ _. tt)
  lead_valid (source.Nonce value) read hash = read
  lead_valid (source.Digest hash) read is = is
  lead_valid (source.Other token) read hash = tt

  rest_valid : (s : Source) → ReadsSource s → IfSome (rest_atom s) IsValidAtom
  rest_valid (source.Hosted scheme host port path) read = path_valid path read.1
  rest_valid (source.Digest hash) read = by (digest_of hash) (decoded_valid hash.algorithm _) where
    by : (o : Option _) → IfSome o IsValidDigest → IfSome (option_map DigestIs o) IsValidAtom
    by None is = tt
    by (Some d) is = is
  rest_valid source.Star read = tt
  rest_valid (source.SchemeOnly scheme) read = tt
  rest_valid (source.Word word) read = tt
  rest_valid (source.Nonce value) read = tt
  rest_valid (source.Other token) read = tt

  ports_valid : All IsValidAtom (port_atoms self)
  ports_valid =
      let own = option_to_list (own_port self) in
      let one = All-cons IsValidAtom (PortIs (default_port Ftp)) own (lit< tt) (of_option IsValidAtom (own_port self) (own_port_valid self valid)) in
      let two = All-cons IsValidAtom (PortIs (default_port Https)) (PortIs (default_port Ftp) ∷ own) (lit< tt) one in
      All-cons IsValidAtom (PortIs (default_port Http)) (PortIs (default_port Https) ∷ PortIs (default_port Ftp) ∷ own) (lit< tt) two

  module _ (tokens_read : (token : List ℕ) → IsSource token (source_of token)) where
    token_valid : (token : List ℕ) → All IsValidAtom (source_atoms self (source_of token))
    token_valid token =
        let s = source_of token in
        let is = tokens_read token in
        let read = reads token s is in
        All-append IsValidAtom (option_to_list (port_atom s) ++ option_to_list (lead_atom self s)) (option_to_list (rest_atom s))
        (All-append IsValidAtom (option_to_list (port_atom s)) (option_to_list (lead_atom self s)) (of_option IsValidAtom (port_atom s) (port_valid s read))
        (of_option IsValidAtom (lead_atom self s) (lead_valid s read (reads_hash token s is))))
        (of_option IsValidAtom (rest_atom s) (rest_valid s read))

    tokens_valid : (tokens : List (List ℕ)) → All IsValidAtom (flat_map (source_atoms self) (map source_of tokens))
    tokens_valid [] = All-nil IsValidAtom
    tokens_valid (t ∷ ts) =
        All-append IsValidAtom (source_atoms self (source_of t)) (flat_map (source_atoms self) (map source_of ts)) (token_valid t) (tokens_valid ts)

    directives_valid : (ds : List Directive) → All (λ (d : Directive). d.sources ≡ map source_of d.tokens) ds → All IsValidAtom (flat_map (directive_atoms self) ds)
    directives_valid ds read =
        of_flat_map IsValidAtom (directive_atoms self) ds
        (λ k d inside. subst (λ (ss : List Source). All IsValidAtom (flat_map (source_atoms self) ss)) (sym (read k d inside)) (tokens_valid (get_or ds k d).tokens))

-- Policies

module _ (tokens_read : (token : List ℕ) → IsSource token (source_of token)) where
  policies_valid : (policies : List Policy) → All IsReadablePolicy policies → All IsValidAtom (flat_map policy_atoms policies)
  policies_valid policies readable = of_flat_map IsValidAtom policy_atoms policies (λ k d inside.
      let p = get_or policies k d in
      let is = readable k d inside in
      All-append IsValidAtom (port_atoms p.origin) (flat_map (directive_atoms p.origin) p.directives) (ports_valid p.origin is.origin)
      (directives_valid p.origin is.origin tokens_read p.directives is.read))

  pub all_valid : (hashes : List Hash) (ours theirs : List Policy) (others : List Atom) → HasBase64Values hashes → All IsReadablePolicy ours → All IsReadablePolicy theirs
      → All IsValidAtom others → All IsValidAtom (all_atoms hashes ours theirs others)
  all_valid hashes ours theirs others base64 first second rest =
      let pairs = All-cons IsValidAtom IntegrityOutside (map (λ (h : Hash). IntegrityHas h) hashes) tt (All-map IsValidAtom (λ (h : Hash). IntegrityHas h) hashes base64) in
      let two = All-append IsValidAtom (pair_atoms hashes) (flat_map policy_atoms ours) pairs (policies_valid ours first) in
      let three = All-append IsValidAtom (pair_atoms hashes ++ flat_map policy_atoms ours) (flat_map policy_atoms theirs) two (policies_valid theirs second) in
      All-append IsValidAtom (pair_atoms hashes ++ flat_map policy_atoms ours ++ flat_map policy_atoms theirs) others three rest
