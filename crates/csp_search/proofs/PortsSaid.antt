-- How many ports a sentence names: each source of a list at most one, and nonces, hashes and digests none.
use Rattle.std.proofs.Common.{◌≡◌, ◌∙◌, refl, ap, ap₂, ℕ, ◌+◌, ◌≤◌, Bool, true, false, not, ◌||◌, ◌==◌, List, [], ◌∷◌, ◌++◌, map, filter, length, cond, Option, Some, None, IfSome, arith, length-append}
use Rattle.std.specs.Prelude.{if◌then◌else◌, is_some}
use Rattle.std.specs.List.{filter_map, cons_option}
use Rattle.std.specs.Option.{option_map}
use Rattle.std.proofs.lemmas.List.Elements.{filter-append}
use Rattle.csp_model.specs.Ascii.{is_nonempty}
use Rattle.csp_model.specs.DecideEquality.{same_keyword}
use Rattle.csp_model.specs.DecideInline.{allows_all_inline, hash_counts}
use Rattle.csp_model.specs.DecideMatching.{own_scheme_matches, self_scheme_matches}
use Rattle.csp_model.specs.DecideTokens.{has_keyword}
use Rattle.csp_model.specs.Governing.{Governor}
use Rattle.csp_model.specs.Inline.{is_element_kind}
use Rattle.csp_model.specs.Schemes.{scheme_text, scheme_named, default_port}
use Rattle.csp_model.specs.Validity.{is_domain, is_four_numbers}
use Rattle.csp_model.specs.declared.check.Digest.{Digest}
use Rattle.csp_model.specs.declared.check.FetchRule.{FetchRule}
use Rattle.csp_model.specs.declared.check.FetchRule.TheVariants as rule
use Rattle.csp_model.specs.declared.check.InlineKind.{InlineKind}
use Rattle.csp_model.specs.declared.source.Hash.{Hash}
use Rattle.csp_model.specs.declared.source.HostPart.{HostPart}
use Rattle.csp_model.specs.declared.source.HostPart.TheVariants as host_part
use Rattle.csp_model.specs.declared.source.Keyword.TheVariants as keyword
use Rattle.csp_model.specs.declared.source.PathPart.{PathPart}
use Rattle.csp_model.specs.declared.source.PathPart.TheVariants as path_part
use Rattle.csp_model.specs.declared.source.PortPart.{PortPart}
use Rattle.csp_model.specs.declared.source.PortPart.TheVariants as port_part
use Rattle.csp_model.specs.declared.source.Source.{Source}
use Rattle.csp_model.specs.declared.source.Source.TheVariants as source
use Rattle.csp_model.specs.declared.url.Host.TheVariants.{Domain, Address}
use Rattle.csp_model.specs.declared.url.Origin.{Origin}
use Rattle.csp_model.specs.declared.url.Origin.TheVariants as origin
use Rattle.csp_model.specs.declared.url.Scheme.{Scheme}
use Rattle.csp_facts.specs.Vocabulary.{hash_of_source}
use Rattle.csp_facts.specs.declared.atom.Atom.{Atom}
use Rattle.csp_facts.specs.declared.atom.Atom.TheVariants.{HostIs, HostUnder, PathIs, PathUnder, PortIs, SchemeIs, DigestIs}
use Rattle.csp_facts.specs.declared.shape.Shape.{Shape}
use Rattle.csp_formula.specs.Compiled.{nonces_sentence, has_pair, pairs_sentence, other_hashes, integrity_sentence, digest_of, digest_fact, digests_sentence, dynamic_sentence, fetch_sentence, only_where, inline_sentence, said_by}
use Rattle.csp_formula.specs.Sentences.{Sentence, Known, Fact, Not, Both, Either, all_of, any_of}
use Rattle.csp_formula.specs.Sources.{host_sentence, port_sentence, path_sentence, path_fact, has_dots, star_sentence, scheme_sentence, host_source_sentence, own_port_sentence, self_sentence, source_sentence, list_sentence, shape_scheme, after_redirect, is_ancestor}
use Rattle.csp_formula.specs.Values.{atoms_in}

abbrev pub names_port : Atom → Bool
names_port (PortIs n) = true
names_port atom = false

abbrev pub ports : Sentence → ℕ
ports (Known b) = 0
ports (Fact atom) = cond (names_port atom) 1 0
ports (Not x) = ports x
ports (Both x y) = ports x + ports y
ports (Either x y) = ports x + ports y

pub length_both : (xs ys : List Atom) → length (filter names_port (xs ++ ys)) ≡ length (filter names_port xs) + length (filter names_port ys)
length_both xs ys = ap length (filter-append names_port xs ys) ∙ length-append (filter names_port xs) (filter names_port ys)

one_atom : (b : Bool) (atom : Atom) → length (cond b (atom ∷ []) []) ≡ cond b 1 0
one_atom true atom = refl
one_atom false atom = refl

pub counted : (s : Sentence) → length (filter names_port (atoms_in s)) ≡ ports s
counted (Known b) = refl
counted (Fact atom) = one_atom (names_port atom) atom
counted (Not x) = counted x
counted (Both x y) = length_both (atoms_in x) (atoms_in y) ∙ ap₂ (λ (m n : ℕ). m + n) (counted x) (counted y)
counted (Either x y) = length_both (atoms_in x) (atoms_in y) ∙ ap₂ (λ (m n : ℕ). m + n) (counted x) (counted y)

-- Choices

by_test : (n : ℕ) (test : Bool) (x y : Sentence) → ports x ≤ n → ports y ≤ n → ports (if test then x else y) ≤ n
by_test n true x y a b = a
by_test n false x y a b = b

only : (test : Bool) (x : Sentence) → ports x ≤ 0 → ports (only_where test x) ≤ 0
only test x none = by_test 0 test x (Known false) none (omega arith)

pub said : (n : ℕ) (o : Option Governor) (says : Governor → Sentence) → IfSome o (λ g. ports (says g) ≤ n) → ports (said_by o says) ≤ n
said n None says each = omega arith
said n (Some g) says each = each

-- Sources

host_none : (host : HostPart) → ports (host_sentence host) ≤ 0
host_none host_part.Any = omega arith
host_none (host_part.Under suffix) = by_test 0 (is_domain suffix) (Fact (HostUnder suffix)) (Known false) (omega arith) (omega arith)
host_none (host_part.Exact text) =
    let address = if is_four_numbers text then Fact (HostIs (Address text)) else Known false in
    by_test 0 (is_domain text) (Fact (HostIs (Domain text))) address (omega arith)
    (by_test 0 (is_four_numbers text) (Fact (HostIs (Address text))) (Known false) (omega arith) (omega arith))

port_one : (port : PortPart) (scheme : Scheme) → ports (port_sentence port scheme) ≤ 1
port_one port_part.Absent scheme = omega arith
port_one port_part.Any scheme = omega arith
port_one (port_part.Number n) scheme = omega arith
port_one port_part.TooLarge scheme = omega arith

path_fact_none : (always never : Bool) (atom : Atom) → ports (Fact atom) ≤ 0 → ports (path_fact always never atom) ≤ 0
path_fact_none true never atom none = omega arith
path_fact_none false true atom none = omega arith
path_fact_none false false atom none = none

path_none : (path : PathPart) (kind : Shape) → ports (path_sentence path kind) ≤ 0
path_none path_part.Absent kind = omega arith
path_none (path_part.Exact pieces) kind =
    path_fact_none (after_redirect kind) (has_dots pieces || is_ancestor kind) (PathIs pieces) (omega arith)
path_none (path_part.Prefix pieces) kind =
    path_fact_none (after_redirect kind || not (is_nonempty pieces)) (has_dots pieces || is_ancestor kind) (PathUnder pieces) (omega arith)

star_one : (scheme : Option Scheme) → ports (star_sentence scheme) ≤ 1
star_one (Some scheme) = omega arith
star_one None = omega arith

scheme_one : (part : List ℕ) (scheme : Option Scheme) → ports (scheme_sentence part scheme) ≤ 1
scheme_one part (Some scheme) = omega arith
scheme_one part None = by_test 1 (is_some (scheme_named part)) (Known false) (Fact (SchemeIs part)) (omega arith) (omega arith)

host_source_one : (scheme_part : Option (List ℕ)) (host : HostPart) (port : PortPart) (path : PathPart) (self : Origin) (kind : Shape)
    (scheme : Option Scheme) → ports (host_source_sentence scheme_part host port path self kind scheme) ≤ 1
host_source_one scheme_part host port path self kind None = omega arith
host_source_one scheme_part host port path self kind (Some scheme) =
    let h = host_none host in
    let n = port_one port scheme in
    let p = path_none path kind in
    by_test 1 (own_scheme_matches scheme_part self (scheme_text scheme))
    (all_of (host_sentence host ∷ port_sentence port scheme ∷ path_sentence path kind ∷ [])) (Known false) (omega arith) (omega arith)

own_port_one : (port : Option ℕ) (scheme : Scheme) → ports (own_port_sentence port scheme) ≤ 1
own_port_one None scheme = omega arith
own_port_one (Some n) scheme = by_test 1 (n == default_port scheme) (Known false) _ (omega arith) (omega arith)

self_one : (self : Origin) (scheme : Option Scheme) → ports (self_sentence self scheme) ≤ 1
self_one (origin.Tuple own host port) (Some scheme) =
    let n = own_port_one port scheme in
    by_test 1 (self_scheme_matches own scheme) (all_of (Fact (HostIs host) ∷ own_port_sentence port scheme ∷ [])) (Known false)
    (omega arith) (omega arith)
self_one self scheme = omega arith

source_one : (self : Origin) (kind : Shape) (s : Source) → ports (source_sentence self kind s) ≤ 1
source_one self kind source.Star = star_one (shape_scheme kind)
source_one self kind (source.SchemeOnly scheme) = scheme_one scheme (shape_scheme kind)
source_one self kind (source.Hosted scheme host port path) = host_source_one scheme host port path self kind (shape_scheme kind)
source_one self kind (source.Word word) =
    by_test 1 (same_keyword word keyword.SelfOrigin) (self_sentence self (shape_scheme kind)) (Known false)
    (self_one self (shape_scheme kind)) (omega arith)
source_one self kind (source.Nonce value) = omega arith
source_one self kind (source.Digest hash) = omega arith
source_one self kind (source.Other token) = omega arith

pub list_few : (self : Origin) (kind : Shape) (sources : List Source) → ports (list_sentence self kind sources) ≤ length sources
list_few self kind [] = omega arith
list_few self kind (s ∷ sources) =
    let one = source_one self kind s in
    let others = list_few self kind sources in
    omega arith

-- Nonces, integrity metadata and digests

nonces_none : (sources : List Source) → ports (nonces_sentence sources) ≤ 0
nonces_none [] = omega arith
nonces_none (source.Nonce value ∷ sources) = let others = nonces_none sources in omega arith
nonces_none (other ∷ sources) = nonces_none sources

pairs_none : (hashes : List Hash) → ports (any_of (map has_pair hashes)) ≤ 0
pairs_none [] = omega arith
pairs_none (h ∷ hashes) = let others = pairs_none hashes in omega arith

denials_none : (hashes : List Hash) (x : Sentence) → ports x ≤ 0 → ports (all_of (map (λ h. Not (has_pair h)) hashes ++ x ∷ [])) ≤ 0
denials_none [] x none = omega arith
denials_none (h ∷ hashes) x none = let others = denials_none hashes x none in omega arith

integrity_none : (hashes : List Hash) (sources : List Source) → ports (integrity_sentence hashes sources) ≤ 0
integrity_none hashes sources =
    let others = denials_none (other_hashes hashes sources) (pairs_sentence sources) (pairs_none (filter_map hash_of_source sources)) in
    omega arith

digest_more : (digest : Option Digest) (others : List Sentence) → ports (any_of others) ≤ 0
    → ports (any_of (cons_option (option_map (λ d. Fact (DigestIs d)) digest) others)) ≤ 0
digest_more None others none = none
digest_more (Some d) others none = omega arith

digests_none : (sources : List Source) → ports (digests_sentence sources) ≤ 0
digests_none [] = omega arith
digests_none (source.Digest hash ∷ sources) = digest_more (digest_of hash) (filter_map digest_fact sources) (digests_none sources)
digests_none (other ∷ sources) = digests_none sources

-- Governing lists

pub fetch_few : (n : ℕ) (by : FetchRule) (hashes : List Hash) (sources : List Source) (parser : Bool) (listed : Sentence)
    → ports listed ≤ n → ports (fetch_sentence by hashes sources parser listed) ≤ n
fetch_few n rule.Script hashes sources parser listed few =
    let x = nonces_none sources in
    let y = integrity_none hashes sources in
    let z : ports (dynamic_sentence sources parser listed) ≤ n =
    by_test n (has_keyword keyword.StrictDynamic sources) (Known (not parser)) listed (omega arith) few in
    omega arith
fetch_few n rule.Style hashes sources parser listed few = let x = nonces_none sources in omega arith
fetch_few n rule.List hashes sources parser listed few = few

pub inline_none : (which : InlineKind) (sources : List Source) → ports (inline_sentence which sources) ≤ 0
inline_none which sources =
    let x = only_where (is_element_kind which) (nonces_sentence sources) in
    let y = only_where (hash_counts which sources) (digests_sentence sources) in
    let no_nonces : ports x ≤ 0 = only (is_element_kind which) (nonces_sentence sources) (nonces_none sources) in
    let no_digests : ports y ≤ 0 = only (hash_counts which sources) (digests_sentence sources) (digests_none sources) in
    by_test 0 (allows_all_inline which sources) (Known true) (any_of (x ∷ y ∷ [])) (omega arith) (omega arith)
