-- What a source expression says of a URL is whether it matches.
use Rattle.std.proofs.Common.{◌≡◌, ◌≢◌, ◌∙◌, sym, ap, refl, ℕ, Bool, true, false, ◌&&◌, ◌||◌, List, [], ◌∷◌, Option, Some, None, All}
use Rattle.std.specs.Prelude.{if◌then◌else◌, codes, is_some, IsNone}
use Rattle.std.specs.List.{list_any}
use Rattle.std.specs.Str.{bytes_eq}
use Rattle.std.proofs.lemmas.Bool.{false≢true, false_from_ne_true, or_from, and_right}
use Rattle.std.proofs.lemmas.List.Elements.{All-head, All-tail}
use Rattle.std.proofs.lemmas.Slice.Eq.{bytes_eq-Decides}
use Rattle.base64.specs.GeneralPurpose.{IsBytes}
use Rattle.csp_model.proofs.Deciding.{same_bool}
use Rattle.csp_model.proofs.EqualityDecided.{same_host_decides}
use Rattle.csp_model.specs.DecideEquality.{same_host, same_port, same_keyword}
use Rattle.csp_model.specs.DecideMatching.{is_network_scheme, scheme_matches, own_scheme_matches, host_matches, port_matches, path_matches, self_scheme_matches, self_matches, matches, list_matches}
use Rattle.csp_model.specs.Matching.{upgrades}
use Rattle.csp_model.specs.Parts.{checked_url}
use Rattle.csp_model.specs.Schemes.{scheme_text, scheme_named}
use Rattle.csp_model.specs.Validity.{IsValidUrl}
use Rattle.csp_model.specs.declared.check.Check.{Check}
use Rattle.csp_model.specs.declared.source.Hash.{Hash}
use Rattle.csp_model.specs.declared.source.HostPart.{HostPart}
use Rattle.csp_model.specs.declared.source.Keyword.TheVariants as keyword
use Rattle.csp_model.specs.declared.source.PathPart.{PathPart}
use Rattle.csp_model.specs.declared.source.PortPart.{PortPart}
use Rattle.csp_model.specs.declared.source.Source.{Source}
use Rattle.csp_model.specs.declared.source.Source.TheVariants as source
use Rattle.csp_model.specs.declared.url.Host.{Host}
use Rattle.csp_model.specs.declared.url.Origin.{Origin}
use Rattle.csp_model.specs.declared.url.Origin.TheVariants as origin
use Rattle.csp_model.specs.declared.url.Scheme.{Scheme}
use Rattle.csp_model.specs.declared.url.Scheme.TheVariants.{Http, Https, Ws, Wss, Ftp}
use Rattle.csp_model.specs.declared.url.Url.{Url}
use Rattle.csp_model.specs.declared.url.Url.TheVariants as url
use Rattle.csp_facts.specs.Holding.{on_plain}
use Rattle.csp_facts.specs.declared.atom.Atom.TheVariants.{HostIs, SchemeIs}
use Rattle.csp_facts.specs.Shapes.{hosted_scheme}
use Rattle.csp_facts.specs.declared.shape.Shape.{Shape}
use Rattle.csp_formula.specs.Sentences.{Known, Fact, all_of}
use Rattle.csp_formula.specs.Sources.{host_sentence, port_sentence, path_sentence, star_sentence, scheme_sentence, host_source_sentence, own_port_sentence, self_sentence, source_sentence, list_sentence, shape_scheme, after_redirect, is_ancestor}
use Rattle.csp_formula.specs.Values.{is_true_for}
use Rattle.csp_formula.proofs.UrlPartsSaid.{IsReadHost, IsReadPath, same_text, host_is, host_said, port_said, own_port_said, path_said}

-- what reading says of a source
abbrev pub IsReadSource : Source → Type 0
IsReadSource (source.Hosted scheme host port path) = IsReadHost host × IsReadPath path
IsReadSource (source.Nonce value) = value ≢ []
IsReadSource (source.Digest hash) = IsBytes hash.value
IsReadSource other = Unit {0}

pub and_true : (b : Bool) → (b && true) ≡ b
and_true true = refl
and_true false = refl

and_false : (b : Bool) → (b && false) ≡ false
and_false true = refl
and_false false = refl

pub or_false : (b : Bool) → (b || false) ≡ b
or_false true = refl
or_false false = refl

all3 : (a b c d e f : Bool) → a ≡ d → b ≡ e → c ≡ f → (a && (b && (c && true))) ≡ (d && (e && f))
all3 a b c d e f ad be cf =
    ap (λ x. x && (b && (c && true))) ad ∙ ap (λ x. d && (x && (c && true))) be
    ∙ ap (λ x. d && (e && x)) (and_true c ∙ cf)

all2 : (a b c d : Bool) → a ≡ c → b ≡ d → (a && (b && true)) ≡ (c && (d && true))
all2 a b c d ac bd = ap (λ x. x && (b && true)) ac ∙ ap (λ x. c && (x && true)) bd

neither : (a b : Bool) → false ≡ (a && (b && false))
neither a b = sym (ap (λ x. a && x) (and_false b) ∙ and_false a)

turned_host : (a b : Host) → same_host a b ≡ same_host b a
turned_host a b =
    same_bool (same_host a b) (same_host b a)
    (λ e. (same_host_decides b a).1 (sym ((same_host_decides a b).0 e)))
    (λ e. (same_host_decides a b).1 (sym ((same_host_decides b a).0 e)))

-- Schemes that aren't one of the five

five_named : (scheme : Scheme) → scheme_named (scheme_text scheme) ≡ Some scheme
five_named Http = refl
five_named Https = refl
five_named Ws = refl
five_named Wss = refl
five_named Ftp = refl

pub none_is : {A : Type 0} (o : Option A) → IsNone o → o ≡ None
none_is None h = refl
none_is (Some x) h = absurd (false≢true (sym h))

module _ (part : List ℕ) (other : scheme_named part ≡ None) where
  apart : (scheme : Scheme) → bytes_eq (scheme_text scheme) part ≡ false
  apart scheme = false_from_ne_true (bytes_eq (scheme_text scheme) part) (λ e.
      let same = (bytes_eq-Decides (scheme_text scheme) part).0 e in
      let named : Some scheme ≡ None = sym (five_named scheme) ∙ ap scheme_named same ∙ other in cc)

  pub no_network : is_network_scheme part ≡ false
  no_network =
      or_from (bytes_eq (codes "http") part) _ (apart Http) (or_from (bytes_eq (codes "https") part) _ (apart Https)
      (or_from (bytes_eq (codes "ws") part) _ (apart Ws) (or_from (bytes_eq (codes "wss") part) false (apart Wss) refl)))

  no_upgrade : (s : List ℕ) → list_any (λ (pair : List ℕ × List ℕ). bytes_eq pair.0 s && bytes_eq pair.1 part) upgrades ≡ false
  no_upgrade s =
      or_from (bytes_eq (codes "http") s && bytes_eq (codes "https") part) _ (and_right _ _ (apart Https))
      (or_from (bytes_eq (codes "ws") s && bytes_eq (codes "wss") part) _ (and_right _ _ (apart Wss))
      (or_from (bytes_eq (codes "ws") s && bytes_eq (codes "http") part) _ (and_right _ _ (apart Http))
      (or_from (bytes_eq (codes "ws") s && bytes_eq (codes "https") part) _ (and_right _ _ (apart Https))
      (or_from (bytes_eq (codes "wss") s && bytes_eq (codes "https") part) false (and_right _ _ (apart Https)) refl))))

  only_same : (s : List ℕ) → scheme_matches s part ≡ bytes_eq s part
  only_same s = ap (λ b. bytes_eq s part || b) (no_upgrade s) ∙ or_false (bytes_eq s part)

  no_named : (s : List ℕ) → is_some (scheme_named s) ≡ true → bytes_eq s part ≡ false
  no_named s some = false_from_ne_true (bytes_eq s part) (λ e.
      let same = (bytes_eq-Decides s part).0 e in
      let none : false ≡ true = sym (ap is_some (ap scheme_named same ∙ other)) ∙ some in cc)

-- A URL with a host

module _ (hashes : List Hash) (asked : Check) (scheme : Scheme) (host : Host) (port : Option ℕ) (path : List (List ℕ))
    (there : checked_url asked ≡ Some (url.Hosted scheme host port path)) (valid : IsValidUrl (url.Hosted scheme host port path))
    (kind : Shape) (self : Origin) (at : shape_scheme kind ≡ Some scheme) (single : is_ancestor kind ≡ true → path ≡ [] ∷ []) where
  host_source_by : (host_part : HostPart) (port_part : PortPart) (path_part : PathPart) → IsReadHost host_part → IsReadPath path_part → (own : Bool)
      → is_true_for hashes asked (if own then all_of (host_sentence host_part ∷ port_sentence port_part scheme ∷ path_sentence path_part kind ∷ []) else Known false)
      ≡ (own && (host_matches host_part host && (port_matches port_part port scheme && (after_redirect kind || path_matches path_part path))))
  host_source_by host_part port_part path_part read_host read_path true =
      all3 (is_true_for hashes asked (host_sentence host_part)) (is_true_for hashes asked (port_sentence port_part scheme)) (is_true_for hashes asked (path_sentence path_part kind))
      (host_matches host_part host) (port_matches port_part port scheme) (after_redirect kind || path_matches path_part path)
      (host_said hashes asked scheme host port path there host_part read_host valid.0) (port_said hashes asked scheme host port path there port_part valid.1)
      (path_said hashes asked scheme host port path there path_part kind read_path valid.2 valid.3 single)
  host_source_by host_part port_part path_part read_host read_path false = refl

  self_by : (own_host : Host) (own_port : Option ℕ) (own : Bool)
      → is_true_for hashes asked (if own then all_of (Fact (HostIs own_host) ∷ own_port_sentence own_port scheme ∷ []) else Known false)
      ≡ (same_host own_host host && (same_port own_port port && own))
  self_by own_host own_port true =
      all2 (is_true_for hashes asked (Fact (HostIs own_host))) (is_true_for hashes asked (own_port_sentence own_port scheme)) (same_host own_host host) (same_port own_port port)
      (host_is hashes asked scheme host port path there own_host ∙ turned_host host own_host) (own_port_said hashes asked scheme host port path there own_port valid.1)
  self_by own_host own_port false = neither (same_host own_host host) (same_port own_port port)

  self_said : (o : Origin) → is_true_for hashes asked (self_sentence o (Some scheme)) ≡ self_matches o (url.Hosted scheme host port path)
  self_said origin.Opaque = refl
  self_said (origin.Tuple own own_host own_port) = self_by own_host own_port (self_scheme_matches own scheme)

  word_by : (own : Bool) → is_true_for hashes asked (if own then self_sentence self (shape_scheme kind) else Known false) ≡ (own && self_matches self (url.Hosted scheme host port path))
  word_by true = ap (λ g. is_true_for hashes asked (self_sentence self g)) at ∙ self_said self
  word_by false = refl

  hosted_said : (s : Source) → IsReadSource s → is_true_for hashes asked (source_sentence self kind s) ≡ matches s self (url.Hosted scheme host port path) (after_redirect kind)
  hosted_said source.Star read = ap (λ g. is_true_for hashes asked (star_sentence g)) at
  hosted_said (source.SchemeOnly part) read = ap (λ g. is_true_for hashes asked (scheme_sentence part g)) at
  hosted_said (source.Hosted scheme_part host_part port_part path_part) read =
      ap (λ g. is_true_for hashes asked (host_source_sentence scheme_part host_part port_part path_part self kind g)) at
      ∙ host_source_by host_part port_part path_part read.0 read.1 (own_scheme_matches scheme_part self (scheme_text scheme))
  hosted_said (source.Word word) read = word_by (same_keyword word keyword.SelfOrigin)
  hosted_said (source.Nonce value) read = refl
  hosted_said (source.Digest hash) read = refl
  hosted_said (source.Other token) read = refl

-- Any other URL

module _ (hashes : List Hash) (asked : Check) (part : List ℕ) (there : checked_url asked ≡ Some (url.Plain part)) (other : scheme_named part ≡ None)
    (kind : Shape) (self : Origin) (at : shape_scheme kind ≡ None) where
  scheme_by : (s : List ℕ) (known : Bool) → is_some (scheme_named s) ≡ known
      → is_true_for hashes asked (if known then Known false else Fact (SchemeIs s)) ≡ bytes_eq s part
  scheme_by s true e = sym (no_named part other s e)
  scheme_by s false e = ap (λ u. on_plain u (λ p. bytes_eq p s)) there ∙ same_text part s

  no_self : (o : Origin) → is_true_for hashes asked (self_sentence o None) ≡ self_matches o (url.Plain part)
  no_self origin.Opaque = refl
  no_self (origin.Tuple own own_host own_port) = refl

  no_word : (own : Bool) → is_true_for hashes asked (if own then self_sentence self (shape_scheme kind) else Known false) ≡ (own && self_matches self (url.Plain part))
  no_word true = ap (λ g. is_true_for hashes asked (self_sentence self g)) at ∙ no_self self
  no_word false = refl

  plain_said : (s : Source) → is_true_for hashes asked (source_sentence self kind s) ≡ matches s self (url.Plain part) (after_redirect kind)
  plain_said source.Star = ap (λ g. is_true_for hashes asked (star_sentence g)) at ∙ sym (no_network part other)
  plain_said (source.SchemeOnly s) =
      ap (λ g. is_true_for hashes asked (scheme_sentence s g)) at
      ∙ scheme_by s (is_some (scheme_named s)) refl ∙ sym (only_same part other s)
  plain_said (source.Hosted scheme_part host_part port_part path_part) =
      ap (λ g. is_true_for hashes asked (host_source_sentence scheme_part host_part port_part path_part self kind g)) at
  plain_said (source.Word word) = no_word (same_keyword word keyword.SelfOrigin)
  plain_said (source.Nonce value) = refl
  plain_said (source.Digest hash) = refl
  plain_said (source.Other token) = refl

-- Source lists

-- an ancestor's path is one empty piece
abbrev pub IsFixedPath : Shape → Url → Type 0
IsFixedPath kind (url.Plain part) = Unit {0}
IsFixedPath kind (url.Hosted scheme host port path) = is_ancestor kind ≡ true → path ≡ [] ∷ []

module _ (hashes : List Hash) (asked : Check) (kind : Shape) (self : Origin) where
  source_said : (there : Url) → checked_url asked ≡ Some there → IsValidUrl there → shape_scheme kind ≡ hosted_scheme there → IsFixedPath kind there
      → (s : Source) → IsReadSource s → is_true_for hashes asked (source_sentence self kind s) ≡ matches s self there (after_redirect kind)
  source_said (url.Plain part) at valid scheme single s read = plain_said hashes asked part at (none_is (scheme_named part) valid.1) kind self scheme s
  source_said (url.Hosted g host port path) at valid scheme single s read = hosted_said hashes asked g host port path at valid kind self scheme single s read

  pub list_said : (there : Url) → checked_url asked ≡ Some there → IsValidUrl there → shape_scheme kind ≡ hosted_scheme there → IsFixedPath kind there
      → (sources : List Source) → All IsReadSource sources
      → is_true_for hashes asked (list_sentence self kind sources) ≡ list_matches sources self there (after_redirect kind)
  list_said there at valid scheme single [] read = refl
  list_said there at valid scheme single (s ∷ sources) read =
      ap (λ b. b || is_true_for hashes asked (list_sentence self kind sources)) (source_said there at valid scheme single s (All-head IsReadSource s sources read))
      ∙ ap (λ b. matches s self there (after_redirect kind) || b) (list_said there at valid scheme single sources (All-tail IsReadSource s sources read))
