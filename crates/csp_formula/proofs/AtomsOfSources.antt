-- The atoms of what a source says of a shape are on parts that the shape looks at, and valid.
use Rattle.std.proofs.Common.{◌≡◌, ◌≢◌, sym, ap, refl, ℕ, ◌<◌, ◌^◌, Bool, true, false, ◌&&◌, ◌||◌, not, List, [], ◌∷◌, map, Option, Some, None, All, IfSome, lit<}
use Rattle.std.specs.Prelude.{if◌then◌else◌, codes, is_some, ◌==◌, IsNone}
use Rattle.std.specs.List.{list_all}
use Rattle.std.specs.Str.{bytes_eq}
use Rattle.std.proofs.lemmas.Bool.{and_from, and_parts, or_left, false≢true}
use Rattle.std.proofs.lemmas.List.Elements.{All-nil, All-cons, All-head, All-tail}
use Rattle.csp_model.specs.Ascii.{is_nonempty}
use Rattle.csp_model.specs.DecideEquality.{same_keyword}
use Rattle.csp_model.specs.DecideMatching.{own_scheme_matches, self_scheme_matches}
use Rattle.csp_model.specs.Grammar.{is_base64_value}
use Rattle.csp_model.specs.Schemes.{scheme_text, scheme_named, default_port}
use Rattle.csp_model.specs.Validity.{is_domain, is_four_numbers, is_bracketed, is_address, is_piece, are_bytes, is_lower_scheme, IsValidOrigin}
use Rattle.csp_model.specs.declared.check.CheckPart.{CheckPart}
use Rattle.csp_model.specs.declared.check.CheckPart.TheVariants as part
use Rattle.csp_model.specs.declared.source.Hash.{Hash}
use Rattle.csp_model.specs.declared.source.HostPart.{HostPart}
use Rattle.csp_model.specs.declared.source.HostPart.TheVariants as host_part
use Rattle.csp_model.specs.declared.source.Keyword.TheVariants as keyword
use Rattle.csp_model.specs.declared.source.PathPart.{PathPart}
use Rattle.csp_model.specs.declared.source.PathPart.TheVariants as path_part
use Rattle.csp_model.specs.declared.source.PortPart.{PortPart}
use Rattle.csp_model.specs.declared.source.PortPart.TheVariants as port_part
use Rattle.csp_model.specs.declared.source.Source.{Source}
use Rattle.csp_model.specs.declared.source.Source.TheVariants as source
use Rattle.csp_model.specs.declared.url.Host.TheVariants.{Domain, Address}
use Rattle.csp_model.specs.declared.url.Origin.{Origin}
use Rattle.csp_model.specs.declared.url.Origin.TheVariants as origin
use Rattle.csp_model.specs.declared.url.Scheme.{Scheme}
use Rattle.csp_model.specs.declared.url.Scheme.TheVariants.{Http, Https, Ws, Wss, Ftp}
use Rattle.csp_facts.specs.declared.atom.Atom.{Atom}
use Rattle.csp_facts.specs.declared.atom.Atom.TheVariants.{HostIs, HostUnder, HostDomain, PortIs, PathIs, PathUnder, SchemeIs}
use Rattle.csp_facts.specs.Shapes.{looks_at, checks_have, compares_paths, is_url_part}
use Rattle.csp_facts.specs.declared.shape.Shape.{Shape}
use Rattle.csp_formula.specs.Belonging.{IsAtomAt}
use Rattle.csp_formula.specs.Sentences.{Known, Fact, all_of}
use Rattle.csp_formula.specs.Sources.{host_sentence, port_sentence, path_sentence, path_fact, has_dots, star_sentence, scheme_sentence, host_source_sentence, own_port_sentence, self_sentence, source_sentence, list_sentence, shape_scheme, after_redirect, is_ancestor}
use Rattle.csp_formula.proofs.AtomsWithin.{Within, all_within, any_within, one, two_parts, three_parts, if_within}

-- What reading says of a source

abbrev pub ReadsPort : PortPart → Type 0
ReadsPort (port_part.Number n) = n < 2 ^ 16
ReadsPort other = Unit {0}

abbrev pub ReadsPath : PathPart → Type 0
ReadsPath path_part.Absent = Unit {0}
ReadsPath (path_part.Exact pieces) = (pieces ≢ []) × (list_all are_bytes pieces ≡ true)
ReadsPath (path_part.Prefix pieces) = list_all are_bytes pieces ≡ true

abbrev pub ReadsSource : Source → Type 0
ReadsSource (source.SchemeOnly scheme) = is_lower_scheme scheme ≡ true
ReadsSource (source.Hosted scheme host port path) = ReadsPort port × ReadsPath path
ReadsSource (source.Nonce value) = is_base64_value value ≡ true
ReadsSource other = Unit {0}

-- Shapes whose checks have a URL

and_true : (b : Bool) → (b && true) ≡ b
and_true true = refl
and_true false = refl

pub record HasUrl (kind : Shape) : Type 0 where
  pub has : (p : CheckPart) → is_url_part (shape_scheme kind) p ≡ true → checks_have kind p ≡ true
  pub compares : after_redirect kind ≡ false → is_ancestor kind ≡ false → compares_paths kind ≡ true

hosted_port : (scheme : Scheme) → default_port scheme < 2 ^ 16
hosted_port Http = lit< tt
hosted_port Https = lit< tt
hosted_port Ws = lit< tt
hosted_port Wss = lit< tt
hosted_port Ftp = lit< tt

-- Pieces

piece_by : (piece : List ℕ) → are_bytes piece ≡ true → (bytes_eq piece (codes ".") || bytes_eq piece (codes "..")) ≡ false → is_piece piece ≡ true
unfolding is_piece
piece_by piece bytes none = by (are_bytes piece) (bytes_eq piece (codes ".")) (bytes_eq piece (codes "..")) bytes none where
  by : (a b c : Bool) → a ≡ true → (b || c) ≡ false → (a && not b && not c) ≡ true
  by true false false e f = refl
  by true true c e f = absurd (false≢true (sym f))
  by true false true e f = absurd (false≢true (sym f))
  by false b c e f = absurd (false≢true e)

neither : (a b : Bool) → (a || b) ≡ false → (a ≡ false) × (b ≡ false)
neither false b e = (refl, e)
neither true b e = absurd (false≢true (sym e))

pieces_by : (pieces : List (List ℕ)) → list_all are_bytes pieces ≡ true → has_dots pieces ≡ false → list_all is_piece pieces ≡ true
pieces_by [] bytes none = refl
pieces_by (p ∷ ps) bytes none =
    let all = and_parts (are_bytes p) (list_all are_bytes ps) bytes in
    let no = neither (bytes_eq p (codes ".") || bytes_eq p (codes "..")) (has_dots ps) none in
    and_from (is_piece p) (list_all is_piece ps) (piece_by p all.0 no.0) (pieces_by ps all.1 no.1)

four_numbers_address : (text : List ℕ) → is_four_numbers text ≡ true → is_address text ≡ true
unfolding is_address
four_numbers_address text four = or_left (is_four_numbers text) (is_bracketed text) four

some_pieces : (pieces : List (List ℕ)) → not (is_nonempty pieces) ≡ false → pieces ≢ []
some_pieces [] e = absurd (false≢true (sym e))
some_pieces (p ∷ ps) e = λ (f : p ∷ ps ≡ []). cc f

small_port : (port : Option ℕ) (default : ℕ) → IfSome port (λ n. (n < 2 ^ 16) × (n ≢ default)) → IfSome port (λ n. n < 2 ^ 16)
small_port None default valid = tt
small_port (Some n) default valid = valid.0

not_some : (o : Option Scheme) → is_some o ≡ false → IsNone o
not_some None e = refl
not_some (Some scheme) e = absurd (false≢true (sym e))

-- Sources

module _ (kind : Shape) (hashes : List Hash) (url : HasUrl kind) where
  abbrev P : Atom → Type 0
  P = IsAtomAt kind hashes

  seen : (p : CheckPart) (is_path compares : Bool) → checks_have kind p ≡ true → (not is_path || compares) ≡ true
      → (checks_have kind p && (not is_path || compares)) ≡ true
  seen p is_path compares has looks = and_from (checks_have kind p) (not is_path || compares) has looks

  module _ (scheme : Scheme) (at : shape_scheme kind ≡ Some scheme) where
    sees_host : looks_at kind part.Host ≡ true
    sees_host = seen part.Host false (compares_paths kind) (url.has part.Host (ap (λ s. is_url_part s part.Host) at)) refl

    sees_port : looks_at kind part.Port ≡ true
    sees_port = seen part.Port false (compares_paths kind) (url.has part.Port (ap (λ s. is_url_part s part.Port) at)) refl

    sees_path : after_redirect kind ≡ false → is_ancestor kind ≡ false → looks_at kind part.Path ≡ true
    sees_path direct other =
        seen part.Path true (compares_paths kind) (url.has part.Path (ap (λ s. is_url_part s part.Path) at)) (url.compares direct other)

    host_within : (p : HostPart) → Within P (host_sentence p)
    host_within host_part.Any = one P HostDomain (record { belongs = sees_host; valid = λ _. tt; known = tt })
    host_within (host_part.Under suffix) =
        if_within P (is_domain suffix) (Fact (HostUnder suffix)) (Known false)
        (λ d. one P (HostUnder suffix) (record { belongs = sees_host; valid = λ _. d; known = tt })) (λ _. All-nil P)
    host_within (host_part.Exact text) =
        if_within P (is_domain text) (Fact (HostIs (Domain text))) (if is_four_numbers text then Fact (HostIs (Address text)) else Known false)
        (λ d. one P (HostIs (Domain text)) (record { belongs = sees_host; valid = λ _. d; known = tt }))
        (λ _. if_within P (is_four_numbers text) (Fact (HostIs (Address text))) (Known false)
        (λ f. one P (HostIs (Address text)) (record { belongs = sees_host; valid = λ _. four_numbers_address text f; known = tt })) (λ _. All-nil P))

    port_is : (n : ℕ) → n < 2 ^ 16 → All P (PortIs n ∷ [])
    port_is n small = one P (PortIs n) (record { belongs = sees_port; valid = λ _. small; known = tt })

    port_within : (p : PortPart) → ReadsPort p → Within P (port_sentence p scheme)
    port_within port_part.Absent read = port_is (default_port scheme) (hosted_port scheme)
    port_within port_part.Any read = All-nil P
    port_within (port_part.Number n) read = port_is n read
    port_within port_part.TooLarge read = All-nil P

    fact_within : (always never : Bool) (atom : Atom) → (always ≡ false → never ≡ false → P atom) → Within P (path_fact always never atom)
    fact_within always never atom p =
        if_within P always (Known true) (if never then Known false else Fact atom) (λ _. All-nil P)
        (λ a. if_within P never (Known false) (Fact atom) (λ _. All-nil P) (λ b. one P atom (p a b)))

    path_within : (p : PathPart) → ReadsPath p → Within P (path_sentence p kind)
    path_within path_part.Absent read = All-nil P
    path_within (path_part.Exact pieces) read =
        fact_within (after_redirect kind) (has_dots pieces || is_ancestor kind) (PathIs pieces) (λ direct never.
        let none = neither (has_dots pieces) (is_ancestor kind) never in
        record { belongs = sees_path direct none.1; valid = λ _. (read.0, pieces_by pieces read.1 none.0); known = tt })
    path_within (path_part.Prefix pieces) read =
        fact_within (after_redirect kind || not (is_nonempty pieces)) (has_dots pieces || is_ancestor kind) (PathUnder pieces) (λ always never.
        let direct = neither (after_redirect kind) (not (is_nonempty pieces)) always in
        let none = neither (has_dots pieces) (is_ancestor kind) never in
        record { belongs = sees_path direct.0 none.1; valid = λ _. (some_pieces pieces direct.1, pieces_by pieces read none.0); known = tt })

    own_port_within : (port : Option ℕ) → IfSome port (λ n. n < 2 ^ 16) → Within P (own_port_sentence port scheme)
    own_port_within None small = port_is (default_port scheme) (hosted_port scheme)
    own_port_within (Some n) small =
        if_within P (n == default_port scheme) (Known false) (Fact (PortIs n)) (λ _. All-nil P) (λ _. port_is n small)

    host_source_by : (part : Option (List ℕ)) (h : HostPart) (p : PortPart) (path : PathPart) (self : Origin) → ReadsPort p → ReadsPath path
        → Within P (host_source_sentence part h p path self kind (Some scheme))
    host_source_by part h p path self reads_port reads_path =
        let x = host_sentence h in
        let y = port_sentence p scheme in
        let z = path_sentence path kind in
        if_within P (own_scheme_matches part self (scheme_text scheme)) (all_of (x ∷ y ∷ z ∷ [])) (Known false)
        (λ _. all_within P (x ∷ y ∷ z ∷ []) (three_parts P x y z (host_within h) (port_within p reads_port) (path_within path reads_path)))
        (λ _. All-nil P)

    self_by : (self : Origin) → IsValidOrigin self → Within P (self_sentence self (Some scheme))
    self_by origin.Opaque valid = All-nil P
    self_by (origin.Tuple own host port) valid =
        let x = Fact (HostIs host) in
        let y = own_port_sentence port scheme in
        if_within P (self_scheme_matches own scheme) (all_of (x ∷ y ∷ [])) (Known false)
        (λ _. all_within P (x ∷ y ∷ []) (two_parts P x y
        (one P (HostIs host) (record { belongs = sees_host; valid = λ _. valid.1; known = tt }))
        (own_port_within port (small_port port (default_port own) valid.2))))
        (λ _. All-nil P)

  sees_plain : shape_scheme kind ≡ None → looks_at kind part.PlainScheme ≡ true
  sees_plain at = seen part.PlainScheme false (compares_paths kind) (url.has part.PlainScheme (ap (λ s. is_url_part s part.PlainScheme) at)) refl

  scheme_within : (name : List ℕ) (scheme : Option Scheme) → shape_scheme kind ≡ scheme → is_lower_scheme name ≡ true → Within P (scheme_sentence name scheme)
  scheme_within name (Some scheme) at reads = All-nil P
  scheme_within name None at reads =
      if_within P (is_some (scheme_named name)) (Known false) (Fact (SchemeIs name)) (λ _. All-nil P)
      (λ other. one P (SchemeIs name) (record { belongs = sees_plain at; valid = λ _. (reads, not_some (scheme_named name) other); known = tt }))

  star_within : (scheme : Option Scheme) → Within P (star_sentence scheme)
  star_within (Some scheme) = All-nil P
  star_within None = All-nil P

  host_source_within : (part : Option (List ℕ)) (h : HostPart) (p : PortPart) (path : PathPart) (self : Origin) (scheme : Option Scheme) → shape_scheme kind ≡ scheme
      → ReadsPort p → ReadsPath path → Within P (host_source_sentence part h p path self kind scheme)
  host_source_within part h p path self None at reads_port reads_path = All-nil P
  host_source_within part h p path self (Some scheme) at reads_port reads_path = host_source_by scheme at part h p path self reads_port reads_path

  self_within : (self : Origin) (scheme : Option Scheme) → shape_scheme kind ≡ scheme → IsValidOrigin self → Within P (self_sentence self scheme)
  self_within origin.Opaque None at valid = All-nil P
  self_within (origin.Tuple own host port) None at valid = All-nil P
  self_within self (Some scheme) at valid = self_by scheme at self valid

  module _ (self : Origin) (valid : IsValidOrigin self) where
    source_within : (s : Source) → ReadsSource s → Within P (source_sentence self kind s)
    source_within source.Star reads = star_within (shape_scheme kind)
    source_within (source.SchemeOnly name) reads = scheme_within name (shape_scheme kind) refl reads
    source_within (source.Hosted part h p path) reads = host_source_within part h p path self (shape_scheme kind) refl reads.0 reads.1
    source_within (source.Word word) reads =
        if_within P (same_keyword word keyword.SelfOrigin) (self_sentence self (shape_scheme kind)) (Known false)
        (λ _. self_within self (shape_scheme kind) refl valid) (λ _. All-nil P)
    source_within (source.Nonce value) reads = All-nil P
    source_within (source.Digest hash) reads = All-nil P
    source_within (source.Other token) reads = All-nil P

    each_within : (sources : List Source) → All ReadsSource sources → All (Within P) (map (source_sentence self kind) sources)
    each_within [] reads = All-nil (Within P)
    each_within (s ∷ sources) reads =
        All-cons (Within P) (source_sentence self kind s) (map (source_sentence self kind) sources)
        (source_within s (All-head ReadsSource s sources reads)) (each_within sources (All-tail ReadsSource s sources reads))

    pub list_within : (sources : List Source) → All ReadsSource sources → Within P (list_sentence self kind sources)
    list_within sources reads = any_within P (map (source_sentence self kind) sources) (each_within sources reads)
