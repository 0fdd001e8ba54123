-- What a host-source says of the parts of a URL with a host is whether they match.
use Rattle.std.proofs.Common.{◌≡◌, ◌≢◌, ◌<◌, ◌^◌, ◌∙◌, sym, ap, refl, ℕ, arith, Bool, true, false, ◌&&◌, ◌||◌, ◌==◌, not, List, [], ◌∷◌, ◌++◌, length, length-append, inl, inr, Option, Some, None}
use Rattle.std.specs.Prelude.{if◌then◌else◌, unwrap_or, codes, is_none, IfSome}
use Rattle.std.specs.List.{list_all}
use Rattle.std.specs.Str.{bytes_eq}
use Rattle.std.specs.Cmp.Lexicographic.{pointwise}
use Rattle.std.proofs.lemmas.Bool.{and_parts, false≢true, false_from_ne_true, ne_eqb, both_ways, not_from_true, or_cases, or_from, or_left, or_right, not-true, eq-eqb, eqb-true, eqb-false}
use Rattle.std.proofs.lemmas.List.Folds.{list_any-append}
use Rattle.std.proofs.lemmas.Slice.Eq.{bytes_eq-Decides}
use Rattle.csp_model.proofs.Deciding.{same_bool}
use Rattle.csp_model.proofs.EqualityDecided.{same_host_decides}
use Rattle.csp_model.proofs.EndLaws.{beyond_Decides}
use Rattle.csp_model.proofs.MatchingDecided.{pieces_decide}
use Rattle.csp_model.specs.Ascii.{is_nonempty}
use Rattle.csp_model.specs.DecideEnds.{is_host_under, goes_beyond}
use Rattle.csp_model.specs.DecideEquality.{same_host, same_port}
use Rattle.csp_model.specs.DecideMatching.{is_domain_host, host_matches, port_matches, path_matches}
use Rattle.csp_model.specs.Parts.{checked_url}
use Rattle.csp_model.specs.Paths.{host_text}
use Rattle.csp_model.specs.Schemes.{default_port}
use Rattle.csp_model.specs.Validity.{IsValidHost, IsValidPort, is_domain, is_four_numbers, is_bracketed, is_address, is_piece, are_bytes}
use Rattle.csp_model.specs.declared.check.Check.{Check}
use Rattle.csp_model.specs.declared.source.Hash.{Hash}
use Rattle.csp_model.specs.declared.source.HostPart.{HostPart}
use Rattle.csp_model.specs.declared.source.HostPart.TheVariants as host_part
use Rattle.csp_model.specs.declared.source.PathPart.{PathPart}
use Rattle.csp_model.specs.declared.source.PathPart.TheVariants as path_part
use Rattle.csp_model.specs.declared.source.PortPart.{PortPart}
use Rattle.csp_model.specs.declared.source.PortPart.TheVariants as port_part
use Rattle.csp_model.specs.declared.url.Host.{Host}
use Rattle.csp_model.specs.declared.url.Host.TheVariants.{Domain, Address}
use Rattle.csp_model.specs.declared.url.Scheme.{Scheme}
use Rattle.csp_model.specs.declared.url.Url.TheVariants as url
use Rattle.csp_facts.proofs.SpelledHosts.{host_told}
use Rattle.csp_facts.specs.Holding.{on_hosted, holds}
use Rattle.csp_facts.specs.declared.atom.Atom.{Atom}
use Rattle.csp_facts.specs.declared.atom.Atom.TheVariants.{HostIs, HostUnder, PortIs, PathIs, PathUnder}
use Rattle.csp_facts.specs.declared.shape.Shape.{Shape}
use Rattle.csp_formula.specs.Sentences.{Known, Fact}
use Rattle.csp_formula.specs.Sources.{host_sentence, port_sentence, is_dots, has_dots, path_fact, path_sentence, after_redirect, is_ancestor, own_port_sentence}
use Rattle.csp_formula.specs.Values.{is_true_for}
use Rattle.csp_formula.proofs.SuffixDomain.{nonempty, suffix_domain}

-- what reading says of a host and of a path
abbrev pub IsReadHost : HostPart → Type 0
IsReadHost host_part.Any = Unit {0}
IsReadHost (host_part.Under suffix) = suffix ≢ []
IsReadHost (host_part.Exact text) = is_bracketed text ≡ false

abbrev pub IsReadPath : PathPart → Type 0
IsReadPath path_part.Absent = Unit {0}
IsReadPath (path_part.Exact pieces) = pieces ≢ [] ∷ []
IsReadPath (path_part.Prefix pieces) = Unit {0}

-- Hosts

four_numbers_address : (text : List ℕ) → is_four_numbers text ≡ true → is_address text ≡ true
unfolding is_address
four_numbers_address text h = rw h refl

address_four_numbers : (text : List ℕ) → is_bracketed text ≡ false → is_address text ≡ true → is_four_numbers text ≡ true
unfolding is_address
address_four_numbers text other h = elim (or_cases (is_four_numbers text) (is_bracketed text) h) [
  | inl numbers ↦ numbers
  | inr bracketed ↦ absurd (both_ways (is_bracketed text) other bracketed)
]

pub same_text : (xs ys : List ℕ) → bytes_eq xs ys ≡ bytes_eq ys xs
same_text xs ys =
    same_bool (bytes_eq xs ys) (bytes_eq ys xs)
    (λ e. (bytes_eq-Decides ys xs).1 (sym ((bytes_eq-Decides xs ys).0 e)))
    (λ e. (bytes_eq-Decides xs ys).1 (sym ((bytes_eq-Decides ys xs).0 e)))

-- a valid host whose text is neither a domain nor four numbers is none that an expression can name
no_host : (text : List ℕ) → is_bracketed text ≡ false → is_domain text ≡ false → is_four_numbers text ≡ false
    → (host : Host) → IsValidHost host → text ≡ host_text host → ⊥
no_host text plain no_domain no_numbers (Domain name) valid e = both_ways (is_domain text) no_domain (ap is_domain e ∙ valid)
no_host text plain no_domain no_numbers (Address name) valid e = both_ways (is_four_numbers text) no_numbers (address_four_numbers text plain (ap is_address e ∙ valid))

under_domain : (suffix : List ℕ) → suffix ≢ [] → (host : Host) → IsValidHost host → is_host_under host suffix ≡ true → is_domain suffix ≡ true
under_domain suffix some (Domain name) valid e = suffix_domain name suffix some valid e
under_domain suffix some (Address name) valid e = absurd (false≢true e)

-- Ports

is_default : (default : ℕ) (port : Option ℕ) → IfSome port (λ n. (n < 2 ^ 16) × (n ≢ default)) → (unwrap_or port default == default) ≡ is_none port
is_default default None valid = eq-eqb default default refl
is_default default (Some n) valid = ne_eqb n default valid.1

own_default : (default n : ℕ) (port : Option ℕ) → IfSome port (λ m. (m < 2 ^ 16) × (m ≢ default)) → n ≡ default → false ≡ same_port (Some n) port
own_default default n None valid e = refl
own_default default n (Some m) valid e = sym (ne_eqb n m (λ is. valid.1 (sym is ∙ e)))

same_number : (m n : ℕ) → (m == n) ≡ (n == m)
same_number m n = same_bool (m == n) (n == m) (λ e. eq-eqb n m (sym (eqb-true m n e))) (λ e. eq-eqb m n (sym (eqb-true n m e)))

own_other : (default n : ℕ) (port : Option ℕ) → n ≢ default → (unwrap_or port default == n) ≡ same_port (Some n) port
own_other default n None other = ne_eqb default n (λ e. other (sym e))
own_other default n (Some m) other = same_number m n

none_same : (port : Option ℕ) → is_none port ≡ same_port None port
none_same None = refl
none_same (Some n) = refl

-- Paths

piece_no_dots : (piece : List ℕ) → is_piece piece ≡ true → (bytes_eq piece (codes ".") || bytes_eq piece (codes "..")) ≡ false
unfolding is_piece
piece_no_dots piece h =
    let parts = and_parts (are_bytes piece && not (bytes_eq piece (codes "."))) (not (bytes_eq piece (codes ".."))) h in
    or_from (bytes_eq piece (codes ".")) (bytes_eq piece (codes ".."))
    (not-true (bytes_eq piece (codes ".")) (and_parts (are_bytes piece) (not (bytes_eq piece (codes "."))) parts.0).1)
    (not-true (bytes_eq piece (codes "..")) parts.1)

no_dots : (path : List (List ℕ)) → list_all is_piece path ≡ true → has_dots path ≡ false
no_dots [] h = refl
no_dots (piece ∷ path) h =
    let parts = and_parts (is_piece piece) (list_all is_piece path) h in
    or_from (bytes_eq piece (codes ".") || bytes_eq piece (codes "..")) (has_dots path) (piece_no_dots piece parts.0) (no_dots path parts.1)

dots_front : (front rest : List (List ℕ)) → has_dots front ≡ true → has_dots (front ++ rest) ≡ true
dots_front front rest h = list_any-append is_dots front rest ∙ or_left (has_dots front) (has_dots rest) h

two_pieces : (p : List ℕ) (ps rest : List (List ℕ)) → rest ≢ [] → [] ∷ [] ≡ (p ∷ ps) ++ rest → ⊥
two_pieces p ps [] some e = some refl
two_pieces p ps (r ∷ rest) some e = omega (arith, ap length e, length-append ps (r ∷ rest))

-- what no valid path is, or is only the path of an ancestor
unlike : (pieces path : List (List ℕ)) (ancestor : Bool) → list_all is_piece path ≡ true → (ancestor ≡ true → path ≡ [] ∷ [])
    → pieces ≢ [] ∷ [] → (has_dots pieces || ancestor) ≡ true → pointwise bytes_eq pieces path ≡ false
unlike pieces path ancestor valid single other never = false_from_ne_true (pointwise bytes_eq pieces path) (λ same.
    let e = (pieces_decide pieces path).0 same in
    elim (or_cases (has_dots pieces) ancestor never) [
      | inl dots ↦ both_ways (has_dots path) (no_dots path valid) (ap has_dots (sym e) ∙ dots)
      | inr is ↦ other (e ∙ single is)
    ])

not_beyond : (pieces path : List (List ℕ)) (ancestor : Bool) → list_all is_piece path ≡ true → (ancestor ≡ true → path ≡ [] ∷ [])
    → not (is_nonempty pieces) ≡ false → (has_dots pieces || ancestor) ≡ true → goes_beyond path pieces ≡ false
not_beyond [] path ancestor valid single some never = absurd (false≢true (sym some))
not_beyond (p ∷ ps) path ancestor valid single some never = false_from_ne_true (goes_beyond path (p ∷ ps)) (λ beyond.
    let (rest, more, e) = (beyond_Decides path (p ∷ ps)).0 beyond in
    elim (or_cases (has_dots (p ∷ ps)) ancestor never) [
      | inl dots ↦ both_ways (has_dots path) (no_dots path valid) (ap has_dots e ∙ dots_front (p ∷ ps) rest dots)
      | inr is ↦ two_pieces p ps rest more (sym (single is) ∙ e)
    ])

beyond_none : (pieces path : List (List ℕ)) → path ≢ [] → not (is_nonempty pieces) ≡ true → goes_beyond path pieces ≡ true
beyond_none [] path some none = (beyond_Decides path []).1 (path, some, refl)
beyond_none (p ∷ ps) path some none =
    let more = nonempty (p ∷ ps) (λ (e : p ∷ ps ≡ []). cc) in
    absurd (both_ways (not (is_nonempty (p ∷ ps))) (not_from_true (is_nonempty (p ∷ ps)) more) none)

module _ (hashes : List Hash) (asked : Check) (scheme : Scheme) (host : Host) (port : Option ℕ) (path : List (List ℕ))
    (there : checked_url asked ≡ Some (url.Hosted scheme host port path)) where
  at_url : (test : Scheme → Host → Option ℕ → List (List ℕ) → Bool) → on_hosted (checked_url asked) test ≡ test scheme host port path
  at_url test = ap (λ u. on_hosted u test) there

  pub host_is : (name : Host) → holds hashes asked (HostIs name) ≡ same_host host name
  host_is name = at_url (λ s h p q. same_host h name)

  named : (name : Host) → IsValidHost host → IsValidHost name → same_host host name ≡ bytes_eq (host_text name) (host_text host)
  named name valid also =
      let decided = same_host_decides host name in
      same_bool (same_host host name) (bytes_eq (host_text name) (host_text host))
      (λ e. (bytes_eq-Decides (host_text name) (host_text host)).1 (ap host_text (sym (decided.0 e))))
      (λ e. decided.1 (host_told host name valid also (sym ((bytes_eq-Decides (host_text name) (host_text host)).0 e))))

  not_named : (text : List ℕ) → is_bracketed text ≡ false → IsValidHost host → is_domain text ≡ false → is_four_numbers text ≡ false
      → false ≡ bytes_eq text (host_text host)
  not_named text plain valid no_domain no_address =
      sym (false_from_ne_true (bytes_eq text (host_text host)) (λ e. no_host text plain no_domain no_address host valid ((bytes_eq-Decides text (host_text host)).0 e)))

  exact_by : (text : List ℕ) → is_bracketed text ≡ false → IsValidHost host → (d : Bool) → is_domain text ≡ d → (f : Bool) → is_four_numbers text ≡ f
      → is_true_for hashes asked (if d then Fact (HostIs (Domain text)) else if f then Fact (HostIs (Address text)) else Known false) ≡ bytes_eq text (host_text host)
  exact_by text plain valid true d f g = host_is (Domain text) ∙ named (Domain text) valid d
  exact_by text plain valid false d true f = host_is (Address text) ∙ named (Address text) valid (four_numbers_address text f)
  exact_by text plain valid false d false f = not_named text plain valid d f

  under_by : (suffix : List ℕ) → suffix ≢ [] → IsValidHost host → (d : Bool) → is_domain suffix ≡ d
      → is_true_for hashes asked (if d then Fact (HostUnder suffix) else Known false) ≡ is_host_under host suffix
  under_by suffix some valid true d = at_url (λ s h p q. is_host_under h suffix)
  under_by suffix some valid false d =
      sym (false_from_ne_true (is_host_under host suffix) (λ e. both_ways (is_domain suffix) d (under_domain suffix some host valid e)))

  pub host_said : (part : HostPart) → IsReadHost part → IsValidHost host → is_true_for hashes asked (host_sentence part) ≡ host_matches part host
  host_said host_part.Any read valid = at_url (λ s h p q. is_domain_host h)
  host_said (host_part.Under suffix) read valid = under_by suffix read valid (is_domain suffix) refl
  host_said (host_part.Exact text) read valid = exact_by text read valid (is_domain text) refl (is_four_numbers text) refl

  -- Ports

  default_said : IsValidPort scheme port → holds hashes asked (PortIs (default_port scheme)) ≡ is_none port
  default_said valid = at_url (λ s h p q. unwrap_or p (default_port s) == default_port scheme) ∙ is_default (default_port scheme) port valid

  pub port_said : (part : PortPart) → IsValidPort scheme port → is_true_for hashes asked (port_sentence part scheme) ≡ port_matches part port scheme
  port_said port_part.Absent valid = default_said valid
  port_said port_part.Any valid = refl
  port_said (port_part.Number n) valid = at_url (λ s h p q. unwrap_or p (default_port s) == n)
  port_said port_part.TooLarge valid = refl

  own_by : (n : ℕ) → IsValidPort scheme port → (d : Bool) → (n == default_port scheme) ≡ d
      → is_true_for hashes asked (if d then Known false else Fact (PortIs n)) ≡ same_port (Some n) port
  own_by n valid true e = own_default (default_port scheme) n port valid (eqb-true n (default_port scheme) e)
  own_by n valid false e = at_url (λ s h p q. unwrap_or p (default_port s) == n) ∙ own_other (default_port scheme) n port (eqb-false n (default_port scheme) e)

  pub own_port_said : (own : Option ℕ) → IsValidPort scheme port → is_true_for hashes asked (own_port_sentence own scheme) ≡ same_port own port
  own_port_said None valid = default_said valid ∙ none_same port
  own_port_said (Some n) valid = own_by n valid (n == default_port scheme) refl

  -- Paths

  looked_at : (redirected never same : Bool) (atom : Atom) → (never ≡ true → same ≡ false) → holds hashes asked atom ≡ same
      → is_true_for hashes asked (path_fact redirected never atom) ≡ (redirected || same)
  looked_at true never same atom not_so fact = refl
  looked_at false true same atom not_so fact = sym (not_so refl)
  looked_at false false same atom not_so fact = fact

  begun : (redirected none never beyond : Bool) (atom : Atom) → (none ≡ true → beyond ≡ true) → (none ≡ false → never ≡ true → beyond ≡ false)
      → holds hashes asked atom ≡ beyond → is_true_for hashes asked (path_fact (redirected || none) never atom) ≡ (redirected || beyond)
  begun true none never beyond atom so not_so fact = refl
  begun false true never beyond atom so not_so fact = sym (so refl)
  begun false false true beyond atom so not_so fact = sym (not_so refl refl)
  begun false false false beyond atom so not_so fact = fact

  pub path_said : (part : PathPart) (kind : Shape) → IsReadPath part → path ≢ [] → list_all is_piece path ≡ true → (is_ancestor kind ≡ true → path ≡ [] ∷ [])
      → is_true_for hashes asked (path_sentence part kind) ≡ (after_redirect kind || path_matches part path)
  path_said path_part.Absent kind read some valid single = sym (or_right (after_redirect kind) true refl)
  path_said (path_part.Exact pieces) kind read some valid single =
      looked_at (after_redirect kind) (has_dots pieces || is_ancestor kind) (pointwise bytes_eq pieces path) (PathIs pieces)
      (unlike pieces path (is_ancestor kind) valid single read) (at_url (λ s h p q. path_matches (path_part.Exact pieces) q))
  path_said (path_part.Prefix pieces) kind read some valid single =
      begun (after_redirect kind) (not (is_nonempty pieces)) (has_dots pieces || is_ancestor kind) (goes_beyond path pieces) (PathUnder pieces)
      (beyond_none pieces path some) (not_beyond pieces path (is_ancestor kind) valid single) (at_url (λ s h p q. path_matches (path_part.Prefix pieces) q))
