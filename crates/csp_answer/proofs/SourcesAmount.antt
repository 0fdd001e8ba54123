-- What the conjunction of a source amounts to, by the source's outline.
use Rattle.std.proofs.Common.{◌≡◌, ◌≢◌, ◌∙◌, sym, ap, ap₂, subst, refl, ℕ, Bool, true, false, cond, List, [], ◌∷◌, Option, Some, None, is_some}
use Rattle.std.specs.Option.{option_to_list}
use Rattle.csp_model.specs.DecideEquality.{same_keyword}
use Rattle.csp_model.specs.DecideMatching.{own_scheme_matches, self_scheme_matches}
use Rattle.csp_model.specs.Schemes.{scheme_named, scheme_text}
use Rattle.csp_model.specs.declared.source.HostPart.{HostPart}
use Rattle.csp_model.specs.declared.source.Keyword.{Keyword}
use Rattle.csp_model.specs.declared.source.Keyword.TheVariants as keyword
use Rattle.csp_model.specs.declared.source.PathPart.{PathPart}
use Rattle.csp_model.specs.declared.source.PortPart.{PortPart}
use Rattle.csp_model.specs.declared.source.Source.{Source}
use Rattle.csp_model.specs.declared.source.Source.TheVariants as source
use Rattle.csp_model.specs.declared.url.Host.{Host}
use Rattle.csp_model.specs.declared.url.Origin.{Origin}
use Rattle.csp_model.specs.declared.url.Origin.TheVariants as origin
use Rattle.csp_model.specs.declared.url.Scheme.{Scheme}
use Rattle.csp_facts.specs.declared.atom.Atom.{Atom}
use Rattle.csp_facts.specs.declared.atom.Atom.TheVariants.{HostIs, SchemeIs}
use Rattle.csp_facts.specs.declared.shape.Shape.{Shape}
use Rattle.csp_formula.specs.Outlines.{outlined, own_said, path_said, port_said}
use Rattle.csp_formula.specs.Sentences.{Sentence, Known, Fact, Both, all_of}
use Rattle.csp_formula.specs.Sources.{host_sentence, host_source_sentence, own_port_sentence, path_sentence, port_sentence, scheme_sentence, self_sentence, shape_scheme, source_sentence, star_sentence}
use Rattle.csp_formula.specs.Surely.{surely}
use Rattle.csp_formula.specs.declared.outline.Outline.{Outline}
use Rattle.csp_formula.specs.declared.outline.Outline.TheVariants as outline
use Rattle.csp_formula.specs.declared.outline.PathOutline.{PathOutline}
use Rattle.csp_formula.specs.declared.outline.PortOutline.{PortOutline}
use Rattle.csp_answer.specs.Asking.{AmountTo, IsAsked, IsPortNamed, conjunction_of, path_asked}
use Rattle.csp_answer.specs.Naming.{HasOwnPort, HasPort, HasPorts, IsNameOf, IsSourceNamed, host_atom, own_atom, scheme_atom}
use Rattle.csp_answer.specs.declared.conjunction.Conjunction.{Conjunction}
use Rattle.csp_answer.specs.declared.naming.SourceNames.{SourceNames}
use Rattle.csp_answer.proofs.Among.{among_same, ended_among}
use Rattle.csp_answer.proofs.Amounts.{and_always, never, turned_to}
use Rattle.csp_answer.proofs.AskedParts.{conjunction_amounts, host_said, maybe_fact, named_lead, nothing_asked, own_named, path_named, port_named}

module _ (atoms : List Atom) (self : Origin) (kind : Shape) where
  -- the source is one of a scheme

  plain_atom : (part : List ℕ) (b : Bool) → Fact (SchemeIs part) ≡ cond b (Known false) (Fact (SchemeIs part)) → cond b None (Some (SchemeIs part)) ≡ Some (SchemeIs part)
  plain_atom part true says = absurd cc
  plain_atom part false says = refl

  asked_scheme : (part : List ℕ) (scheme : Option Scheme) → Fact (SchemeIs part) ≡ scheme_sentence part scheme → scheme_atom part ≡ Some (SchemeIs part)
  asked_scheme part None says = plain_atom part (is_some (scheme_named part)) says
  asked_scheme part (Some scheme) says = absurd cc

  pub scheme_amounts : (part : List ℕ) (lead : Option ℕ) → IsNameOf atoms (scheme_atom part) lead → outlined outline.Scheme self (source.SchemeOnly part) ≡ source_sentence self kind (source.SchemeOnly part)
      → AmountTo atoms (source_sentence self kind (source.SchemeOnly part)) (option_to_list (conjunction_of lead (Some None) (Some None)))
  scheme_amounts part lead is says =
      let asked = named_lead atoms (scheme_atom part) lead is in
      let nothing = nothing_asked atoms in
      turned_to atoms (all_of (maybe_fact (scheme_atom part) ∷ Known true ∷ Known true ∷ [])) (source_sentence self kind (source.SchemeOnly part)) (option_to_list (conjunction_of lead (Some None) (Some None)))
      (conjunction_amounts atoms (maybe_fact (scheme_atom part)) (Known true) (Known true) lead (Some None) (Some None) asked nothing nothing)
      (λ ls. and_always (surely ls (maybe_fact (scheme_atom part)))
      ∙ ap (λ a. surely ls (maybe_fact a)) (asked_scheme part (shape_scheme kind) says) ∙ ap (surely ls) says)
      (ended_among (maybe_fact (scheme_atom part)) (source_sentence self kind (source.SchemeOnly part)) true
      (among_same (maybe_fact (scheme_atom part)) (source_sentence self kind (source.SchemeOnly part)) (ap maybe_fact (asked_scheme part (shape_scheme kind) says) ∙ says)))

  -- the source is one of a host

  all_parts : (x y z p q : Sentence) (b : Bool) → all_of (x ∷ y ∷ z ∷ []) ≡ cond b (all_of (x ∷ p ∷ q ∷ [])) (Known false) → (y ≡ p) × (z ≡ q)
  all_parts x y z p q true says = (cc, cc)
  all_parts x y z p q false says = absurd cc

  host_parts : (scheme : Option (List ℕ)) (host : HostPart) (part : PortPart) (front : PathPart) (at : PortOutline) (by : PathOutline) (asked : Option Scheme) → shape_scheme kind ≡ asked
      → outlined (outline.Hosted at by) self (source.Hosted scheme host part front) ≡ source_sentence self kind (source.Hosted scheme host part front)
      → (s : Scheme) × (port_said at ≡ port_sentence part s) × (path_said by front ≡ path_sentence front kind)
  host_parts scheme host part front at by None is says =
      absurd (let never = says ∙ ap (λ o. host_source_sentence scheme host part front self kind o) is in cc)
  host_parts scheme host part front at by (Some s) is says =
      let shown = says ∙ ap (λ o. host_source_sentence scheme host part front self kind o) is in
      let parts = all_parts (host_sentence host) (port_said at) (path_said by front) (port_sentence part s) (path_sentence front kind) (own_scheme_matches scheme self (scheme_text s)) shown in
      (s, parts.0, parts.1)

  pub host_port_named : (scheme : Option (List ℕ)) (host : HostPart) (part : PortPart) (front : PathPart) (at : PortOutline) (by : PathOutline) (names : SourceNames)
      → IsSourceNamed atoms self (source.Hosted scheme host part front) names → HasPorts atoms self
      → outlined (outline.Hosted at by) self (source.Hosted scheme host part front) ≡ source_sentence self kind (source.Hosted scheme host part front)
      → IsPortNamed atoms at
  host_port_named scheme host part front at by names named ports says =
      let parts = host_parts scheme host part front at by (shape_scheme kind) refl says in
      port_named atoms at part parts.0
      (λ n is. subst (HasPort atoms) (ap (λ p. source.Hosted scheme host p front) is) named.port) ports.defaults parts.1

  pub host_amounts : (scheme : Option (List ℕ)) (host : HostPart) (part : PortPart) (front : PathPart) (at : PortOutline) (by : PathOutline) (names : SourceNames) (asked : Option (Option ℕ))
      → IsSourceNamed atoms self (source.Hosted scheme host part front) names → IsAsked atoms (port_said at) asked
      → outlined (outline.Hosted at by) self (source.Hosted scheme host part front) ≡ source_sentence self kind (source.Hosted scheme host part front)
      → AmountTo atoms (source_sentence self kind (source.Hosted scheme host part front)) (option_to_list (conjunction_of names.lead asked (path_asked by names.rest)))
  host_amounts scheme host part front at by names asked named of_port says =
      let parts = host_parts scheme host part front at by (shape_scheme kind) refl says in
      let conjunction = option_to_list (conjunction_of names.lead asked (path_asked by names.rest)) in
      subst (λ s. AmountTo atoms s conjunction) (ap (λ x. all_of (x ∷ port_said at ∷ path_said by front ∷ [])) (sym (host_said host)) ∙ says)
      (conjunction_amounts atoms (maybe_fact (host_atom host)) (port_said at) (path_said by front) names.lead asked (path_asked by names.rest)
      (named_lead atoms (host_atom host) names.lead named.lead) of_port (path_named atoms by front kind names.rest named.rest parts.2))

  -- the source is `'self'`

  self_part : (x y p : Sentence) (b : Bool) → all_of (x ∷ y ∷ []) ≡ cond b (all_of (x ∷ p ∷ [])) (Known false) → y ≡ p
  self_part x y p true says = cc
  self_part x y p false says = absurd cc

  own_port_is : (own : Scheme) (host : Host) (port : Option ℕ) (at : PortOutline) (asked : Option Scheme)
      → all_of (Fact (HostIs host) ∷ port_said at ∷ []) ≡ self_sentence (origin.Tuple own host port) asked
      → (s : Scheme) × (port_said at ≡ own_port_sentence port s)
  own_port_is own host port at None says = absurd cc
  own_port_is own host port at (Some s) says =
      (s, self_part (Fact (HostIs host)) (port_said at) (own_port_sentence port s) (self_scheme_matches own s) says)

  own_amounts : (own : Option Atom) (at : PortOutline) (lead : Option ℕ) (asked : Option (Option ℕ)) → IsNameOf atoms own lead → IsAsked atoms (port_said at) asked
      → AmountTo atoms (all_of (maybe_fact own ∷ port_said at ∷ [])) (option_to_list (conjunction_of lead asked (Some None)))
  own_amounts own at lead asked is of_port =
      turned_to atoms (all_of (maybe_fact own ∷ port_said at ∷ Known true ∷ [])) (all_of (maybe_fact own ∷ port_said at ∷ [])) (option_to_list (conjunction_of lead asked (Some None)))
      (conjunction_amounts atoms (maybe_fact own) (port_said at) (Known true) lead asked (Some None) (named_lead atoms own lead is) of_port (nothing_asked atoms))
      (λ ls. refl) (λ atom has. has)

  self_amounts_at : (from : Origin) (b : Bool) (at : PortOutline) (lead : Option ℕ) (asked : Option (Option ℕ)) (scheme : Option Scheme)
      → IsNameOf atoms (cond b (own_atom from) None) lead → HasPorts atoms from → (IsPortNamed atoms at → IsAsked atoms (port_said at) asked)
      → own_said at from ≡ cond b (self_sentence from scheme) (Known false)
      → AmountTo atoms (cond b (self_sentence from scheme) (Known false)) (option_to_list (conjunction_of lead asked (Some None)))
  self_amounts_at (origin.Tuple own host port) true at lead asked scheme is ports of_port says =
      let (s, port_is) = own_port_is own host port at scheme says in
      let has = own_named atoms at port s (λ n has. subst (HasOwnPort atoms) (ap (origin.Tuple own host) has) ports.own) ports.defaults port_is in
      subst (λ x. AmountTo atoms x (option_to_list (conjunction_of lead asked (Some None)))) says (own_amounts (Some (HostIs host)) at lead asked is (of_port has))
  self_amounts_at (origin.Tuple own host port) false at lead asked scheme is ports of_port says = absurd cc
  self_amounts_at origin.Opaque true at None asked scheme is ports of_port says = subst (λ x. AmountTo atoms x []) says (never atoms)
  self_amounts_at origin.Opaque false at None asked scheme is ports of_port says = subst (λ x. AmountTo atoms x []) says (never atoms)
  self_amounts_at origin.Opaque true at (Some n) asked scheme is ports of_port says = absurd cc
  self_amounts_at origin.Opaque false at (Some n) asked scheme is ports of_port says = absurd cc

  pub self_amounts : (which : Keyword) (at : PortOutline) (names : SourceNames) (asked : Option (Option ℕ)) → IsSourceNamed atoms self (source.Word which) names → HasPorts atoms self
      → (IsPortNamed atoms at → IsAsked atoms (port_said at) asked)
      → outlined (outline.Own at) self (source.Word which) ≡ source_sentence self kind (source.Word which)
      → AmountTo atoms (source_sentence self kind (source.Word which)) (option_to_list (conjunction_of names.lead asked (Some None)))
  self_amounts which at names asked named ports of_port says =
      self_amounts_at self (same_keyword which keyword.SelfOrigin) at names.lead asked (shape_scheme kind) named.lead ports of_port says

  -- the source never matches

  star_apart : (x y : Sentence) (scheme : Option Scheme) → Both x y ≢ star_sentence scheme
  star_apart x y None says = cc
  star_apart x y (Some scheme) says = cc

  scheme_apart : (x y : Sentence) (part : List ℕ) (scheme : Option Scheme) → Both x y ≢ scheme_sentence part scheme
  scheme_apart x y part None says = plain_apart (is_some (scheme_named part)) says where
    plain_apart : (b : Bool) → Both x y ≢ cond b (Known false) (Fact (SchemeIs part))
    plain_apart true says = cc
    plain_apart false says = cc
  scheme_apart x y part (Some scheme) says = cc

  host_apart : (x y : Sentence) (scheme : Option (List ℕ)) (host : HostPart) (part : PortPart) (front : PathPart) (asked : Option Scheme)
      → all_of (x ∷ y ∷ []) ≢ host_source_sentence scheme host part front self kind asked
  host_apart x y scheme host part front None says = cc
  host_apart x y scheme host part front (Some s) says = by_scheme (own_scheme_matches scheme self (scheme_text s)) says where
    by_scheme : (b : Bool) → all_of (x ∷ y ∷ []) ≢ cond b (all_of (host_sentence host ∷ port_sentence part s ∷ path_sentence front kind ∷ [])) (Known false)
    by_scheme true says = cc
    by_scheme false says = cc

  own_never : (from : Origin) (at : PortOutline) (x : Sentence) → ((y z : Sentence) → all_of (y ∷ z ∷ []) ≢ x) → own_said at from ≡ x → x ≡ Known false
  own_never (origin.Tuple own host port) at x apart says = absurd (apart (Fact (HostIs host)) (port_said at) says)
  own_never origin.Opaque at x apart says = sym says

  -- each arm of the code, where the outline and the source are known by equations

  pub scheme_case : (o : Outline) (s : Source) (part : List ℕ) (names : SourceNames) (made : Option Conjunction) → IsSourceNamed atoms self s names
      → o ≡ outline.Scheme → s ≡ source.SchemeOnly part → outlined o self s ≡ source_sentence self kind s → made ≡ conjunction_of names.lead (Some None) (Some None)
      → AmountTo atoms (source_sentence self kind s) (option_to_list made)
  scheme_case o s part names made named is at says given =
      let said = ap₂ (λ (x : Outline) (y : Source). outlined x self y) (sym is) (sym at) ∙ says ∙ ap (source_sentence self kind) at in
      let lead = (subst (λ x. IsSourceNamed atoms self x names) at named).lead in
      subst (λ x. AmountTo atoms (source_sentence self kind x) (option_to_list made)) (sym at)
      (subst (λ m. AmountTo atoms (source_sentence self kind (source.SchemeOnly part)) (option_to_list m)) (sym given) (scheme_amounts part names.lead lead said))

  pub host_case : (o : Outline) (s : Source) (scheme : Option (List ℕ)) (host : HostPart) (part : PortPart) (front : PathPart) (at : PortOutline) (by : PathOutline) (names : SourceNames)
      (asked way : Option (Option ℕ)) (made : Option Conjunction) → IsSourceNamed atoms self s names → HasPorts atoms self
      → o ≡ outline.Hosted at by → s ≡ source.Hosted scheme host part front → outlined o self s ≡ source_sentence self kind s
      → (IsPortNamed atoms at → IsAsked atoms (port_said at) asked) → way ≡ path_asked by names.rest → made ≡ conjunction_of names.lead asked way
      → AmountTo atoms (source_sentence self kind s) (option_to_list made)
  host_case o s scheme host part front at by names asked way made named ports is is_host says of_port of_path given =
      let said = ap₂ (λ (x : Outline) (y : Source). outlined x self y) (sym is) (sym is_host) ∙ says ∙ ap (source_sentence self kind) is_host in
      let own = subst (λ x. IsSourceNamed atoms self x names) is_host named in
      subst (λ x. AmountTo atoms (source_sentence self kind x) (option_to_list made)) (sym is_host)
      (subst (λ m. AmountTo atoms (source_sentence self kind (source.Hosted scheme host part front)) (option_to_list m)) (sym (given ∙ ap (conjunction_of names.lead asked) of_path))
      (host_amounts scheme host part front at by names asked own (of_port (host_port_named scheme host part front at by names own ports said)) said))

  pub self_case : (o : Outline) (s : Source) (which : Keyword) (at : PortOutline) (names : SourceNames) (asked : Option (Option ℕ)) (made : Option Conjunction)
      → IsSourceNamed atoms self s names → HasPorts atoms self
      → o ≡ outline.Own at → s ≡ source.Word which → outlined o self s ≡ source_sentence self kind s
      → (IsPortNamed atoms at → IsAsked atoms (port_said at) asked) → made ≡ conjunction_of names.lead asked (Some None)
      → AmountTo atoms (source_sentence self kind s) (option_to_list made)
  self_case o s which at names asked made named ports is is_word says of_port given =
      let said = ap₂ (λ (x : Outline) (y : Source). outlined x self y) (sym is) (sym is_word) ∙ says ∙ ap (source_sentence self kind) is_word in
      let own = subst (λ x. IsSourceNamed atoms self x names) is_word named in
      subst (λ x. AmountTo atoms (source_sentence self kind x) (option_to_list made)) (sym is_word)
      (subst (λ m. AmountTo atoms (source_sentence self kind (source.Word which)) (option_to_list m)) (sym given) (self_amounts which at names asked own ports of_port said))

  own_otherwise : (s : Source) (at : PortOutline) → ((which : Keyword) → s ≢ source.Word which) → own_said at self ≡ source_sentence self kind s → source_sentence self kind s ≡ Known false
  own_otherwise source.Star at other says = own_never self at (star_sentence (shape_scheme kind)) (λ y z. star_apart y (all_of (z ∷ [])) (shape_scheme kind)) says
  own_otherwise (source.SchemeOnly x) at other says =
      own_never self at (scheme_sentence x (shape_scheme kind)) (λ y z. scheme_apart y (all_of (z ∷ [])) x (shape_scheme kind)) says
  own_otherwise (source.Hosted x y z w) at other says =
      own_never self at (host_source_sentence x y z w self kind (shape_scheme kind)) (λ a b. host_apart a b x y z w (shape_scheme kind)) says
  own_otherwise (source.Word which) at other says = absurd (other which refl)
  own_otherwise (source.Nonce value) at other says = refl
  own_otherwise (source.Digest hash) at other says = refl
  own_otherwise (source.Other token) at other says = refl

  pub own_case : (o : Outline) (s : Source) (at : PortOutline) → o ≡ outline.Own at → ((which : Keyword) → s ≢ source.Word which) → outlined o self s ≡ source_sentence self kind s
      → AmountTo atoms (source_sentence self kind s) []
  own_case o s at is other says =
      subst (λ x. AmountTo atoms x []) (sym (own_otherwise s at other (ap (λ x. outlined x self s) (sym is) ∙ says))) (never atoms)
